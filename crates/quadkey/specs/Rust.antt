-- `quadkey.rs` as functions on values, in the Rust's own widths and with its checks, and that its answers are those of the definitions.
use Rattle.std.specs.Prelude.{◌≡◌, refl, Bool, true, false, cond, not, ◌&&◌, ◌||◌, List, [], ◌∷◌, map, ℕ, zero, suc, ◌+◌, ◌-◌, ◌*◌, ◌/◌, ◌%◌, ◌^◌, ◌≤◌, ◌<◌, leb, ltb, eqb, length, Option, None, Some, unwrap_or}
use Rattle.std.proofs.Common.{ap, le_trans, mod-eq_of_lt, pow-suc, div-one, add-one, arith, pow_mono, pow_pos, leb-true, leb-false, le-leb, ltb-true, lt-ltb, le-ltb, eq-eqb, ne_eqb}
use Rattle.std.specs.Int.Bits.{bit_and, bit_or, bit_xor}
use Rattle.std.proofs.lemmas.Nat.{and_mask, or_shifted}
use Rattle.std.proofs.lemmas.Nat.Bits.{and_high}
use Rattle.std.proofs.Math.Pow.{are_bytes, pow-lt, shr_mod}
use Rattle.std.proofs.lemmas.Bool.{lt-leb}
use Rattle.bits.specs.Bits.{bit, bit_small, bit_masked}
use Rattle.bits.specs.Checked.{Run, stops, returns, ◌then◌, read, only, plus, minus, shift_up, shift_down, cut}
use Rattle.bits.specs.Checked.{fits, minus_fits, shifted_up, one_shifted, shifted_down}
use Rattle.constants.specs.Limits.{at_least_29}
use Rattle.errors.specs.Answer.{Answer, ◌when◌, ◌else◌}
use Rattle.tile.specs.OnMap.{tile_at, no_tile_of}
use Rattle.tile.specs.Order.{tile_ext}
use Rattle.tile.specs.Rust.{To29, accepted, rust_new}
use Rattle.tile.specs.declared.Tile.{Tile}
use Rattle.quadkey.specs.Key.{digit_at, key_from, key_of, is_digit, all_digits_of, key_refusal, is_key, spelled, column_of, row_of, flip_digit}
use Rattle.bits.specs.Tests.{and_parts}
use Rattle.quadkey.specs.Bytes.{by_digit, digit_bounds, digits_first}

-- `(n & mask) != 0`
abbrev pub is_set : ℕ → ℕ → Bool
is_set n mask = not (eqb (bit_and n mask) 0)

-- a digit of `xyz2quadkey_vec`
abbrev pub digit_set_of : ℕ → ℕ → ℕ → Run ℕ
digit_set_of x y i = shift_up 32 1 i then λ mask. returns (cond (is_set x mask) 1 0 + cond (is_set y mask) 2 0)

-- `xyz2quadkey_vec`: i from z - 1 down to 0
unfoldable pub digits_set : ℕ → ℕ → ℕ → Run (List ℕ)
digits_set x y zero = returns []
digits_set x y (suc i) = digit_set_of x y i then λ d. digits_set x y i then λ ds. returns (d ∷ ds)

-- `QuadkeyCharsIter::next`, by (right, down), and `as_char`
abbrev pub char_for : Bool → Bool → ℕ
char_for false false = 48
char_for true false = 49
char_for false true = 50
char_for true true = 51

-- the characters from an index on, until it is no longer below z. It is given a number of turns, and counts as stopped where they are
-- used up: a theorem by which it returns something shows that they were enough
unfoldable pub chars_from : ℕ → ℕ → ℕ → ℕ → ℕ → Run (List ℕ)
chars_from zero index x y z = stops
chars_from (suc turns) index x y z =
    let more =
    minus z 1 then λ last. minus last index then λ i. shift_up 32 1 i then λ mask. plus 8 index 1 then λ next.
    chars_from turns next x y z then λ cs. returns (char_for (is_set x mask) (is_set y mask) ∷ cs) in
    cond (leb z index) (returns []) more

abbrev pub chars : ℕ → ℕ → ℕ → Run (List ℕ)
chars x y z = chars_from (suc z) 0 x y z

-- `xyz2quadkey`
abbrev pub to_key : ℕ → ℕ → ℕ → Run (List ℕ)
to_key x y z = rust_new x y z then λ t. chars t.x t.y t.z

-- `QK_CHAR_MASK` and `is_quadkey_byte`
abbrev pub char_mask : ℕ
char_mask = 2 ^ 8 - 1 - bit_xor (bit_and (bit_and (bit_and 48 49) 50) 51) (bit_or (bit_or (bit_or 48 49) 50) 51)

abbrev pub is_byte : ℕ → Bool
is_byte b = eqb (bit_and b char_mask) 48

-- `is_quadkey`
unfoldable pub all_bytes : List ℕ → Bool
all_bytes [] = true
all_bytes (b ∷ bs) = is_byte b && all_bytes bs

abbrev pub is_quadkey : List ℕ → Bool
is_quadkey key = ltb (length key) 30 && all_bytes key

-- `QuadkeyRef::try_new`, with this crate's numbers for the two errors
abbrev pub key_try_new : List ℕ → ℕ
key_try_new key = 4 when leb 30 (length key) else 5 when not (is_quadkey key)

-- the fold of `to_xyz`, in 32 and 8 bits
abbrev pub folded : Tile → ℕ → Run Tile
folded t b =
    minus b 48 then λ d. shift_up 32 t.x 1 then λ x. shift_up 32 t.y 1 then λ y. shift_down 32 d 1 then λ high. plus 8 t.z 1 then λ z.
    returns (tile_at (bit_or x (bit_and d 1)) (bit_or y high) z)

unfoldable pub fold_from : Tile → List ℕ → Run Tile
fold_from t [] = returns t
fold_from t (b ∷ bs) = folded t b then λ s. fold_from s bs

-- `zoom` is the length, cut to 8 bits
abbrev pub to_xyz : List ℕ → Run Tile
to_xyz key = cond (eqb (cut 8 (length key)) 0) (returns (tile_at 0 0 0)) (fold_from (tile_at 0 0 0) key)

-- `to_xyz_iter`: the byte at place i sets bit z - 1 - i, of x for 1 and 3, of y for 2 and 3; any other byte is `unreachable!`
abbrev pub marked : ℕ → Tile → ℕ → Run Tile
marked mask t b =
    let x = cond (eqb b 49 || eqb b 51) (bit_or t.x mask) t.x in
    let y = cond (eqb b 50 || eqb b 51) (bit_or t.y mask) t.y in
    only (eqb b 48 || eqb b 49 || eqb b 50 || eqb b 51) (tile_at x y t.z)

unfoldable pub mark_from : ℕ → Tile → List ℕ → Run Tile
mark_from i t [] = returns t
mark_from i t (b ∷ bs) =
    minus t.z 1 then λ last. minus last (cut 8 i) then λ k. shift_up 32 1 k then λ mask. marked mask t b then λ s. mark_from (suc i) s bs

abbrev pub to_xyz_iter : List ℕ → Run Tile
to_xyz_iter key = let z = cut 8 (length key) in cond (eqb z 0) (returns (tile_at 0 0 0)) (mark_from 0 (tile_at 0 0 z) key)

-- `quadkey2xyz`: `try_new`, and `to_xyz` where that is no error
abbrev pub unless_error : ℕ → Run Tile → Run (Answer Tile)
unless_error zero t = read accepted t
unless_error (suc n) t = returns (record { number = suc n; value = no_tile_of })

abbrev pub quadkey2xyz : List ℕ → Run (Answer Tile)
quadkey2xyz key = unless_error (key_try_new key) (to_xyz key)

-- `from_char`, `flipy`, `as_char` of one character
abbrev pub flip_char : ℕ → Option ℕ
flip_char b = cond (eqb b 48) (Some 50) (cond (eqb b 49) (Some 51) (cond (eqb b 50) (Some 48) (cond (eqb b 51) (Some 49) None)))

abbrev pub pushed : Option ℕ → Option (List ℕ) → Option (List ℕ)
pushed None cs = None
pushed (Some c) None = None
pushed (Some c) (Some cs) = Some (c ∷ cs)

unfoldable pub flip_chars : List ℕ → Option (List ℕ)
flip_chars [] = Some []
flip_chars (b ∷ bs) = pushed (flip_char b) (flip_chars bs)

-- `quadkey_flipy`: the empty string where a character is no digit
abbrev pub flip_string : List ℕ → List ℕ
flip_string key = unwrap_or (flip_chars key) []

-- the mask of a bit tests the bit
pub bit_is_set : (n i : ℕ) → bit n i ≡ cond (is_set n (2 ^ i)) 1 0
bit_is_set n i = rw (bit_masked n i) (pick (bit n i) (bit_small n i))
  where
    pick : (b : ℕ) → b < 2 → b ≡ cond (not (eqb (b * 2 ^ i) 0)) 1 0
    pick zero l = let e : 0 * 2 ^ i ≡ 0 = omega arith in rw e
    pick (suc zero) l = rw (ne_eqb (1 * 2 ^ i) 0 (λ e. omega (arith, pow_pos i)))
    pick (suc (suc b)) l = absurd (omega arith)

pub digit_set : (x y i : ℕ) → i < 32 → digit_set_of x y i ≡ returns (digit_at x y i)
digit_set x y i h = rw (one_shifted 32 i h, bit_is_set x i, bit_is_set y i) (pick (is_set x (2 ^ i)) (is_set y (2 ^ i)))
  where
    pick : (p q : Bool) → returns (cond p 1 0 + cond q 2 0) ≡ returns (2 * cond q 1 0 + cond p 1 0)
    pick true true = refl
    pick true false = refl
    pick false true = refl
    pick false false = refl

pub digits_set_lem : (x y z : ℕ) → z ≤ 32 → digits_set x y z ≡ returns (key_from 0 x y z)
unfolding digits_set key_from
digits_set_lem x y zero h = refl
digits_set_lem x y (suc z) h =
    let e : 0 + digit_at x y z ≡ digit_at x y z = omega arith in
    rw (digit_set x y z h, digits_set_lem x y z (omega arith), e)

char_for_lem : (x y i : ℕ) → char_for (is_set x (2 ^ i)) (is_set y (2 ^ i)) ≡ 48 + digit_at x y i
char_for_lem x y i = rw (bit_is_set x i, bit_is_set y i) (pick (is_set x (2 ^ i)) (is_set y (2 ^ i)))
  where
    pick : (p q : Bool) → char_for p q ≡ 48 + (2 * cond q 1 0 + cond p 1 0)
    pick true true = refl
    pick true false = refl
    pick false true = refl
    pick false false = refl

-- with `left` characters to come
chars_from_lem : (turns left index x y z : ℕ) → index + left ≡ z → z ≤ 32 → left < turns
    → chars_from turns index x y z ≡ returns (key_from 48 x y left)
unfolding chars_from key_from
chars_from_lem zero left index x y z e h l = absurd (omega arith)
chars_from_lem (suc turns) zero index x y z e h l = let k : z ≤ index = omega arith in rw (le-leb _ _ k)
chars_from_lem (suc turns) (suc left) index x y z e h l =
    let k : index < z = omega arith in
    let i : z - 1 - index ≡ left = omega arith in
    rw (
      lt-leb _ _ k,
      minus_fits z 1 (omega arith),
      minus_fits (z - 1) index (omega arith),
      i,
      one_shifted 32 left (omega arith),
      fits 8 (index + 1) (omega arith),
      chars_from_lem turns left (index + 1) x y z (omega arith) h (omega arith),
      char_for_lem x y left,
    )

pub chars_are : (x y z : ℕ) → z ≤ 32 → chars x y z ≡ returns (key_of x y z)
chars_are x y z h = chars_from_lem (suc z) z 0 x y z (omega arith) h (omega arith)

pub to_key_lem : (x y z : ℕ) → To29 x y z → to_key x y z ≡ returns (key_of x y z)
to_key_lem x y z m =
    let h : z < 32 = omega (arith, m.zoom) in
    rw (one_shifted 32 z h, lt-ltb _ _ m.column, lt-ltb _ _ m.row) (chars_are x y z (omega arith))

pub byte_is_digit : (b : ℕ) → b < 256 → is_byte b ≡ is_digit b
byte_is_digit b h = rw (and_high b 6 2, shr_mod 6 2 h) (pick (leb 48 b) refl (leb b 51) refl)
  where
    pick : (p : Bool) → leb 48 b ≡ p → (q : Bool) → leb b 51 ≡ q → eqb (b / 4 * 4) 48 ≡ p && q
    pick true p true q = eq-eqb (b / 4 * 4) 48 (omega (arith, leb-true 48 b p, leb-true b 51 q))
    pick true p false q = ne_eqb (b / 4 * 4) 48 (λ e. omega (arith, leb-false b 51 q))
    pick false p q r = ne_eqb (b / 4 * 4) 48 (λ e. omega (arith, leb-false 48 b p))

pub bytes_are_digits : (key : List ℕ) → are_bytes key ≡ true → all_bytes key ≡ all_digits_of key
unfolding all_bytes all_digits_of
bytes_are_digits [] e = refl
bytes_are_digits (b ∷ bs) e = let p = and_parts (ltb b 256) (are_bytes bs) e in
    rw (byte_is_digit b (ltb-true _ _ p.0), bytes_are_digits bs p.1)

-- a key of at most 29 bytes: the length passes both tests
pub quadkey_is_key : (key : List ℕ) → are_bytes key ≡ true → length key ≤ 29 → is_quadkey key ≡ is_key key
unfolding key_refusal
quadkey_is_key key e h =
    let k : length key < 30 = omega arith in
    rw (bytes_are_digits key e, lt-ltb _ _ k, le-ltb _ _ (le_trans h at_least_29)) (pick (all_digits_of key))
  where
    pick : (q : Bool) → q ≡ eqb (5 when not q) 0
    pick true = refl
    pick false = refl

pub try_new_refuses : (key : List ℕ) → are_bytes key ≡ true → length key ≤ 29 → key_try_new key ≡ key_refusal key
unfolding key_refusal
try_new_refuses key e h =
    let k : length key < 30 = omega arith in
    rw (bytes_are_digits key e, lt-ltb _ _ k, lt-leb _ _ k, le-ltb _ _ (le_trans h at_least_29)) refl

-- a longer one: the Rust's own test of the length
pub too_long : (key : List ℕ) → 29 < length key → (is_quadkey key ≡ false) × (key_try_new key ≡ 4)
too_long key h = (rw (le-ltb (length key) 30 h), rw (le-leb 30 (length key) h))

same_tile_lem : {a b c d e f : ℕ} → a ≡ d → b ≡ e → c ≡ f → tile_at a b c ≡ tile_at d e f
same_tile_lem p q r = tile_ext _ _ p q r

-- one step of the fold
folded_more : (x y z b : ℕ) → x < 2 ^ 31 → y < 2 ^ 31 → z < 255 → 48 ≤ b → b ≤ 51
    → folded (tile_at x y z) b ≡ returns (tile_at (x * 2 + bit (b - 48) 0) (y * 2 + bit (b - 48) 1) (suc z))
folded_more x y z b h k l m n =
    let d = b - 48 in
    let e : bit_and d 1 ≡ d % 2 = and_mask d 1 in
    let f : d / 2 < 2 = omega arith in
    let g : d / 2 % 2 ≡ d / 2 = mod-eq_of_lt f in
    rw (
      minus_fits b 48 m,
      shifted_up 32 x 1 (omega arith) (omega arith),
      shifted_up 32 y 1 (omega arith) (omega arith),
      shifted_down 32 d 1 (omega arith),
      fits 8 (z + 1) (omega arith),
      add-one z,
      e,
      or_shifted x 1 (d % 2) (omega arith),
      or_shifted y 1 (d / 2) f,
      div-one d,
      g,
    )

fold_spells : (key : List ℕ) (x y z : ℕ) → all_digits_of key ≡ true → x < 2 ^ z → y < 2 ^ z → z + length key ≤ 31
    → fold_from (tile_at x y z) key
    ≡ returns (tile_at (x * 2 ^ length key + spelled 0 key) (y * 2 ^ length key + spelled 1 key) (z + length key))
unfolding fold_from spelled
fold_spells [] x y z e h k l =
    let a : x * 1 + 0 ≡ x = omega arith in
    let b : y * 1 + 0 ≡ y = omega arith in
    let c : z + 0 ≡ z = omega arith in
    rw (a, b, c)
fold_spells (b ∷ bs) x y z e h k l =
    let p = digits_first b bs e in
    let d = digit_bounds b p.0 in
    let m : 2 ^ z ≤ 2 ^ 30 = pow_mono {j = 30} (omega arith) in
    let s : 2 ^ suc z ≡ 2 ^ z * 2 = pow-suc 2 z in
    let i = bit_small (b - 48) 0 in
    let j = bit_small (b - 48) 1 in
    rw (
      folded_more x y z b (omega arith) (omega arith) (omega arith) d.0 d.1,
      fold_spells bs (x * 2 + bit (b - 48) 0) (y * 2 + bit (b - 48) 1) (suc z) p.1 (omega arith) (omega arith) (omega arith),
      pow-suc 2 (length bs),
    ) (ap returns (same_tile_lem (omega arith) (omega arith) (omega arith)))

-- the length of a key of at most 29 bytes fits 8 bits, and is 0 for the empty one alone
short_length : (key : List ℕ) → length key ≤ 29 → cut 8 (length key) ≡ length key
short_length key h = mod-eq_of_lt (omega arith)

pub fold_is_tile : (key : List ℕ) → all_digits_of key ≡ true → length key ≤ 29
    → to_xyz key ≡ returns (tile_at (column_of key) (row_of key) (length key))
unfolding spelled
fold_is_tile [] e h = refl
fold_is_tile (b ∷ bs) e h =
    let key = b ∷ bs in
    let f = fold_spells key 0 0 0 e (omega arith) (omega arith) (omega arith) in
    let x : 0 * 2 ^ length key + spelled 0 key ≡ spelled 0 key = omega arith in
    let y : 0 * 2 ^ length key + spelled 1 key ≡ spelled 1 key = omega arith in
    let z : 0 + length key ≡ length key = omega arith in
    rw (short_length key h, ne_eqb (length key) 0 (λ e. omega arith)) (rw (x, y, z) at f)

-- one bit more under those that are there: it is set or not
mark_more : (c : Bool) (d n p : ℕ) → d ≡ cond c 1 0 → cond c (bit_or (p * 2 ^ suc n) (2 ^ n)) (p * 2 ^ suc n) ≡ (p * 2 + d) * 2 ^ n
mark_more true d n p e = rw (or_shifted p (suc n) (2 ^ n) (pow-lt (omega arith)), pow-suc 2 n, e) (omega arith)
mark_more false d n p e = rw (pow-suc 2 n, e) (omega arith)

mark_spells : (key : List ℕ) (i p q z : ℕ) → all_digits_of key ≡ true → i + length key ≡ z → z ≤ 32
    → mark_from i (tile_at (p * 2 ^ length key) (q * 2 ^ length key) z) key
    ≡ returns (tile_at (p * 2 ^ length key + spelled 0 key) (q * 2 ^ length key + spelled 1 key) z)
unfolding mark_from spelled
mark_spells [] i p q z e f l =
    let a : p * 1 + 0 ≡ p * 1 = omega arith in
    let b : q * 1 + 0 ≡ q * 1 = omega arith in
    rw (a, b)
mark_spells (b ∷ bs) i p q z e f l =
    let d = digits_first b bs e in
    let n = length bs in
    let c : i % 2 ^ 8 ≡ i = mod-eq_of_lt (omega arith) in
    let m : z - 1 - i ≡ n = omega arith in
    rw (
      minus_fits z 1 (omega arith),
      c,
      minus_fits (z - 1) i (omega arith),
      m,
      one_shifted 32 n (omega arith),
      by_digit (λ b. (eqb b 48 || eqb b 49 || eqb b 50 || eqb b 51) ≡ true) refl refl refl refl b d.0,
      mark_more (eqb b 49 || eqb b 51) (bit (b - 48) 0) n p
          (by_digit (λ b. bit (b - 48) 0 ≡ cond (eqb b 49 || eqb b 51) 1 0) refl refl refl refl b d.0),
      mark_more (eqb b 50 || eqb b 51) (bit (b - 48) 1) n q
          (by_digit (λ b. bit (b - 48) 1 ≡ cond (eqb b 50 || eqb b 51) 1 0) refl refl refl refl b d.0),
      mark_spells bs (suc i) (p * 2 + bit (b - 48) 0) (q * 2 + bit (b - 48) 1) z d.1 (omega arith) l,
      pow-suc 2 n,
    ) (ap returns (same_tile_lem (omega arith) (omega arith) refl))

pub iter_is_tile : (key : List ℕ) → all_digits_of key ≡ true → length key ≤ 29
    → to_xyz_iter key ≡ returns (tile_at (column_of key) (row_of key) (length key))
unfolding spelled
iter_is_tile [] e h = refl
iter_is_tile (b ∷ bs) e h =
    let key = b ∷ bs in
    let f = mark_spells key 0 0 0 (length key) e (omega arith) (omega arith) in
    let x : 0 * 2 ^ length key + spelled 0 key ≡ spelled 0 key = omega arith in
    let y : 0 * 2 ^ length key + spelled 1 key ≡ spelled 1 key = omega arith in
    let c : 0 * 2 ^ length key ≡ 0 = omega arith in
    rw (short_length key h, ne_eqb (length key) 0 (λ e. omega arith)) (rw (x, y, c) at f)

-- a character that is flipped is the flipped digit; any other has none
pub flip_char_lem : (b : ℕ) → is_digit b ≡ true → flip_char b ≡ Some (flip_digit b)
flip_char_lem = by_digit (λ b. flip_char b ≡ Some (flip_digit b)) refl refl refl refl

pub no_char : (b : ℕ) → is_digit b ≡ false → flip_char b ≡ None
no_char b e = rw (ne_eqb b 48 (other 48 refl), ne_eqb b 49 (other 49 refl), ne_eqb b 50 (other 50 refl), ne_eqb b 51 (other 51 refl))
  where
    other : (c : ℕ) → is_digit c ≡ true → b ≡ c → ⊥
    other c f p = let g : is_digit c ≡ false = rw p at e in let z : ◌≡◌ {A = ℕ} 0 1 = cc in omega arith

flip_chars_lem : (key : List ℕ) → all_digits_of key ≡ true → flip_chars key ≡ Some (map flip_digit key)
unfolding flip_chars
flip_chars_lem [] e = refl
flip_chars_lem (b ∷ bs) e = let p = digits_first b bs e in rw (flip_char_lem b p.0, flip_chars_lem bs p.1)

no_chars : (key : List ℕ) → all_digits_of key ≡ false → flip_chars key ≡ None
unfolding flip_chars all_digits_of
no_chars [] e = let z : ◌≡◌ {A = ℕ} 0 1 = cc in absurd (omega arith)
no_chars (b ∷ bs) e = pick (is_digit b) refl e (no_chars bs)
  where
    push_none : (c : Option ℕ) → pushed c None ≡ None
    push_none None = refl
    push_none (Some c) = refl

    pick : (p : Bool) → is_digit b ≡ p → p && all_digits_of bs ≡ false → (all_digits_of bs ≡ false → flip_chars bs ≡ None)
        → pushed (flip_char b) (flip_chars bs) ≡ None
    pick false q e more = rw (no_char b q)
    pick true q e more = rw (more e) (push_none (flip_char b))

pub flip_string_lem : (key : List ℕ) → all_digits_of key ≡ true → flip_string key ≡ map flip_digit key
flip_string_lem key e = rw (flip_chars_lem key e)

pub no_string : (key : List ℕ) → all_digits_of key ≡ false → flip_string key ≡ []
no_string key e = rw (no_chars key e)
