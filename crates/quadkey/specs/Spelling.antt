-- What keys spell: a tile's key digit by digit, as it is written and read, and that a key is the key of the tile that it spells.
use Rattle.std.specs.Prelude.{◌≡◌, refl, true, List, [], ◌∷◌, ◌++◌, ℕ, zero, suc, ◌+◌, ◌-◌, ◌*◌, ◌/◌, ◌%◌, ◌^◌, ◌≤◌, ◌<◌, length, drop, get_or, set}
use Rattle.std.proofs.Common.{sym, ap, pow-suc, div-one, add-one, arith, length-append, take_all, le-leb}
use Rattle.std.proofs.Math.Nat.{add-sub_cancel_left, mod-one}
use Rattle.std.proofs.Math.Arith.{digits_lt}
use Rattle.bits.specs.Bits.{bit, bit_small, bit_shift, low_bits_suc, bit_at_seam, bit_below}
use Rattle.errors.specs.Memory.{front, front_more}
use Rattle.quadkey.specs.Bytes.{digit_bounds, digits_first}
use Rattle.quadkey.specs.Key.{digit_at, key_from, key_of, all_digits_of, spelled}

pub key_length_lem : (base x y z : ℕ) → length (key_from base x y z) ≡ z
unfolding key_from
key_length_lem base x y zero = refl
key_length_lem base x y (suc z) = ap suc (key_length_lem base x y z)

-- "top bit first": the digit at place i stands for bit z - 1 - i
pub key_digit : (base x y z i : ℕ) → i < z → get_or (key_from base x y z) i 0 ≡ base + digit_at x y (z - suc i)
unfolding key_from
key_digit base x y zero i h = absurd (omega arith)
key_digit base x y (suc z) zero h = let e : suc z - 1 ≡ z = omega arith in rw e
key_digit base x y (suc z) (suc i) h = let e : suc z - suc (suc i) ≡ z - suc i = omega arith in rw e (key_digit base x y z i (omega arith))

-- one byte more
pub spelled_snoc : (i : ℕ) (bs : List ℕ) (b : ℕ) → spelled i (bs ++ (b ∷ [])) ≡ 2 * spelled i bs + bit (b - 48) i
unfolding spelled
spelled_snoc i [] b = omega arith
spelled_snoc i (a ∷ bs) b =
    rw (spelled_snoc i bs b, length-append bs (b ∷ []), add-one (length bs), pow-suc 2 (length bs)) (omega arith)

pub spelled_small : (i : ℕ) (bs : List ℕ) → spelled i bs < 2 ^ length bs
unfolding spelled
spelled_small i [] = omega arith
spelled_small i (b ∷ bs) = rw (pow-suc 2 (length bs)) (omega (arith, digits_lt (bit_small (b - 48) i) (spelled_small i bs)))

-- the key of a tile is the key of an ancestor k zooms up, followed by a digit for each of the k steps between them
pub key_in_two : (base x y n k : ℕ) → key_from base x y (n + k) ≡ key_from base (x / 2 ^ k) (y / 2 ^ k) n ++ key_from base x y k
unfolding key_from
key_in_two base x y zero k = let e : 0 + k ≡ k = omega arith in rw e
key_in_two base x y (suc n) k =
    let e : suc n + k ≡ suc (n + k) = omega arith in
    let f : k + n ≡ n + k = omega arith in
    rw (e, bit_shift x k n, bit_shift y k n, f, key_in_two base x y n k)

-- what a tile's key spells is the tile's column and row
pub spelled_column : (x y z : ℕ) → spelled 0 (key_of x y z) ≡ x % 2 ^ z
unfolding key_from spelled
spelled_column x y zero = sym (mod-one x)
spelled_column x y (suc z) =
    let e : bit (48 + digit_at x y z - 48) 0 ≡ bit x z =
    rw (add-sub_cancel_left 48 (digit_at x y z), div-one (digit_at x y z)) (omega arith) in
    rw (e, key_length_lem 48 x y z, spelled_column x y z) (sym (low_bits_suc x z))

pub spelled_row : (x y z : ℕ) → spelled 1 (key_of x y z) ≡ y % 2 ^ z
unfolding key_from spelled
spelled_row x y zero = sym (mod-one y)
spelled_row x y (suc z) =
    let e : bit (48 + digit_at x y z - 48) 1 ≡ bit y z = rw (add-sub_cancel_left 48 (digit_at x y z)) (omega arith) in
    rw (e, key_length_lem 48 x y z, spelled_row x y z) (sym (low_bits_suc y z))

pub key_low : (base c d n x y z : ℕ) → z ≤ n → key_from base (c * 2 ^ n + x) (d * 2 ^ n + y) z ≡ key_from base x y z
unfolding key_from
key_low base c d n x y zero h = refl
key_low base c d n x y (suc z) h = rw (bit_below c n x z h, bit_below d n y z h, key_low base c d n x y z (omega arith))

digit_byte : (b : ℕ) → 48 ≤ b → b ≤ 51 → 48 + (2 * bit (b - 48) 1 + bit (b - 48) 0) ≡ b
digit_byte b l h = rw (div-one (b - 48)) (omega arith)

-- a key is the key of the tile that it spells
pub key_again : (key : List ℕ) → all_digits_of key ≡ true → key_of (spelled 0 key) (spelled 1 key) (length key) ≡ key
unfolding key_from spelled
key_again [] e = refl
key_again (b ∷ bs) e =
    let p = digits_first b bs e in
    let d = digit_bounds b p.0 in
    let n = length bs in
    rw (
      bit_at_seam (bit (b - 48) 0) n (spelled 0 bs) (bit_small (b - 48) 0) (spelled_small 0 bs),
      bit_at_seam (bit (b - 48) 1) n (spelled 1 bs) (bit_small (b - 48) 1) (spelled_small 1 bs),
      digit_byte b d.0 d.1,
      key_low 48 (bit (b - 48) 0) (bit (b - 48) 1) n (spelled 0 bs) (spelled 1 bs) n (omega arith),
      key_again bs p.1,
    )

-- one digit more is written
pub fill_digit : (base x y z i d : ℕ) (memory out : List ℕ) → i < z → z ≤ length memory → out ≡ front i (key_from base x y z) memory
    → d ≡ digit_at x y (z - 1 - i) → set out i (base + d) ≡ front (i + 1) (key_from base x y z) memory
fill_digit base x y z i d memory out h k e f =
    let n : i < length (key_from base x y z) = rw (key_length_lem base x y z) h in
    let m : i < length memory = omega arith in
    let g : z - 1 - i ≡ z - suc i = omega arith in
    let v : base + d ≡ get_or (key_from base x y z) i 0 = rw (f, g) (sym (key_digit base x y z i h)) in
    rw (e, v, add-one i) (front_more i (key_from base x y z) memory n m)

pub key_filled : (base x y z : ℕ) (memory : List ℕ) → front z (key_from base x y z) memory ≡ key_from base x y z ++ drop z memory
key_filled base x y z memory =
    ap (λ (l : List ℕ). l ++ drop z memory) (take_all z (key_from base x y z) (rw (key_length_lem base x y z) (omega arith)))

-- every byte of a tile's key is a digit
pub key_digits : (x y z : ℕ) → all_digits_of (key_of x y z) ≡ true
unfolding key_from all_digits_of
key_digits x y zero = refl
key_digits x y (suc z) =
    let d : digit_at x y z ≤ 3 = omega arith in
    let l : 48 ≤ 48 + digit_at x y z = omega arith in
    let h : 48 + digit_at x y z ≤ 51 = omega arith in
    rw (le-leb _ _ l, le-leb _ _ h, key_digits x y z)
