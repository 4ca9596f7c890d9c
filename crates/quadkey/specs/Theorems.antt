-- What the definitions of this crate come to, in the words of document 01 and of the Bing Maps page. Nothing is assumed.
use Rattle.std.specs.Prelude.{◌≡◌, refl, ◌↔◌, ◌⊎◌, true, List, [], map, ℕ, zero, suc, ◌+◌, ◌-◌, ◌*◌, ◌^◌, ◌≤◌, ◌<◌, length, get_or}
use Rattle.std.proofs.Common.{sym, ap, ◌∙◌, mod-eq_of_lt, arith, le-leb}
use Rattle.std.proofs.Math.Pow.{are_bytes}
use Rattle.bits.specs.Bits.{bit}
use Rattle.bits.specs.Checked.{returns}
use Rattle.constants.specs.Limits.{max_zoom, at_least_29}
use Rattle.errors.specs.Answer.{Answer, answer}
use Rattle.tile.specs.OnMap.{OnMap, tile_at, no_tile_of, on_map_accepted}
use Rattle.tile.specs.Rust.{To29}
use Rattle.tile.specs.Steps.{flip_of}
use Rattle.tile.specs.declared.Tile.{Tile}
use Rattle.quadkey.specs.Key.{key_from, key_of, is_digit, all_digits_of, key_refusal, is_key, flip_digit}
use Rattle.quadkey.specs.Key.{spelled, column_of, row_of, tile_of, key_tile}
use Rattle.quadkey.specs.Bytes.{digit_bounds, digits_at, all_digits, some_bad, digits_bad, digit_out}
use Rattle.quadkey.specs.Flip.{key_flipped, flip_twice}
use Rattle.quadkey.specs.Refusals.{key_accepted, key_bad_byte, key_too_long, accepted_key, refused_long, refused_byte}
use Rattle.quadkey.specs.Spelling.{key_length_lem, key_digit, key_digits, key_again, spelled_column, spelled_row, spelled_small}
use Rattle.quadkey.specs.Bing.{base4, base4_small, bytes_of_digits, even_bit, odd_bit}
use Rattle.quadkey.specs.Rust as rust

-- a call that is not refused and answers with this tile
abbrev pub tile_answer : Tile → Answer Tile
tile_answer t = record { number = 0; value = t }

-- a tile's key leads back to the tile
pub tile_to_key_to_tile : (x y z : ℕ) → OnMap x y z → key_tile (key_of x y z) ≡ tile_answer (tile_at x y z)
tile_to_key_to_tile x y z m =
    let e : key_refusal (key_of x y z) ≡ 0 = key_accepted (key_of x y z) (rw (key_length_lem 48 x y z) m.zoom) (key_digits x y z) in
    rw (e, spelled_column x y z, spelled_row x y z, key_length_lem 48 x y z, mod-eq_of_lt m.column, mod-eq_of_lt m.row)

-- a key that is not refused leads to a tile of the map, and that tile back to the key
pub key_to_tile_to_key : (key : List ℕ) → key_refusal key ≡ 0
    → (key_tile key ≡ tile_answer (tile_of key)) × OnMap (column_of key) (row_of key) (length key)
    × (key_of (column_of key) (row_of key) (length key) ≡ key)
key_to_tile_to_key key e =
    let k = accepted_key key e in
    (rw e, record { zoom = k.0; column = spelled_small 0 key; row = spelled_small 1 key }, key_again key k.1)

-- "The empty key is the root"
pub the_empty_key_is_the_root : key_tile [] ≡ tile_answer (tile_at 0 0 0)
unfolding all_digits_of spelled
the_empty_key_is_the_root = (key_to_tile_to_key [] (key_accepted [] (omega arith) refl)).0

-- "Digit 2·(bit of y) + (bit of x), top bit first, one of bytes 48 to 51"
pub the_digits : (x y z i : ℕ) → i < z → get_or (key_of x y z) i 0 ≡ 48 + (2 * bit y (z - 1 - i) + bit x (z - 1 - i))
the_digits x y z i h = let e : z - suc i ≡ z - 1 - i = omega arith in rw e at (key_digit 48 x y z i h)

-- a tile of zoom z has z digits
pub a_digit_for_each_zoom : (x y z : ℕ) → length (key_of x y z) ≡ z
a_digit_for_each_zoom x y z = key_length_lem 48 x y z

-- the Bing Maps page: the bits of y and x are interleaved, and the number is read in base 4.
-- Bits 0, 2, 4 .. are those of x, bits 1, 3, 5 .. those of y, and there are no more
pub the_bits_by_turns : (x y z : ℕ)
    → ((i : ℕ) → i < z → (bit (base4 (key_from 0 x y z)) (2 * i) ≡ bit x i) × (bit (base4 (key_from 0 x y z)) (2 * i + 1) ≡ bit y i))
    × (base4 (key_from 0 x y z) < 4 ^ z)
    × (map (λ (d : ℕ). 48 + d) (key_from 0 x y z) ≡ key_of x y z)
the_bits_by_turns x y z = (λ i h. (even_bit x y z i h, odd_bit x y z i h), base4_small x y z, bytes_of_digits x y z)

-- "one of bytes 48 to 51"; document 02: "keys have up to 30 digits": exactly these keys are not refused
pub the_accepted_keys : (key : List ℕ)
    → key_refusal key ≡ 0 ↔ (length key ≤ max_zoom) × ((i : ℕ) → i < length key → (48 ≤ get_or key i 0) × (get_or key i 0 ≤ 51))
the_accepted_keys key = (
  λ e. let k = accepted_key key e in (k.0, λ i h. digit_bounds (get_or key i 0) (digits_at key i k.1 h)),
  λ k. key_accepted key k.0 (all_digits key (λ i h. rw (le-leb _ _ (k.1 i h).0, le-leb _ _ (k.1 i h).1))),
)

-- "4 more than 29 bytes; 5 a byte other than 48 to 51", by document 02 more than 30. 4 is tested before 5: 4 whatever
-- the bytes are, 5 where the length is right
pub four_is_too_long : (key : List ℕ) → key_refusal key ≡ 4 ↔ max_zoom < length key
four_is_too_long key = (refused_long key, key_too_long key)

pub five_is_a_bad_byte : (key : List ℕ)
    → key_refusal key ≡ 5 ↔ (length key ≤ max_zoom) × ((i : ℕ) × (i < length key) × ((get_or key i 0 < 48) ⊎ (51 < get_or key i 0)))
five_is_a_bad_byte key = (
  λ e. let r = refused_byte key e in let b = some_bad key r.1 in (r.0, (b.0, b.1, (digit_out (get_or key b.0 0)).0 b.2)),
  λ r. key_bad_byte key r.0 (digits_bad key r.1.0 r.1.1 ((digit_out (get_or key r.1.0 0)).1 r.1.2)),
)

-- "0 and 2 change places, 1 and 3": the key of the tile whose row is counted from the other side
pub the_flipped_key : (x y z : ℕ) → OnMap x y z → map flip_digit (key_of x y z) ≡ key_of x (2 ^ z - 1 - y) z
the_flipped_key x y z m = key_flipped z x y z m.row (omega arith)

-- so it leads to the flipped tile
pub the_flipped_tile : (key : List ℕ) → key_refusal key ≡ 0 → key_tile (map flip_digit key) ≡ flip_of (tile_of key)
the_flipped_tile key e =
    let k = key_to_tile_to_key key e in
    let x = column_of key in
    let y = row_of key in
    let z = length key in
    let m : OnMap x (2 ^ z - 1 - y) z = record { zoom = k.1.zoom; column = k.1.column; row = omega (arith, k.1.row) } in
    let f : map flip_digit key ≡ key_of x (2 ^ z - 1 - y) z = ap (map flip_digit) (sym k.2) ∙ the_flipped_key x y z k.1 in
    rw (f, on_map_accepted k.1) (tile_to_key_to_tile x (2 ^ z - 1 - y) z m)

pub key_flipped_twice : (key : List ℕ) → key_refusal key ≡ 0 → map flip_digit (map flip_digit key) ≡ key
key_flipped_twice key e = flip_twice key (accepted_key key e).1

-- The Rust, by the functions of Rust.antt, gives the same to zoom 29: the digits of `xyz2quadkey_vec` and the characters of `xyz2quadkey`,
-- each list whole
pub the_rusts_digits : (x y z : ℕ) → z ≤ 29 → rust.digits_set x y z ≡ returns (key_from 0 x y z)
the_rusts_digits x y z h = rust.digits_set_lem x y z (omega arith)

pub the_rusts_characters : (x y z : ℕ) → z ≤ 29 → rust.chars x y z ≡ returns (key_of x y z)
the_rusts_characters x y z h = rust.chars_are x y z (omega arith)

pub the_rusts_key : (x y z : ℕ) → To29 x y z → rust.to_key x y z ≡ returns (key_of x y z)
the_rusts_key = rust.to_key_lem

-- the test of a byte and of a key of at most 29 bytes, and the order of its two errors,
pub the_rusts_byte : (b : ℕ) → b < 256 → rust.is_byte b ≡ is_digit b
the_rusts_byte = rust.byte_is_digit

pub the_rusts_test : (key : List ℕ) → are_bytes key ≡ true → length key ≤ 29
    → (rust.is_quadkey key ≡ is_key key) × (rust.key_try_new key ≡ key_refusal key)
the_rusts_test key e h = (rust.quadkey_is_key key e h, rust.try_new_refuses key e h)

-- of a key that is too long, whatever its bytes: both refuse it by its length,
pub the_rusts_long_keys : (key : List ℕ) → max_zoom < length key
    → (rust.is_quadkey key ≡ is_key key) × (rust.key_try_new key ≡ key_refusal key) × (key_refusal key ≡ 4)
    × (rust.quadkey2xyz key ≡ returns (key_tile key))
the_rusts_long_keys key h =
    let r = rust.too_long key (omega (arith, at_least_29)) in
    let e : key_refusal key ≡ 4 = key_too_long key h in
    (rw (r.0, e), rw (r.1, e), e, rw (r.1, e))

-- and between them lie the keys of zoom 30, which the Rust refuses so, and which are not held against it
pub the_rust_refuses_30_digits : (key : List ℕ) → length key ≡ 30 → all_digits_of key ≡ true → (rust.key_try_new key ≡ 4) × (key_refusal key ≡ 0)
unfolding max_zoom
the_rust_refuses_30_digits key h d = ((rust.too_long key (omega arith)).1, key_accepted key (omega arith) d)

-- the tile of a key, by either of its two loops, and with the test before it,
pub the_rusts_tile : (key : List ℕ) → key_refusal key ≡ 0 → length key ≤ 29
    → (rust.to_xyz key ≡ returns (tile_of key)) × (rust.to_xyz_iter key ≡ returns (tile_of key))
the_rusts_tile key e h = let d = (accepted_key key e).1 in (rust.fold_is_tile key d h, rust.iter_is_tile key d h)

pub the_rusts_quadkey2xyz : (key : List ℕ) → are_bytes key ≡ true → length key ≤ 29 → rust.quadkey2xyz key ≡ returns (key_tile key)
the_rusts_quadkey2xyz key e h = rw (rust.try_new_refuses key e h) (pick (key_refusal key) refl)
  where
    pick : (n : ℕ) → key_refusal key ≡ n → rust.unless_error n (rust.to_xyz key) ≡ returns (answer n no_tile_of (tile_of key))
    pick zero f = rw (the_rusts_tile key f h).0
    pick (suc n) f = refl

-- and the flipped key: "the Rust's empty string for a bad character is refusal 5 here"
pub the_rusts_flipped_key : (key : List ℕ)
    → (key_refusal key ≡ 0 → rust.flip_string key ≡ map flip_digit key) × (key_refusal key ≡ 5 → rust.flip_string key ≡ [])
the_rusts_flipped_key key = (λ e. rust.flip_string_lem key (accepted_key key e).1, λ e. rust.no_string key (refused_byte key e).1)
