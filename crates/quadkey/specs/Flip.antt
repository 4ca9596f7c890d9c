-- Keys with the rows flipped, digit by digit.
use Rattle.std.specs.Prelude.{◌≡◌, refl, true, List, [], ◌∷◌, map, ℕ, zero, suc, ◌+◌, ◌-◌, ◌*◌, ◌^◌, ◌≤◌, ◌<◌, length, get_or, set}
use Rattle.std.proofs.Common.{◌∙◌, add-one, arith, le-ltb, lt-ltb}
use Rattle.std.proofs.lemmas.List.{length-map}
use Rattle.bits.specs.Bits.{bit, bit_small, bit_complement}
use Rattle.errors.specs.Memory.{front, front_more}
use Rattle.quadkey.specs.Bytes.{by_digit, digits_first}
use Rattle.quadkey.specs.Key.{key_from, key_of, all_digits_of, flip_digit}

-- one flipped digit more is written
pub fill_flipped : (key memory out : List ℕ) (i d : ℕ) → i < length key → length key ≤ length memory
    → out ≡ front i (map flip_digit key) memory
    → d ≡ flip_digit (get_or key i 0) → set out i d ≡ front (i + 1) (map flip_digit key) memory
fill_flipped key memory out i d h k e f =
    let n : i < length (map flip_digit key) = rw (length-map key flip_digit) h in
    let m : i < length memory = omega arith in
    let v : d ≡ get_or (map flip_digit key) i 0 = f ∙ map_at key i h in
    rw (e, v, add-one i) (front_more i (map flip_digit key) memory n m)
  where
    map_at : (l : List ℕ) (j : ℕ) → j < length l → flip_digit (get_or l j 0) ≡ get_or (map flip_digit l) j 0
    map_at [] j h = absurd (omega arith)
    map_at (b ∷ l) zero h = refl
    map_at (b ∷ l) (suc j) h = map_at l j (omega arith)

-- a flipped digit is the digit with the other bit of the row
pub flip_digit_lem : (b c : ℕ) → b < 2 → c < 2 → flip_digit (48 + (2 * b + c)) ≡ 48 + (2 * (1 - b) + c)
flip_digit_lem zero c h k = let l : 48 + (2 * 0 + c) < 50 = omega arith in rw (lt-ltb _ _ l) (omega arith)
flip_digit_lem (suc b) c h k = let l : 50 ≤ 48 + (2 * suc b + c) = omega arith in rw (le-ltb _ _ l) (omega arith)

pub key_flipped : (w x y z : ℕ) → y < 2 ^ w → z ≤ w → map flip_digit (key_of x y z) ≡ key_of x (2 ^ w - 1 - y) z
unfolding key_from
key_flipped w x y zero h l = refl
key_flipped w x y (suc z) h l =
    rw (flip_digit_lem (bit y z) (bit x z) (bit_small y z) (bit_small x z), bit_complement w y z h l, key_flipped w x y z h (omega arith))

pub flip_twice : (key : List ℕ) → all_digits_of key ≡ true → map flip_digit (map flip_digit key) ≡ key
flip_twice [] e = refl
flip_twice (b ∷ bs) e =
    let p = digits_first b bs e in
    rw (by_digit (λ b. flip_digit (flip_digit b) ≡ b) refl refl refl refl b p.0, flip_twice bs p.1)
