-- A key as a number in base 4: by the Bing Maps page, the bits of the row and of the column by turns.
use Rattle.std.specs.Prelude.{◌≡◌, refl, List, [], ◌∷◌, map, length}
use Prim.Native.Nat.{ℕ, zero, suc, ◌+◌, ◌*◌, ◌/◌, ◌^◌, ◌<◌}
use Rattle.std.proofs.Math.Decide.{dec_lt}
use Rattle.std.proofs.Math.Nat.{pow-suc}
use native.Mathlib.Omega.{arith}
use Rattle.std.proofs.Math.Arith.{digits_lt}
use Rattle.std.proofs.Math.Pow.{high}
use Rattle.bits.specs.Bits.{bit, bit_shift, bit_below}
use Rattle.quadkey.specs.Key.{digit_at, key_from, key_of}
use Rattle.quadkey.specs.Spelling.{key_length_lem}

-- the number that a list of digits is in base 4, the first digit on top
unfoldable pub base4 : List ℕ → ℕ
base4 [] = 0
base4 (d ∷ ds) = d * 4 ^ length ds + base4 ds

four_power : (n : ℕ) → 4 ^ n ≡ 2 ^ (2 * n)
four_power zero = refl
four_power (suc n) =
    let e : 2 * suc n ≡ suc (suc (2 * n)) = omega arith in
    rw (e, pow-suc 4 n, pow-suc 2 (suc (2 * n)), pow-suc 2 (2 * n), four_power n) (omega arith)

-- the bytes of a key are its digits with 48 added
pub bytes_of_digits : (x y z : ℕ) → map (λ (d : ℕ). 48 + d) (key_from 0 x y z) ≡ key_of x y z
unfolding key_from
bytes_of_digits x y zero = refl
bytes_of_digits x y (suc z) = let e : 48 + (0 + digit_at x y z) ≡ 48 + digit_at x y z = omega arith in rw (e, bytes_of_digits x y z)

module _ (x y : ℕ) where
  -- one digit more, on top
  one_more : (z : ℕ) → base4 (key_from 0 x y (suc z)) ≡ digit_at x y z * 2 ^ (2 * z) + base4 (key_from 0 x y z)
  unfolding key_from base4
  one_more z = rw (key_length_lem 0 x y z, four_power z) (omega arith)

  small : (z : ℕ) → base4 (key_from 0 x y z) < 2 ^ (2 * z)
  unfolding key_from base4
  small zero = omega arith
  small (suc z) =
      let d : digit_at x y z < 4 = omega arith in
      let e : 2 * suc z ≡ suc (suc (2 * z)) = omega arith in
      rw (one_more z, e, pow-suc 2 (suc (2 * z)), pow-suc 2 (2 * z)) (omega (arith, digits_lt d (small z)))

  pub base4_small : (z : ℕ) → base4 (key_from 0 x y z) < 4 ^ z
  base4_small z = rw (four_power z) (small z)

  top : (z : ℕ) → base4 (key_from 0 x y (suc z)) / 2 ^ (2 * z) ≡ digit_at x y z
  top z = rw (one_more z) (high (digit_at x y z) (2 * z) (small z))

  pub even_bit : (z i : ℕ) → i < z → bit (base4 (key_from 0 x y z)) (2 * i) ≡ bit x i
  even_bit zero i h = absurd (omega arith)
  even_bit (suc z) i h = pick (dec_lt i z) (even_bit z i)
    where
      pick : Dec (i < z) → (i < z → bit (base4 (key_from 0 x y z)) (2 * i) ≡ bit x i) → bit (base4 (key_from 0 x y (suc z))) (2 * i) ≡ bit x i
      pick (yes l) below = rw (one_more z, bit_below (digit_at x y z) (2 * z) (base4 (key_from 0 x y z)) (2 * i) (omega arith)) (below l)
      pick (no n) below = let e : i ≡ z = omega arith in rw (e, top z) (omega arith)

  pub odd_bit : (z i : ℕ) → i < z → bit (base4 (key_from 0 x y z)) (2 * i + 1) ≡ bit y i
  odd_bit zero i h = absurd (omega arith)
  odd_bit (suc z) i h = pick (dec_lt i z) (odd_bit z i)
    where
      pick : Dec (i < z) → (i < z → bit (base4 (key_from 0 x y z)) (2 * i + 1) ≡ bit y i)
          → bit (base4 (key_from 0 x y (suc z))) (2 * i + 1) ≡ bit y i
      pick (yes l) below = rw (one_more z, bit_below (digit_at x y z) (2 * z) (base4 (key_from 0 x y z)) (2 * i + 1) (omega arith)) (below l)
      pick (no n) below = let e : i ≡ z = omega arith in rw (e, ← bit_shift (base4 (key_from 0 x y (suc z))) (2 * z) 1, top z) (omega arith)
