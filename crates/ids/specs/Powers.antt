-- Powers of two and of four: the side of the map at a zoom, and how many tiles it has.
use Rattle.std.specs.Prelude.{◌≡◌, refl, ℕ, zero, suc, ◌+◌, ◌*◌, ◌%◌, ◌^◌, ◌<◌}
use Rattle.std.proofs.Common.{pow-suc, add-one, arith, pow-add}
use Rattle.bits.specs.Powers.{pow_within}

-- four tiles for one, zoom by zoom
pub four_power : (z : ℕ) → 4 ^ z ≡ 2 ^ z * 2 ^ z
four_power zero = refl
four_power (suc z) = rw (pow-suc 4 z, pow-suc 2 z, four_power z) (omega arith)

-- the numbers as the code computes them in 64 bits
pub wide_side : (k : ℕ) → k < 64 → 2 ^ k % 2 ^ 64 ≡ 2 ^ k
wide_side k h = pow_within k 64 h

pub double_side : (z : ℕ) → 2 * 2 ^ z ≡ 2 ^ (z + 1)
double_side z = rw (add-one z, pow-suc 2 z) (omega arith)

pub four_side : (z : ℕ) → 2 ^ (2 * z) ≡ 4 ^ z
four_side z = let e : 2 * z ≡ z + z = omega arith in rw (e, pow-add 2 z z, four_power z)
