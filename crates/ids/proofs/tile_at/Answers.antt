-- `ids::tile_at` meets its contract: column and row of a zoom fit 32 bits.
use Prim.Native.Nat.{ℕ, ◌^◌, ◌≤◌}
use native.Mathlib.Omega.{arith}
use lib.Pow.{pow_mono}
use Rattle.bits.specs.Powers.{high_part_below, low_part}
use Rattle.constants.specs.Limits.{max_zoom, max_zoom_small}
use Rattle.ids.specs.Levels.{offset_column, offset_row}
use Rattle.ids.proofs.tile_at.Goals as goal

side : {z : ℕ} → z ≤ max_zoom → 2 ^ z ≤ 2 ^ 30
side h = pow_mono {j = 30} (omega (arith, max_zoom_small))

pub overflow_shr-row : goal.overflow_shr-row
overflow_shr-row c = omega (arith, c.requires.0, max_zoom_small)

pub overflow_shl-column : goal.overflow_shl-column
overflow_shl-column c = omega (arith, c.requires.0, max_zoom_small)

pub overflow_sub-column : goal.overflow_sub-column
overflow_sub-column c = high_part_below c.args.offset c.args.z 64 c.ranges.offset.fits

pub overflow_cast-result : goal.overflow_cast-result
overflow_cast-result c = let o = c.args.offset in
    let z = c.args.z in
    omega (arith, low_part o z 64 c.ranges.offset.fits, offset_column o z, side c.requires.0)

pub overflow_cast-result-2 : goal.overflow_cast-result-2
overflow_cast-result-2 c = omega (arith, offset_row c.args.offset c.args.z c.requires.1, side c.requires.0)

pub returns : goal.returns
returns c = rw (low_part c.args.offset c.args.z 64 c.ranges.offset.fits)
