-- `low_bit`: the power of two that stands at the location's lowest set bit.
use mathlib.Core.Path.{◌∙◌}
use Prim.Native.Nat.{◌^◌}
use native.Mathlib.Nat.{one-mul}
use native.Mathlib.Omega.{arith}
use lib.Count.{count_trailing_zeros}
use Rattle.bits.specs.Powers.{pow_within}
use Rattle.constants.specs.Limits.{max_zoom_small}
use Rattle.quadtree.specs.Locations.{zeros_of, low_of_lem}
use Rattle.quadtree.proofs.low_bit.Goals as goal

pub overflow_cast-result : goal.overflow_cast-result
overflow_cast-result c = omega (arith, zeros_of c.requires, max_zoom_small)

pub overflow_shl-result : goal.overflow_shl-result
overflow_shl-result c = omega (arith, zeros_of c.requires, max_zoom_small)

pub returns : goal.returns
returns c = rw (one-mul (2 ^ count_trailing_zeros 64 c.args.k))
    (pow_within (count_trailing_zeros 64 c.args.k) 64 (omega (arith, zeros_of c.requires, max_zoom_small)) ∙ low_of_lem c.requires)
