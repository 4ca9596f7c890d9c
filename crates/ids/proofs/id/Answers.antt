-- `ids::id` meets its contract: of a tile that has one the number fits 64 bits.
use mathlib.Core.Path.{◌≡◌, ◌∙◌}
use Prim.Native.Nat.{◌+◌, ◌*◌, ◌^◌, ◌<◌}
use native.Mathlib.Omega.{arith}
use Rattle.constants.specs.Limits.{ids_to_29}
use Rattle.ids.specs.Id.{id_of}
use Rattle.ids.specs.IdBits.{offset_small}
use Rattle.ids.specs.Powers.{wide_side}
use Rattle.ids.proofs.id.Goals as goal
use Rattle.ids.proofs.id.Goals.{After-wide_pow2}

pub overflow_add-z : goal.overflow_add-z
overflow_add-z c = omega (arith, ids_to_29, c.requires.zoom)

side : (c : After-wide_pow2) → c.wide_pow2.result ≡ 2 ^ (c.args.z + 1)
side c = c.wide_pow2.ensures ∙ wide_side (c.args.z + 1) (omega (arith, ids_to_29, c.requires.zoom))

small : (c : After-wide_pow2) → c.wide_pow2.result * c.args.y + c.args.x < 2 ^ 59
small c = rw (side c) (offset_small _ _ _ c.requires)

pub overflow_mul-result : goal.overflow_mul-result
overflow_mul-result c = omega (arith, small (goal.at.overflow_mul-result c).After-wide_pow2)

pub overflow_add-result : goal.overflow_add-result
overflow_add-result c = omega (arith, small (goal.at.overflow_add-result c).After-wide_pow2)

pub overflow_mul-result-2 : goal.overflow_mul-result-2
overflow_mul-result-2 c = omega (arith, small (goal.at.overflow_mul-result-2 c).After-wide_pow2)

pub overflow_add-result-2 : goal.overflow_add-result-2
overflow_add-result-2 c = omega (arith, small (goal.at.overflow_add-result-2 c).After-wide_pow2, ids_to_29, c.requires.zoom)

pub returns : goal.returns
unfolding id_of
returns c = rw (side (goal.at.returns c).After-wide_pow2)
