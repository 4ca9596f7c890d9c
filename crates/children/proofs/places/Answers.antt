-- `children::places` meets its contract: 2 ^ (2 * depth) is 4 ^ depth, and fits 64 bits.
use mathlib.Core.Path.{◌∙◌}
use Prim.Native.Nat.{◌*◌}
use native.Mathlib.Omega.{arith}
use Rattle.ids.specs.Powers.{wide_side, four_side}
use Rattle.children.proofs.places.Goals as goal

pub returns : goal.returns
returns c = c.wide_pow2.ensures ∙ (wide_side (2 * c.args.depth) (omega arith) ∙ four_side c.args.depth)
