-- `end`: half a run behind its middle.
use native.Mathlib.Omega.{arith}
use Rattle.quadtree.specs.Locations.{room}
use Rattle.ancestors.proofs.end.Goals as goal

pub overflow_add-result : goal.overflow_add-result
overflow_add-result c = omega (arith, (room c.requires c.low_bit.ensures).fits)

pub returns : goal.returns
returns c = omega (arith, c.requires.again, c.low_bit.ensures)
