-- `neighbors::fill` meets its contract: after k turns the tiles of the first k squares stand at the front of the memory.
use mathlib.Core.Path.{◌≡◌}
use mathlib.Core.List.{◌++◌}
use lib.ListN.{length, drop}
use Rattle.ids.specs.Entry.{entries_of}
use Rattle.neighbors.specs.Squares.{found}
use Rattle.neighbors.proofs.fill.Given as goal

abbrev pub invariant-loop-s : goal.invariant-loop-s
invariant-loop-s l = (l.n ≡ length (found l.seam l.x l.y l.z l.s-index)) × (l.out ≡ entries_of (found l.seam l.x l.y l.z l.s-index) ++ drop l.n l.initial.out)
