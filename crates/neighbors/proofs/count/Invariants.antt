-- `neighbors::count` meets its contract: after k turns n is how many tiles the first k squares have.
use mathlib.Core.Path.{◌≡◌}
use lib.ListN.{length}
use Rattle.neighbors.specs.Squares.{found}
use Rattle.neighbors.proofs.count.Given as goal

abbrev pub invariant-loop-s : goal.invariant-loop-s
invariant-loop-s l = l.n ≡ length (found l.seam l.x l.y l.z l.s-index)
