-- `top_of`: the tops passed end at or before k, and the one that is known to end behind it is still ahead.
use Prim.Native.Nat.{ℕ, ◌-◌, ◌≤◌, ◌<◌}
use lib.ListN.{length}
use Rattle.quadtree.specs.Locations.{end_of, tiles}
use Rattle.ancestors.specs.Tops.{Ahead}
use Rattle.ancestors.proofs.top_of.Given as goal

abbrev pub invariant-loop-top : goal.invariant-loop-top
invariant-loop-top l = (l.from ≤ l.top) × Ahead l.tops l.top l.k × ((j : ℕ) → l.from ≤ j → j < l.top → end_of (tiles l.tops j) ≤ l.k)

abbrev pub decreases-loop-top : goal.decreases-loop-top
decreases-loop-top l = length l.tops - l.top
