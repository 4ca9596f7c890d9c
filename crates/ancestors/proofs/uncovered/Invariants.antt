-- `uncovered`: the outer loop is the walk, and the inner one tests the ancestors of one tile, from the root on.
use Rattle.quadtree.specs.Numbers.{location_tile}
use Rattle.ancestors.specs.Laws.{AncestorsTested}
use Rattle.ancestors.specs.Walk.{Walk}
use Rattle.ancestors.proofs.uncovered.Given as goal

abbrev pub invariant-loop-steps : goal.invariant-loop-steps
invariant-loop-steps l = AncestorsTested l.morton l.highest (location_tile l.k).z l.steps

abbrev pub invariant-tiles : goal.invariant-tiles
invariant-tiles l = Walk l.m l.initial.locations l.tops l.locations l.count l.top l.i
