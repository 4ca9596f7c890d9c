-- `apart`: the runs of the locations before i rise, and none of their tiles completes a family.
use Rattle.settled.specs.Walk.{Loose}
use Rattle.settled.proofs.apart.Given as goal

abbrev pub invariant-loop-i : goal.invariant-loop-i
invariant-loop-i l = Loose l.locations l.end l.i
