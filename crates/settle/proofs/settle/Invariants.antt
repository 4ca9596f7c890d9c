-- `settle`: after i numbers the stack is what the pass makes of them.
use Rattle.settle.specs.Middle.{Mid}
use Rattle.settle.proofs.settle.Given as goal

abbrev pub invariant-loop-i : goal.invariant-loop-i
invariant-loop-i l = Mid l.m l.initial.locations l.locations l.count l.end l.i
