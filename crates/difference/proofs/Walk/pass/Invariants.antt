-- `pass`: the tiles before `next` end at `start` or before it.
use Rattle.std.specs.Prelude.{◌≡◌}
use Rattle.difference.specs.Walk.{Behind}
use Rattle.difference.proofs.Walk.pass.Given as goal

abbrev pub invariant-loop-next : goal.invariant-loop-next
invariant-loop-next l = Behind l.self.gone.now l.start l.next × (l.self ≡ l.initial.self)
