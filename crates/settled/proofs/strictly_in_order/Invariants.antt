-- `strictly_in_order`: the tiles of the entries that were read rise to `last`.
use Rattle.settled.specs.Order.{Risen}
use Rattle.settled.proofs.strictly_in_order.Given as goal

abbrev pub invariant-loop-entry : goal.invariant-loop-entry
invariant-loop-entry l = Risen l.list l.last l.entry-index
