-- `keys_end` meets its contract: keys are passed one by one.
use Prim.Native.Nat.{◌-◌}
use lib.ListN.{length}
use Rattle.form.proofs.Keys.{KeysRead}
use Rattle.form.proofs.keys_end.Given as goal

abbrev pub invariant-loop-at : goal.invariant-loop-at
invariant-loop-at l = KeysRead l.at l.bytes

abbrev pub decreases-loop-at : goal.decreases-loop-at
decreases-loop-at l = length l.bytes - l.at
