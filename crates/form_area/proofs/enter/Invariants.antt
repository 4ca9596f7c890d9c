-- `enter` meets its contract: the keys are entered one by one, from the left.
use mathlib.Core.Path.{◌≡◌}
use Prim.Native.Nat.{◌-◌}
use lib.ListN.{length}
use Rattle.form_area.specs.Entries.{Begun}
use Rattle.form_area.proofs.enter.Given as goal

abbrev pub invariant-loop-length : goal.invariant-loop-length
invariant-loop-length l = Begun l.at l.n l.entries l.body × (length l.entries ≡ length l.initial.entries)

abbrev pub decreases-loop-length : goal.decreases-loop-length
decreases-loop-length l = length l.body - l.at
