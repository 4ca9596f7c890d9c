-- `take_line` meets its contract: up to the end of the line or of the chunk, each byte goes to the line.
use mathlib.Core.Path.{◌≡◌}
use Prim.Native.Nat.{◌≤◌, ◌-◌}
use lib.ListN.{length}
use Rattle.form_stream.specs.Steps.{Takes}
use Rattle.form_stream.proofs.take_line.Given as goal

abbrev pub invariant-loop-i : goal.invariant-loop-i
invariant-loop-i l = (l.i ≤ length l.chunk) × (length l.line ≡ length l.initial.line) × Takes l.chunk l.from l.initial.line l.len l.line (record { at = l.i; len = l.n })

abbrev pub decreases-loop-i : goal.decreases-loop-i
decreases-loop-i l = length l.chunk - l.i
