-- `feed_lines` meets its contract: line by line, the scan goes on as it would have gone.
use mathlib.Core.Path.{◌≡◌}
use Prim.Native.Nat.{◌-◌}
use lib.ListN.{length}
use Rattle.form_stream.specs.Scan.{scan_at}
use Rattle.form_stream.specs.Steps.{Goes}
use Rattle.form_stream.proofs.feed_lines.Given as goal

abbrev pub invariant-loop-i : goal.invariant-loop-i
invariant-loop-i l = (length l.line ≡ length l.initial.line) × (length l.out ≡ length l.initial.out) × Goes l.chunk (scan_at l.from l.len 0 l.initial.line l.initial.out) l.i l.held l.filled l.line l.out

abbrev pub decreases-loop-i : goal.decreases-loop-i
decreases-loop-i l = length l.chunk - l.i
