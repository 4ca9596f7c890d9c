-- `take_in` is safe and ends, and keeps the line so far: the memory has room for the longest answer, so that each turn takes in a byte at
-- least.
use Rattle.std.proofs.Common.{length, ◌-◌, ◌≡◌, ◌≤◌, suc, take, drop}
use Rattle.areas.specs.LineSoFar.{line_kept}
use Rattle.constants.specs.Limits.{max_line}
use Rattle.areas.proofs.take_in.Given as goal

abbrev pub invariant-loop-so_far : goal.invariant-loop-so_far
invariant-loop-so_far g l =
    (length l.out ≡ length l.fn.out) × (length l.line ≡ suc max_line) × (l.so_far.at ≤ length l.chunk)
    × (line_kept (take l.so_far.len l.line) (drop l.so_far.at l.chunk)
    ≡ line_kept (take l.initial.so_far.len l.fn.line) (drop l.initial.so_far.at l.chunk))

abbrev pub decreases-loop-so_far : goal.decreases-loop-so_far
decreases-loop-so_far g l = length l.chunk - l.so_far.at
