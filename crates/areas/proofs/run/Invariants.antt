-- `run` is safe and ends: the buffers keep their length.
use Rattle.std.proofs.Common.{◌≡◌, length, suc}
use Rattle.constants.specs.Limits.{max_line}
use Rattle.areas.proofs.run.Given as goal

abbrev pub invariant-loop : goal.invariant-loop
invariant-loop g l = (65536 ≡ length l.out) × (length l.line ≡ suc max_line)
