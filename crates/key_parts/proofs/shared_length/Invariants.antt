-- `key_parts::shared_length` meets its contract: what is shared is the i bytes passed and what is shared from i on.
use Rattle.std.proofs.Common.{◌≡◌, ◌+◌, drop}
use Rattle.key_parts.specs.Parts.{shared_length}
use Rattle.key_parts.proofs.shared_length.Given as goal

abbrev pub invariant-loop-i : goal.invariant-loop-i
invariant-loop-i l = shared_length l.a l.b ≡ l.i + shared_length (drop l.i l.a) (drop l.i l.b)
