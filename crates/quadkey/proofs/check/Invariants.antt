-- `quadkey::check` meets its contract: whether all bytes are digits is whether those from the next one on are.
use Rattle.std.proofs.Common.{◌≡◌, drop}
use Rattle.quadkey.specs.Key.{all_digits_of}
use Rattle.quadkey.proofs.check.Given as goal

abbrev pub invariant-loop-b : goal.invariant-loop-b
invariant-loop-b l = all_digits_of l.key ≡ all_digits_of (drop l.b-index l.key)
