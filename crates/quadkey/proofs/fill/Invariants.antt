-- `quadkey::fill` meets its contract: after i turns the first i digits stand at the front of the memory.
use Rattle.std.proofs.Common.{◌≡◌}
use Rattle.errors.specs.Memory.{front}
use Rattle.quadkey.specs.Key.{key_from}
use Rattle.quadkey.proofs.fill.Given as goal

abbrev pub invariant-loop-i : goal.invariant-loop-i
invariant-loop-i l = l.out ≡ front l.i (key_from l.base l.x l.y l.z) l.initial.out
