-- `quadkey::flip_all` meets its contract: after i turns the first i flipped digits stand at the front of the memory.
use Rattle.std.proofs.Common.{◌≡◌}
use Rattle.std.specs.Prelude.{map}
use Rattle.errors.specs.Memory.{front}
use Rattle.quadkey.specs.Key.{flip_digit}
use Rattle.quadkey.proofs.flip_all.Given as goal

abbrev pub invariant-loop-i : goal.invariant-loop-i
invariant-loop-i l = l.out ≡ front l.i (map flip_digit l.key) l.initial.out
