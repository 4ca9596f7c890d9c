-- `tile_zbox_numbers::flip_all` meets its contract: the boxes before this one stand flipped at the front of the memory.
use mathlib.Core.Path.{◌≡◌}
use Prim.Native.Nat.{◌*◌}
use Rattle.errors.specs.Memory.{front}
use Rattle.tile_zbox_numbers.specs.Boxes.{flipped_numbers}
use Rattle.tile_zbox_numbers.proofs.flip_all.Given as goal

abbrev pub invariant-loop-k : goal.invariant-loop-k
invariant-loop-k l = l.out ≡ front (5 * l.k) (flipped_numbers l.boxes) l.initial.out
