-- `boxes_length`: the answer so far is the one for the boxes before b.
use Rattle.std.proofs.Common.{◌≡◌, length, take}
use Rattle.errors.specs.Cases.{number_case}
use Rattle.tile_zboxes.specs.SoFar.{boxes_so_far}
use Rattle.tile_zboxes.proofs.boxes_length.Given as goal

abbrev pub invariant-loop-b : goal.invariant-loop-b
invariant-loop-b l = number_case l.sum ≡ boxes_so_far (length l.boxes) (take l.b-index l.boxes)
