-- `tile_zbox_numbers::sum` meets its contract: the total and the lengths of the boxes from here on are those of all.
use mathlib.Core.Path.{◌≡◌}
use Prim.Native.Nat.{◌+◌}
use lib.ListN.{drop}
use Rattle.tile_zbox_numbers.specs.Boxes.{boxes_of, sum_lengths}
use Rattle.tile_zbox_numbers.proofs.sum.Given as goal

abbrev pub invariant-loop-five : goal.invariant-loop-five
invariant-loop-five l = l.total + sum_lengths (drop l.five-index (boxes_of l.boxes)) ≡ sum_lengths (boxes_of l.boxes)
