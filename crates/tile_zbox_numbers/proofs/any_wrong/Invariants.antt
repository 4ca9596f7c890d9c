-- `tile_zbox_numbers::any_wrong` meets its contract: whether any box has wrong edges is whether one of those from here on has.
use mathlib.Core.Path.{◌≡◌}
use lib.ListN.{drop}
use Rattle.bits.specs.Tests.{any_of}
use Rattle.tile_zbox.specs.Box.{wrong_edges}
use Rattle.tile_zbox_numbers.specs.Boxes.{boxes_of}
use Rattle.tile_zbox_numbers.proofs.any_wrong.Given as goal

abbrev pub invariant-loop-five : goal.invariant-loop-five
invariant-loop-five l = any_of wrong_edges (boxes_of l.boxes) ≡ any_of wrong_edges (drop l.five-index (boxes_of l.boxes))
