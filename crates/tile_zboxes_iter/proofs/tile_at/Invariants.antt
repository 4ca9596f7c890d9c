-- `tile_zboxes_iter::tile_at` meets its contract: the tile stands at `place` among those of the boxes from `at` on, and each turn passes one
-- box.
use mathlib.Core.Path.{◌≡◌}
use Prim.Native.Nat.{◌-◌}
use lib.ListN.{length, drop, get_or}
use Rattle.tile.specs.OnMap.{no_tile_of}
use Rattle.tile_zbox.specs.Box.{box_length}
use Rattle.tile_zbox_numbers.specs.Boxes.{box_from, boxes_of}
use Rattle.tile_zboxes_iter.specs.Cursor.{tiles_of_all}
use Rattle.tile_zboxes_iter.specs.Laws.{AmongTiles}
use Rattle.tile_zboxes_iter.proofs.tile_at.Given as goal

abbrev pub invariant-loop-tiles : goal.invariant-loop-tiles
invariant-loop-tiles l = AmongTiles (drop l.at l.boxes) l.place × (l.range ≡ box_from (drop l.at l.boxes)) × (l.tiles ≡ box_length l.range)
    × (get_or (tiles_of_all (boxes_of l.boxes)) l.given no_tile_of
    ≡ get_or (tiles_of_all (boxes_of (drop l.at l.boxes))) l.place no_tile_of)

abbrev pub decreases-loop-tiles : goal.decreases-loop-tiles
decreases-loop-tiles l = length l.boxes - l.at
