-- The smallest box of a list of tiles, with refusals 6, 7, 8 and 9 of whoever sends the list.
use Rattle.std.specs.Prelude.{Bool, not, List, [], ◌∷◌, map, ℕ, min, max, ltb, eqb, length, get_or}
use Rattle.bits.specs.Tests.{all_of}
use Rattle.constants.specs.Limits.{max_entries}
use Rattle.errors.specs.Answer.{Answer, answer, ◌when◌, ◌else◌}
use Rattle.ids.specs.Entry.{entry_tile, is_entry}
use Rattle.tile.specs.declared.Tile.{Tile}
use Rattle.tile_zbox.specs.Box.{box_at, no_box}
use Rattle.tile_zbox.specs.declared.TileZBox.{TileZBox}

abbrev pub of_zoom : ℕ → ℕ → Bool
of_zoom z n = eqb (entry_tile n).z z

-- the zoom of the first tile
abbrev pub zoom_of_first : List ℕ → ℕ
zoom_of_first list = (entry_tile (get_or list 0 0)).z

-- too many entries; one that is no tile's; no tile; tiles of other zooms than the first
unfoldable pub tiles_refusal : List ℕ → ℕ
tiles_refusal list = 6 when ltb max_entries (length list) else 7 when not (all_of is_entry list) else 8 when eqb (length list) 0
    else 9 when not (all_of (of_zoom (zoom_of_first list)) list)

-- the smallest and the greatest of some numbers; 0 of none
unfoldable pub least : List ℕ → ℕ
least [] = 0
least (n ∷ []) = n
least (n ∷ (m ∷ ms)) = min n (least (m ∷ ms))

unfoldable pub greatest : List ℕ → ℕ
greatest [] = 0
greatest (n ∷ ns) = max n (greatest ns)

abbrev pub entry_column : ℕ → ℕ
entry_column n = (entry_tile n).x

abbrev pub entry_row : ℕ → ℕ
entry_row n = (entry_tile n).y

-- the box from the smallest to the greatest column and row of the listed tiles
unfoldable pub box_around : List ℕ → TileZBox
box_around list = box_at (zoom_of_first list) (least (map entry_column list)) (greatest (map entry_column list)) (least (map entry_row list))
    (greatest (map entry_row list))

abbrev pub from_tiles_of : List ℕ → Answer TileZBox
from_tiles_of list = answer (tiles_refusal list) no_box (box_around list)

-- a box with one tile more, as the code takes it
abbrev pub grown : TileZBox → Tile → TileZBox
grown b t = box_at b.zoom (min b.minx t.x) (max b.maxx t.x) (min b.miny t.y) (max b.maxy t.y)
