-- A box of tiles of one zoom, both ends included: refusals 1 and 10 of whoever sends one, and what its calls promise.
use Rattle.errors.specs.declared.Refusal.{Refusal}
use Rattle.std.specs.Prelude.{◌≡◌, Bool, false, ◌&&◌, ◌||◌, ℕ, ◌+◌, ◌-◌, ◌*◌, ◌^◌, ◌≤◌, ◌<◌, leb, ltb, eqb, Result}
use Rattle.constants.specs.Limits.{max_zoom}
use Rattle.errors.specs.Answer.{Answer, answer, ◌when◌, ◌else◌}
use Rattle.errors.specs.Cases.{case_of}
use Rattle.tile.specs.OnMap.{tile_refusal}
use Rattle.tile.specs.declared.Tile.{Tile}
use Rattle.tile_zbox.specs.declared.TileZBox.{TileZBox}
use Rattle.tile_zbox.specs.declared.Extent.{Extent}

-- the columns minx to maxx and the rows miny to maxy of a zoom
abbrev pub box_at : ℕ → ℕ → ℕ → ℕ → ℕ → TileZBox
box_at zoom minx maxx miny maxy = record { zoom = zoom; minx = minx; maxx = maxx; miny = miny; maxy = maxy }

-- the zero of the type: also the root's box
abbrev pub no_box : TileZBox
no_box = box_at 0 0 0 0 0

pub record IsBox (b : TileZBox) : Type 0 where
  pub zoom : b.zoom ≤ max_zoom
  pub columns : b.minx ≤ b.maxx
  pub east : b.maxx < 2 ^ b.zoom
  pub rows : b.miny ≤ b.maxy
  pub south : b.maxy < 2 ^ b.zoom

-- min above max, or max not below the end
abbrev pub wrong_run : ℕ → ℕ → ℕ → Bool
wrong_run min max end = ltb max min || leb end max

unfoldable pub wrong_edges : TileZBox → Bool
wrong_edges b = wrong_run b.minx b.maxx (2 ^ b.zoom) || wrong_run b.miny b.maxy (2 ^ b.zoom)

unfoldable pub box_refusal : TileZBox → ℕ
box_refusal b = 1 when ltb max_zoom b.zoom else 10 when wrong_edges b

-- the answers, as document 01's number and value

abbrev pub box_case : Result TileZBox Refusal → Answer TileZBox
box_case r = case_of no_box r

abbrev pub extent_at : ℕ → ℕ → Extent
extent_at across down = record { across = across; down = down }

abbrev pub extent_case : Result Extent Refusal → Answer Extent
extent_case r = case_of (extent_at 0 0) r

-- the promises

abbrev pub new_of : ℕ → ℕ → ℕ → ℕ → ℕ → Answer TileZBox
new_of minx maxx miny maxy zoom = answer (box_refusal (box_at zoom minx maxx miny maxy)) no_box (box_at zoom minx maxx miny maxy)

abbrev pub tile_box : ℕ → ℕ → ℕ → TileZBox
tile_box x y z = box_at z x x y y

abbrev pub from_tile_of : ℕ → ℕ → ℕ → Answer TileZBox
from_tile_of x y z = answer (tile_refusal x y z) no_box (tile_box x y z)

abbrev pub in_range : ℕ → ℕ → ℕ → Bool
in_range n min max = leb min n && leb n max

unfoldable pub in_box : TileZBox → ℕ → ℕ → ℕ → Bool
in_box b x y z = eqb z b.zoom && (in_range x b.minx b.maxx && in_range y b.miny b.maxy)

-- a tile of the box, as a proposition
pub record HoldsTile (b : TileZBox) (t : Tile) : Type 0 where
  pub zoom : t.z ≡ b.zoom
  pub west : b.minx ≤ t.x
  pub east : t.x ≤ b.maxx
  pub north : b.miny ≤ t.y
  pub south : t.y ≤ b.maxy

abbrev pub contains_on_map : TileZBox → ℕ → ℕ → ℕ → Answer Bool
contains_on_map b x y z = answer (box_refusal b) false (in_box b x y z)

-- the first that applies over both: 1 for either zoom, then 2 for the tile, then 10 for the box
abbrev pub contains_refusal : TileZBox → ℕ → ℕ → ℕ → ℕ
contains_refusal b x y z = 1 when ltb max_zoom b.zoom else tile_refusal x y z else box_refusal b

abbrev pub contains_of : TileZBox → ℕ → ℕ → ℕ → Answer Bool
contains_of b x y z = answer (contains_refusal b x y z) false (in_box b x y z)

-- the row as counted from the other side
abbrev pub flip_row : ℕ → ℕ → ℕ
flip_row y z = 2 ^ z - 1 - y

unfoldable pub flipped : TileZBox → TileZBox
flipped b = box_at b.zoom b.minx b.maxx (flip_row b.maxy b.zoom) (flip_row b.miny b.zoom)

abbrev pub box_flip_of : TileZBox → Answer TileZBox
box_flip_of b = answer (box_refusal b) no_box (flipped b)

-- one zoom deeper: each tile becomes its four children
unfoldable pub zoomed_in : TileZBox → TileZBox
zoomed_in b = box_at (b.zoom + 1) (b.minx * 2) (b.maxx * 2 + 1) (b.miny * 2) (b.maxy * 2 + 1)

-- d zooms deeper: each tile becomes its 2 ^ d columns and 2 ^ d rows
unfoldable pub zoomed_by : TileZBox → ℕ → TileZBox
zoomed_by b d = box_at (b.zoom + d) (b.minx * 2 ^ d) (b.maxx * 2 ^ d + (2 ^ d - 1)) (b.miny * 2 ^ d) (b.maxy * 2 ^ d + (2 ^ d - 1))

-- 1 for the zoom that is reached, before the box's own 10
abbrev pub zoom_refusal : TileZBox → ℕ → ℕ
zoom_refusal b d = 1 when ltb max_zoom (b.zoom + d) else box_refusal b

abbrev pub zoom_in_of : TileZBox → Answer TileZBox
zoom_in_of b = answer (zoom_refusal b 1) no_box (zoomed_in b)

abbrev pub zoom_depth_of : TileZBox → ℕ → Answer TileZBox
zoom_depth_of b d = answer (zoom_refusal b d) no_box (zoomed_by b d)

abbrev pub columns_of : TileZBox → ℕ
columns_of b = b.maxx - b.minx + 1

abbrev pub rows_of : TileZBox → ℕ
rows_of b = b.maxy - b.miny + 1

unfoldable pub box_length : TileZBox → ℕ
box_length b = columns_of b * rows_of b

abbrev pub length_of : TileZBox → Answer ℕ
length_of b = answer (box_refusal b) 0 (box_length b)

abbrev pub dx_of : TileZBox → Answer ℕ
dx_of b = answer (box_refusal b) 0 (b.maxx - b.minx)

abbrev pub dy_of : TileZBox → Answer ℕ
dy_of b = answer (box_refusal b) 0 (b.maxy - b.miny)

abbrev pub dxdy_of : TileZBox → Answer Extent
dxdy_of b = answer (box_refusal b) (extent_at 0 0) (extent_at (b.maxx - b.minx) (b.maxy - b.miny))

abbrev pub dimensions_of : TileZBox → Answer Extent
dimensions_of b = answer (box_refusal b) (extent_at 0 0) (extent_at (columns_of b) (rows_of b))
