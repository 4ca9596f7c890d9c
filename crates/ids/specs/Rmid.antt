-- Row-major numbers: the tiles of all zooms above, then the tile's place in its own zoom, row by row.
use Rattle.errors.specs.declared.Refusal.{Refusal}
use Rattle.std.specs.Prelude.{cond, ℕ, zero, suc, ◌+◌, ◌-◌, ◌*◌, ◌/◌, ◌%◌, ◌^◌, leb, Result}
use Rattle.constants.specs.Limits.{max_zoom}
use Rattle.errors.specs.Answer.{Answer, answer, ◌when◌}
use Rattle.errors.specs.Cases.{case_of}
use Rattle.tile.specs.OnMap.{tile_at, no_tile_of, tile_refusal}
use Rattle.tile.specs.declared.Tile.{Tile}
use Rattle.ids.specs.declared.OffsetZoom.{OffsetZoom}

-- how many tiles the zooms above z have together
unfoldable pub level_start : ℕ → ℕ
level_start z = (4 ^ z - 1) / 3

abbrev pub rmid : ℕ → ℕ → ℕ → ℕ
rmid x y z = level_start z + x + y * 2 ^ z

abbrev pub to_rmid_of : ℕ → ℕ → ℕ → Answer ℕ
to_rmid_of x y z = answer (tile_refusal x y z) 0 (rmid x y z)

-- numbers from here on are no tile's
abbrev pub rmid_limit : ℕ
rmid_limit = level_start (max_zoom + 1)

-- the deepest zoom to z that starts at n or before it
unfoldable pub zoom_up_to : ℕ → ℕ → ℕ
zoom_up_to n zero = 0
zoom_up_to n (suc z) = cond (leb (level_start (suc z)) n) (suc z) (zoom_up_to n z)

abbrev pub zoom_of : ℕ → ℕ
zoom_of n = zoom_up_to n max_zoom

abbrev pub offset_of : ℕ → ℕ
offset_of n = n - level_start (zoom_of n)

abbrev pub offset_zoom_case : Result OffsetZoom Refusal → Answer OffsetZoom
offset_zoom_case r = case_of (record { offset = 0; zoom = 0 }) r

abbrev pub rmid_refusal : ℕ → ℕ
rmid_refusal n = 7 when leb rmid_limit n

abbrev pub offset_zoom_of : ℕ → Answer OffsetZoom
offset_zoom_of n = answer (rmid_refusal n) (record { offset = 0; zoom = 0 }) (record { offset = offset_of n; zoom = zoom_of n })

-- the tile at a number's place in its zoom
abbrev pub rmid_tile : ℕ → Tile
rmid_tile n = tile_at (offset_of n % 2 ^ zoom_of n) (offset_of n / 2 ^ zoom_of n) (zoom_of n)

abbrev pub from_rmid_of : ℕ → Answer Tile
from_rmid_of n = answer (rmid_refusal n) no_tile_of (rmid_tile n)
