-- Three numbers of a tile by which lists are sorted, and the tile that each is of.
--   morton_of t     the Morton code (Z-order): the quadkey's digits as a number in base 4, behind a leading 1 that keeps the zoom
--   location_of t   the locational code, laid out like an S2 cell id: the Morton code, a 1, and zeros down to the deepest zoom, so that what
--                  lies in a tile lies round its location, within half of its run on each side. In short: the location
--   rank_of t       a number in the order of every list: by zoom, then column, then row
--   morton_tile, location_tile, rank_tile     the tile that such a number is of
--   zoom_in n       the zoom of a Morton code or a rank
use Rattle.std.specs.Prelude.{ℕ, zero, suc, ◌+◌, ◌-◌, ◌*◌, ◌/◌, ◌%◌, ◌^◌}
use Rattle.std.specs.Int.Count.{count_leading_zeros, count_trailing_zeros}
use Rattle.constants.specs.Limits.{max_zoom}
use Rattle.tile.specs.OnMap.{OnMap, tile_at}
use Rattle.tile.specs.declared.Tile.{Tile}

-- a tile of the map
abbrev pub OfMap : Tile → Type 0
OfMap t = OnMap t.x t.y t.z

unfoldable pub morton_at : ℕ → ℕ → ℕ → ℕ
morton_at x y zero = 1
morton_at x y (suc z) = 4 * morton_at (x / 2) (y / 2) z + (2 * (y % 2) + x % 2)

-- the quadkey's digits as a number in base 4, behind a leading 1
abbrev pub morton_of : Tile → ℕ
morton_of t = morton_at t.x t.y t.z

-- the middle of the tile's run of deepest tiles, doubled, behind a leading 1: what lies in a tile lies round its location
unfoldable pub location_of : Tile → ℕ
location_of t = (2 * morton_of t + 1) * 4 ^ (max_zoom - t.z)

-- rises with the zoom, then the column, then the row
unfoldable pub rank_of : Tile → ℕ
rank_of t = 4 ^ t.z + t.x * 2 ^ t.z + t.y

-- the zoom of a Morton code or a rank: at zoom z both have 2z + 1 bits
unfoldable pub zoom_in : ℕ → ℕ
zoom_in n = (63 - count_leading_zeros 64 n) / 2

-- the number that bits 0, 2, .. of the k low digits in base 4 spell
unfoldable pub even_bits : ℕ → ℕ → ℕ
even_bits zero n = 0
even_bits (suc k) n = 2 * even_bits k (n / 4) + n % 2

-- the leading 1 stands above the column
unfoldable pub morton_tile : ℕ → Tile
morton_tile q = tile_at (even_bits 32 q % 2 ^ zoom_in q) (even_bits 32 (q / 2)) (zoom_in q)

-- a Morton code stands above the lowest set bit of its location
unfoldable pub location_tile : ℕ → Tile
location_tile k = morton_tile (k / 2 ^ (count_trailing_zeros 64 k + 1))

unfoldable pub rank_tile : ℕ → Tile
rank_tile r = tile_at (r / 2 ^ zoom_in r % 2 ^ zoom_in r) (r % 2 ^ zoom_in r) (zoom_in r)
