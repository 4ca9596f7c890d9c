-- Each number is of one tile: what it takes apart to is the tile that it is of.
use Rattle.std.specs.Prelude.{◌≡◌, ℕ, ◌+◌, ◌*◌, ◌%◌, ◌^◌, ◌<◌}
use Rattle.std.proofs.Common.{sym, ap, ◌∙◌, arith}
use Rattle.std.proofs.Math.Arith.{digits_mod}
use Rattle.tile.specs.declared.Tile.{Tile}
use Rattle.quadtree.specs.LowestBit.{location_morton}
use Rattle.quadtree.specs.Numbers.{OfMap, morton_of, location_of, rank_of, morton_tile, location_tile, rank_tile}
use Rattle.quadtree.specs.RankOrder.{rank_zoom, rank_column, rank_row}
use Rattle.quadtree.specs.Tree.{morton_zoom, zoom_small, morton_column, morton_row}

-- a column below its leading 1
below_one : (x z : ℕ) → x < 2 ^ z → (2 ^ z + x) % 2 ^ z ≡ x
below_one x z h = let e : 2 ^ z + x ≡ 1 * 2 ^ z + x = omega arith in rw e (digits_mod 1 h)

pub morton_tile_lem : (t : Tile) → OfMap t → morton_tile (morton_of t) ≡ t
unfolding morton_tile
morton_tile_lem t m = rw (morton_zoom t (zoom_small m.zoom), morton_column t m, morton_row t m, below_one t.x t.z m.column)

pub location_tile_lem : (t : Tile) → OfMap t → location_tile (location_of t) ≡ t
unfolding location_tile
location_tile_lem t m = rw (location_morton t) (morton_tile_lem t m)

pub rank_tile_lem : (t : Tile) → OfMap t → rank_tile (rank_of t) ≡ t
unfolding rank_tile
rank_tile_lem t m = rw (rank_column t m, rank_row t m, rank_zoom t m, below_one t.x t.z m.column)

pub morton_inj : (s t : Tile) → OfMap s → OfMap t → morton_of s ≡ morton_of t → s ≡ t
morton_inj s t m n e = sym (morton_tile_lem s m) ∙ (ap morton_tile e ∙ morton_tile_lem t n)

pub location_inj : (s t : Tile) → OfMap s → OfMap t → location_of s ≡ location_of t → s ≡ t
location_inj s t m n e = sym (location_tile_lem s m) ∙ (ap location_tile e ∙ location_tile_lem t n)

pub rank_inj : (s t : Tile) → OfMap s → OfMap t → rank_of s ≡ rank_of t → s ≡ t
rank_inj s t m n e = sym (rank_tile_lem s m) ∙ (ap rank_tile e ∙ rank_tile_lem t n)
