-- The common part of two sets of tiles: what stands in either and lies in a tile of the other.
use Rattle.std.specs.Prelude.{◌≡◌, Bool, ◌&&◌, ◌||◌, List, ℕ, suc, ◌≤◌, length, take}
use Rattle.quadtree.specs.Lists.{TileNumbers}
use Rattle.quadtree.specs.Numbers.{location_of, location_tile}
use Rattle.tile.specs.declared.Tile.{Tile}
use Rattle.tile_list.specs.List.{named}
use Rattle.tile_set.specs.Set.{any_below, ancestor}

-- t or one of its ancestors stands in S
abbrev pub held_by : (Tile → Bool) → Tile → Bool
held_by S t = any_below (suc t.z) (λ s. S (ancestor t s))

-- t stands in A and lies in a tile of B, or the other way round
unfoldable pub shared : (Tile → Bool) → (Tile → Bool) → Tile → Bool
shared A B t = (A t && held_by B t) || (B t && held_by A t)

-- the first r numbers of `after` are the locations of the common part of what a and b name
pub record Common (a b after : List ℕ) (r : ℕ) : Type 0 where
  pub within : r ≤ length after
  pub locations : TileNumbers location_of (take r after)
  pub tiles : (t : Tile) → named location_tile (take r after) t ≡ shared (named location_tile a) (named location_tile b) t
