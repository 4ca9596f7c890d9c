-- What the calls take and leave: the locations of two settled sets, and the sets that are made of them.
use Rattle.std.specs.Prelude.{◌≡◌, Bool, List, ◌++◌, map, ℕ, ◌≤◌, length, take, drop}
use Rattle.common.specs.Common.{shared}
use Rattle.constants.specs.Limits.{max_zoom}
use Rattle.difference.specs.Left.{without}
use Rattle.quadtree.specs.Numbers.{location_of, location_tile}
use Rattle.quadtree.specs.Locations.{Runs}
use Rattle.tile.specs.declared.Tile.{Tile}
use Rattle.tile_list.specs.List.{named, entries_in_order}
use Rattle.tile_set.specs.Set.{simplified}

-- the locations of two settled sets, the first n of them the first one's
pub record TwoSets (locations : List ℕ) (n : ℕ) : Type 0 where
  pub within : n ≤ length locations
  pub first : Runs (take n locations)
  pub second : Runs (drop n locations)

-- the union, the common part and what is left of the first, of two sets by their locations
abbrev pub union_set : List ℕ → List ℕ → Tile → Bool
union_set a b = simplified max_zoom 0 (named location_tile (a ++ b))

abbrev pub common_set : List ℕ → List ℕ → Tile → Bool
common_set a b = shared (named location_tile a) (named location_tile b)

abbrev pub left_set : List ℕ → List ℕ → Tile → Bool
left_set a b = named location_tile (map location_of (without a b))

abbrev pub left_entries : List ℕ → List ℕ → List ℕ
left_entries a b = entries_in_order (left_set a b)

-- what is left stands at the front of the memory, which is behind it as it was before
pub record LeftIn (a b before after : List ℕ) (r : ℕ) : Type 0 where
  pub counted : r ≡ length (left_entries a b)
  pub written : after ≡ left_entries a b ++ drop r before
