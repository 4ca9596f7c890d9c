-- The topmost tiles of a list, and what the walk along them finds and leaves.
use Rattle.std.specs.Prelude.{◌≡◌, true, List, ℕ, ◌+◌, ◌≤◌, ◌<◌, length, take}
use Rattle.std.proofs.Math.Decide.{dec_lt}
use Rattle.std.proofs.Common.{arith}
use Rattle.quadtree.specs.Lists.{TileNumbers}
use Rattle.quadtree.specs.Numbers.{morton_of, morton_tile, location_of, location_tile}
use Rattle.quadtree.specs.Locations.{end_of, tiles}
use Rattle.sort.specs.Sort.{Rising}
use Rattle.tile.specs.declared.Tile.{Tile}
use Rattle.tile_list.specs.List.{named}
use Rattle.tile_set.specs.Merged.{Covers, Apart}
use Rattle.tile_set.specs.Set.{uncovered}

-- `tops` are the locations, in order, of the tiles of `before` that have no ancestor there
pub record Tops (before tops : List ℕ) : Type 0 where
  pub rising : Rising tops
  pub numbers : TileNumbers location_of tops
  pub of : (t : Tile) → named location_tile tops t ≡ true → named location_tile before t ≡ true
  pub covers : Covers (named location_tile tops) (named location_tile before)
  pub apart : Apart (named location_tile tops)

-- the run of a top from `from` on ends behind k
pub record Ahead (tops : List ℕ) (from k : ℕ) : Type 0 where
  pub index : ℕ
  pub later : from ≤ index
  pub within : index < length tops
  pub ends : k < end_of (tiles tops index)

-- r is the first such top
pub record FirstTop (tops : List ℕ) (from k r : ℕ) : Type 0 where
  pub later : from ≤ r
  pub within : r < length tops
  pub ends : k < end_of (tiles tops r)
  pub passed : (j : ℕ) → from ≤ j → j < r → end_of (tiles tops j) ≤ k

-- a top that does not end behind k is passed
module _ (tops : List ℕ) (top k : ℕ) (near : end_of (tiles tops top) ≤ k) where
  pub ahead_more : Ahead tops top k → Ahead tops (top + 1) k
  ahead_more a = record { index = a.index; later = pick (dec_lt top a.index); within = a.within; ends = a.ends }
    where
      pick : Dec (top < a.index) → top + 1 ≤ a.index
      pick (yes l) = omega arith
      pick (no l) = let e : a.index ≡ top = omega (arith, a.later) in absurd (omega (arith, rw e at a.ends))

  pub passed_one : (from : ℕ) → ((j : ℕ) → from ≤ j → j < top → end_of (tiles tops j) ≤ k)
      → (j : ℕ) → from ≤ j → j < top + 1 → end_of (tiles tops j) ≤ k
  passed_one from f j a b = pick (dec_lt j top)
    where
      pick : Dec (j < top) → end_of (tiles tops j) ≤ k
      pick (yes l) = f j a l
      pick (no l) = let e : j ≡ top = omega arith in rw e near

-- the first r numbers of `after` are the Morton codes of the tiles that stay of `before`
pub record Uncovers (m : ℕ) (before after : List ℕ) (r : ℕ) : Type 0 where
  pub within : r ≤ length after
  pub numbers : TileNumbers morton_of (take r after)
  pub set : named morton_tile (take r after) ≡ uncovered m (named location_tile before)
