-- What the pass makes of a list of locations, and what its parts do. The locations that are kept stand as a stack at the front.
--   Settles m before after r     the first r numbers are the locations of what `before` comes to
--   Stand l count k              k on top of the first `count`, locations all of them
--   Popped l start count r       those above `start` are taken off the top, and r are left
--   Family m T n t p             t and the last three of n tiles are the four children of p
--   Joins m l c j count k        families on top are joined until none is there
use Rattle.std.specs.Prelude.{◌≡◌, List, ℕ, ◌-◌, ◌≤◌, ◌<◌, length, take, get_or}
use Rattle.quadtree.specs.Lists.{TileNumbers}
use Rattle.quadtree.specs.Numbers.{location_of, location_tile}
use Rattle.sort.specs.Sort.{Rising}
use Rattle.tile.specs.declared.Tile.{Tile}
use Rattle.tile_list.specs.List.{named}
use Rattle.tile_set.specs.Set.{child}
use Rattle.tile_set.specs.Simplified.{Simplest}
use Rattle.quadtree.specs.Locations.{IsLocation, tiles}

-- the first r numbers of `after` are the locations, in order, of what `before` comes to at minimum zoom m
pub record Settles (m : ℕ) (before after : List ℕ) (r : ℕ) : Type 0 where
  pub within : r ≤ length after
  pub locations : TileNumbers location_of (take r after)
  pub rising : Rising (take r after)
  pub simplest : Simplest m (named location_tile before) (named location_tile (take r after))

-- k on top of the first `count` numbers, locations all of them
pub record Stand (l : List ℕ) (count k : ℕ) : Type 0 where
  pub within : count ≤ length l
  pub each : (i : ℕ) → i < count → IsLocation (get_or l i 0)
  pub top : IsLocation k

-- of `count` numbers those above `start` at the end are taken off, and r are left
pub record Popped (l : List ℕ) (start count r : ℕ) : Type 0 where
  pub within : r ≤ count
  pub off : (i : ℕ) → r ≤ i → i < count → start < get_or l i 0
  pub last : 0 < r → get_or l (r - 1) 0 ≤ start

-- t and the last three of n tiles are the children of p, deep enough to be joined
pub record Family (m : ℕ) (T : ℕ → Tile) (n : ℕ) (t p : Tile) : Type 0 where
  pub deep : m ≤ p.z
  pub three : 3 ≤ n
  pub first : T (n - 3) ≡ child p 0 0
  pub second : T (n - 2) ≡ child p 1 0
  pub third : T (n - 1) ≡ child p 0 1
  pub fourth : t ≡ child p 1 1

-- with k on top of `count` numbers, families are joined until none is there, which leaves j on top of c
pub data Joins (m : ℕ) (l : List ℕ) (c j : ℕ) : ℕ → ℕ → Type 0 where
  stop : ((p : Tile) → Family m (tiles l) c (location_tile j) p → ⊥) → Joins m l c j c j
  join : {count k : ℕ} (p : Tile) → Family m (tiles l) count (location_tile k) p → Joins m l c j (count - 3) (location_of p)
      → Joins m l c j count k
