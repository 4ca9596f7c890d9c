-- Document 01's "Ground" and "Settled" over any deepest zoom D, and settled above a floor, from request K12.
--   inside D t X Y          the tile (X, Y) of zoom D lies inside t
--   ground D l              the ground of a list; as every set of tiles of zoom D, a test of their columns and rows
--   Same D G H              the sets G and H have the same tiles of the map
--   Settled D l             the list is settled
--   SettledFrom m D l       the list is settled above the floor m: that word is the request's, for the minimum zoom
--   full G d t              all tiles that lie d zooms below t are in G
--   largest_from m D G t     t is full, of zoom m or more, and cannot be replaced by its parent
--   settled_list_from m D G   the list of those tiles; settled_list D G is its case m = 0
use Rattle.std.specs.Prelude.{◌≡◌, Bool, not, ◌&&◌, ℕ, zero, suc, ◌-◌, ◌/◌, ◌^◌, ◌≤◌, ◌<◌, eqb, leb, ltb}
use mathlib.Core.List.{List, Memᴰ}
use Rattle.bits.specs.Tests.{any_of}
use Rattle.tile.specs.declared.Tile.{Tile}
use Rattle.tile_set.specs.Holds.{Holds, Valid}
use Rattle.tile_set.specs.InOrder.{Ordered}
use Rattle.tile_set.specs.Set.{child, parent_tile, whole, tiles_in_order}

-- "one is inside a tile of zoom z if its x and y divided by 2^(29 − z), remainders dropped, are that tile's x and y": D stands for 29, and
-- for 30 by document 02, K11: "Ground is counted in zoom-30 tiles"
abbrev pub inside : ℕ → Tile → ℕ → ℕ → Bool
inside D t X Y = eqb (X / 2 ^ (D - t.z)) t.x && eqb (Y / 2 ^ (D - t.z)) t.y

-- "Ground means the zoom-29 tiles inside any listed tile"
unfoldable pub ground : ℕ → List Tile → ℕ → ℕ → Bool
ground D l X Y = any_of (λ t. inside D t X Y) l

-- the same tiles of zoom D
abbrev pub Same : ℕ → (ℕ → ℕ → Bool) → (ℕ → ℕ → Bool) → Type 0
Same D G H = (X Y : ℕ) → X < 2 ^ D → Y < 2 ^ D → G X Y ≡ H X Y

-- "Settled means: strictly in order, no tile beside its own ancestor, no four siblings together"
pub record Settled (D : ℕ) (l : List Tile) : Type 0 where
  pub of_map : (t : Tile) → Memᴰ t l → Valid D t
  pub in_order : Ordered l
  pub apart : (s t : Tile) → Memᴰ s l → Memᴰ t l → Holds s t → s ≡ t
  pub no_four : (p : Tile)
      → Memᴰ (child p 0 0) l → Memᴰ (child p 0 1) l → Memᴰ (child p 1 0) l → Memᴰ (child p 1 1) l → ⊥

-- no four siblings of the kind P have a parent of zoom m or more
abbrev pub NoFour : ℕ → (Tile → Type 0) → Type 0
NoFour m P = (p : Tile) → m ≤ p.z → P (child p 0 0) → P (child p 0 1) → P (child p 1 0) → P (child p 1 1) → ⊥

-- Settled above a floor, for those who "never page above a chosen zoom m": every tile has zoom m or more, and four siblings stand together
-- only where their parent has less
pub record SettledFrom (m D : ℕ) (l : List Tile) : Type 0 where
  pub of_map : (t : Tile) → Memᴰ t l → Valid D t
  pub floor : (t : Tile) → Memᴰ t l → m ≤ t.z
  pub in_order : Ordered l
  pub apart : (s t : Tile) → Memᴰ s l → Memᴰ t l → Holds s t → s ≡ t
  pub no_four : NoFour m (λ t. Memᴰ t l)

-- all tiles that lie d zooms below t, the deepest ones, are in the set
unfoldable pub full : (ℕ → ℕ → Bool) → ℕ → Tile → Bool
full G zero t = G t.x t.y
full G (suc d) t = whole (full G d) t

-- the tiles of zoom m or more that are full while their parent is not, or has a zoom less than m
unfoldable pub largest_from : ℕ → ℕ → (ℕ → ℕ → Bool) → Tile → Bool
largest_from m D G t = leb m t.z && (full G (D - t.z) t && not (ltb m t.z && full G (suc (D - t.z)) (parent_tile t)))

-- the settled list of a set above the floor m: `Floor` shows that it is settled so, that its ground is the set, and that no other list is
-- both
unfoldable pub settled_list_from : ℕ → ℕ → (ℕ → ℕ → Bool) → List Tile
settled_list_from m D G = tiles_in_order D (largest_from m D G)

-- the settled list of a set: the floor is 0. `Theorems` has the same of it in document 01's words
abbrev pub settled_list : ℕ → (ℕ → ℕ → Bool) → List Tile
settled_list D G = settled_list_from 0 D G
