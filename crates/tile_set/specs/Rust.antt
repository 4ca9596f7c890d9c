-- The Rust's `merge`, `simplify_v1` and `simplify` (merge.rs) as functions on values. A hash set is a test of tiles. A loop over a
-- hash set or a hash map, whose order is not fixed, walks a list, and `RustTheorems` speaks of every list that the loop can follow.
-- Columns and rows have 32 bits and zooms 8: `parent` halves and takes 1, which leaves them at zoom 0 alone; `children1` is computed
-- in them.
use Rattle.std.specs.Prelude.{◌≡◌, ◌↔◌, Bool, true, false, cond, not, ◌&&◌, ◌||◌, ℕ, zero, suc, ◌+◌, ◌*◌, ◌%◌, ◌^◌, ◌≤◌, eqb, leb, ltb, length, Option, None, Some}
use mathlib.Core.List.{List, [], ◌∷◌, foldl, Memᴰ}
use Rattle.tile.specs.OnMap.{tile_at}
use Rattle.tile.specs.declared.Tile.{Tile}
use Rattle.tile_set.specs.Merged.{Within}
use Rattle.tile_set.specs.Set.{any_below, parent_tile}

abbrev pub same_tile : Tile → Tile → Bool
same_tile s t = eqb s.x t.x && (eqb s.y t.y && eqb s.z t.z)

abbrev pub empty : Tile → Bool
empty t = false

unfoldable pub insert_tile : Tile → (Tile → Bool) → Tile → Bool
insert_tile a S t = same_tile t a || S t

unfoldable pub remove : Tile → (Tile → Bool) → Tile → Bool
remove a S t = not (same_tile t a) && S t

abbrev pub extend : List Tile → (Tile → Bool) → Tile → Bool
extend tiles S = foldl (λ R t. insert_tile t R) S tiles

abbrev pub remove_all : List Tile → (Tile → Bool) → Tile → Bool
remove_all tiles S = foldl (λ R t. remove t R) S tiles

-- `parent`: one step up where no extra steps are left, else a call one zoom up with one step fewer; none is the Rust's none, and where
-- `z - 1` stops
unfoldable pub parent : Tile → ℕ → Option Tile
parent t zero = cond (eqb t.z 0) None (Some (parent_tile t))
parent t (suc n) = cond (eqb t.z 0) None (parent (parent_tile t) n)

-- what `iter_parents` gives: the parent, and after each tile its parent, in no more calls than a zoom of 8 bits has zooms above it
unfoldable pub parents_from : ℕ → Option Tile → List Tile
parents_from zero current = []
parents_from (suc calls) None = []
parents_from (suc calls) (Some t) = t ∷ parents_from calls (parent t 0)

abbrev pub iter_parents : Tile → List Tile
iter_parents t = parents_from 255 (parent t 0)

-- `merge` after its first loop: `upwards_merge`, with no entry where the group is empty, and `current_tileset`
pub record Filed : Type 0 where
  pub upwards : Tile → List Tile
  pub current : Tile → Bool

-- a tile goes into its parent's group, in which it is new, since the loop meets each tile once
abbrev pub file_under : Filed → Tile → Option Tile → Filed
file_under s t None = s
file_under s t (Some parent) = record { upwards = λ p. cond (same_tile p parent) (t ∷ s.upwards p) (s.upwards p); current = s.current }

abbrev pub file : ℕ → Filed → Tile → Filed
file m s t = cond (ltb m t.z) (file_under s t (parent t 0)) (record { upwards = s.upwards; current = insert_tile t s.current })

unfoldable pub rust_filed : ℕ → List Tile → Filed
rust_filed m tiles = foldl (file m) (record { upwards = λ p. []; current = empty }) tiles

-- what `merge` gives back
pub record MergeResult : Type 0 where
  pub current : Tile → Bool
  pub changed : Bool

abbrev pub merge_group : ℕ → (Tile → List Tile) → MergeResult → Tile → MergeResult
merge_group m upwards s supertile =
    cond (eqb (length (upwards supertile)) 4 && leb m supertile.z)
    (record { current = insert_tile supertile s.current; changed = true })
    (record { current = extend (upwards supertile) s.current; changed = s.changed })

unfoldable pub rust_merge : ℕ → List Tile → List Tile → MergeResult
rust_merge m tiles supertiles =
    let s = rust_filed m tiles in
    foldl (merge_group m s.upwards) (record { current = s.current; changed = false }) supertiles

-- the first loop of `simplify_v1`; the i of its inner loop run from z - 1 down to m
abbrev pub holds_some : (Tile → Bool) → Option Tile → Bool
holds_some roots None = false
holds_some roots (Some parent) = roots parent

abbrev pub keep_root : ℕ → (Tile → Bool) → Tile → Tile → Bool
keep_root m roots t =
    cond (leb t.z m) (insert_tile t roots)
    (cond (any_below t.z (λ i. leb m i && holds_some roots (parent t i))) roots (insert_tile t roots))

unfoldable pub rust_roots : ℕ → List Tile → Tile → Bool
rust_roots m tiles = foldl (keep_root m) empty tiles

-- the orders in which the calls of `merge` walk: for each turn of the loop, by the turns that may follow it, and the set that it is given
pub record Orders : Type 0 where
  pub tiles : ℕ → (Tile → Bool) → List Tile
  pub supertiles : ℕ → (Tile → Bool) → List Tile

-- `while is_merging`, with a bound on its turns: where the bound ends the loop, `changed` is still true
unfoldable pub rust_while : ℕ → ℕ → Orders → (Tile → Bool) → MergeResult
rust_while zero m o roots = record { current = roots; changed = true }
rust_while (suc turns) m o roots =
    let s = rust_merge m (o.tiles turns roots) (o.supertiles turns roots) in
    let more = rust_while turns m o s.current in
    cond s.changed more s

abbrev pub rust_simplify_v1 : ℕ → ℕ → Orders → List Tile → MergeResult
rust_simplify_v1 turns m o tiles = rust_while turns m o (rust_roots m tiles)

-- `.any(..)`
unfoldable pub contains_any : (Tile → Bool) → List Tile → Bool
contains_any coverage [] = false
contains_any coverage (t ∷ ts) = coverage t || contains_any coverage ts

abbrev pub has_tile_or_parent : (Tile → Bool) → Tile → Bool
has_tile_or_parent coverage t = coverage t || contains_any coverage (iter_parents t)

-- `x * 2`, `x * 2 + 1` and `z + 1`
abbrev pub wrapped_even : ℕ → ℕ
wrapped_even n = n * 2 % 2 ^ 32

abbrev pub wrapped_odd : ℕ → ℕ
wrapped_odd n = (n * 2 % 2 ^ 32 + 1) % 2 ^ 32

abbrev pub deeper : ℕ → ℕ
deeper z = (z + 1) % 2 ^ 8

abbrev pub children1 : Tile → List Tile
children1 p =
    tile_at (wrapped_even p.x) (wrapped_even p.y) (deeper p.z) ∷ tile_at (wrapped_odd p.x) (wrapped_even p.y) (deeper p.z)
    ∷ tile_at (wrapped_even p.x) (wrapped_odd p.y) (deeper p.z) ∷ tile_at (wrapped_odd p.x) (wrapped_odd p.y) (deeper p.z) ∷ []

-- `siblings.iter().all(..)`
unfoldable pub contains_all : (Tile → Bool) → List Tile → Bool
contains_all coverage [] = true
contains_all coverage (t ∷ ts) = coverage t && contains_all coverage ts

-- `attempt_merge` of the parents that are still to come
unfoldable pub attempt_merge : ℕ → List Tile → (Tile → Bool) → Tile → Bool
attempt_merge m [] coverage = coverage
attempt_merge m (p ∷ parents) coverage =
    let more = attempt_merge m parents (insert_tile p (remove_all (children1 p) coverage)) in
    cond (ltb p.z m) coverage (cond (contains_all coverage (children1 p)) more coverage)

abbrev pub put : ℕ → (Tile → Bool) → Tile → Tile → Bool
put m coverage t = cond (has_tile_or_parent coverage t) coverage (attempt_merge m (iter_parents t) (insert_tile t coverage))

unfoldable pub rust_simplify : ℕ → List Tile → Tile → Bool
rust_simplify m tiles = foldl (put m) empty tiles

-- each entry stands once
abbrev pub NoRepeats : List Tile → Type 0
NoRepeats [] = Unit {0}
NoRepeats (a ∷ l) = (Memᴰ a l → ⊥) × NoRepeats l

-- an order in which a loop over the set can go
pub record LoopOrder (S : Tile → Bool) (tiles : List Tile) : Type 0 where
  pub just : (t : Tile) → Memᴰ t tiles ↔ (S t ≡ true)
  pub once : NoRepeats tiles

-- an order in which a loop over the map of `merge` can go: it meets the tiles that have a group
abbrev pub Keys : ℕ → List Tile → List Tile → Type 0
Keys m tiles supertiles = (p : Tile) → Memᴰ p supertiles ↔ ((t : Tile) × Memᴰ t ((rust_filed m tiles).upwards p))

-- an order that `sort_by_key(|t| t.z())` can give
abbrev pub ByZoom : List Tile → Type 0
ByZoom [] = Unit {0}
ByZoom (a ∷ l) = ((t : Tile) → Memᴰ t l → a.z ≤ t.z) × ByZoom l

-- the orders of every turn are such, for whatever set of tiles of zoom 0 to D it is given
pub record Fair (D m : ℕ) (o : Orders) : Type 0 where
  pub walks : (turn : ℕ) (S : Tile → Bool) → Within D S → LoopOrder S (o.tiles turn S)
  pub keys : (turn : ℕ) (S : Tile → Bool) → Within D S → Keys m (o.tiles turn S) (o.supertiles turn S)
