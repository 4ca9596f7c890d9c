-- What the cursor comes to, and that the Rust's does the same. Nothing is assumed.
use Rattle.std.specs.Prelude.{◌≡◌, refl, List, [], ◌∷◌, ℕ, zero, suc, ◌+◌, ◌-◌, ◌/◌, ◌^◌, ◌≤◌, ◌<◌, length, get_or, Some, None, Option}
use Rattle.std.proofs.Common.{ap, ◌∙◌, arith, shr-shr}
use Rattle.bits.specs.Checked.{returns, read}
use Rattle.fns.specs.Laws.{half_on_map}
use Rattle.fns.specs.Rust.{rust_parent}
use Rattle.fns.proofs.Theorems.{half_to_29, rust_nearest, rust_root}
use Rattle.tile.specs.OnMap.{OnMap, tile_at, no_tile_of, on_map_accepted}
use Rattle.tile.specs.Rust.{To29, to_29_on_map}
use Rattle.tile.specs.declared.Tile.{Tile}
use Rattle.parent.specs.Parents.{above_of, iter_of, parents_next_of}
use Rattle.parent.specs.Rust.{rust_iter_parents, rust_parents_next, as_parents, as_next, CursorTo29, ended, at_tile}

-- the proper ancestors of a tile, nearest first
pub ancestors : ℕ → ℕ → ℕ → List Tile
ancestors x y zero = []
ancestors x y (suc z) = tile_at (x / 2) (y / 2) z ∷ ancestors (x / 2) (y / 2) z

-- what a cursor gives in so many turns
pub gives : ℕ → Option Tile → List Tile
gives zero cursor = []
gives (suc turns) cursor = kept (parents_next_of cursor).value.tile (gives turns (parents_next_of cursor).value.rest.current)
  where
    kept : Option Tile → List Tile → List Tile
    kept None ts = ts
    kept (Some t) ts = t ∷ ts

-- `iter_parents` gives all the proper ancestors, nearest first, and then nothing for ever: in any number of turns that is at least z
pub all_ancestors_and_then_nothing : (turns x y z : ℕ) → OnMap x y z → z ≤ turns → gives turns (above_of x y z) ≡ ancestors x y z
unfolding gives ancestors
all_ancestors_and_then_nothing zero x y zero m h = refl
all_ancestors_and_then_nothing zero x y (suc z) m h = absurd (omega arith)
all_ancestors_and_then_nothing (suc turns) x y zero m h = all_ancestors_and_then_nothing turns x y zero m (omega arith)
all_ancestors_and_then_nothing (suc turns) x y (suc z) m h =
    let e : suc z - 1 ≡ z = omega arith in
    let u : OnMap (x / 2) (y / 2) z = rw e at (half_on_map m (omega arith)) in
    rw (on_map_accepted u)
    (ap (λ (ts : List Tile). tile_at (x / 2) (y / 2) z ∷ ts) (all_ancestors_and_then_nothing turns (x / 2) (y / 2) z u (omega arith)))

-- none for the root: accepted, and nothing given
pub none_for_the_root : above_of 0 0 0 ≡ None
none_for_the_root = refl

-- each once: the ancestor at place k is the tile shifted by 1 + k, of zoom z − 1 − k, and there are z of them
pub as_many_as_zooms : (x y z : ℕ) → length (ancestors x y z) ≡ z
unfolding ancestors
as_many_as_zooms x y zero = refl
as_many_as_zooms x y (suc z) = ap suc (as_many_as_zooms (x / 2) (y / 2) z)

pub nearest_first : (x y z k : ℕ) → k < z → get_or (ancestors x y z) k no_tile_of ≡ tile_at (x / 2 ^ (1 + k)) (y / 2 ^ (1 + k)) (z - 1 - k)
unfolding ancestors
nearest_first x y zero k h = absurd (omega arith)
nearest_first x y (suc z) zero h = let e : suc z - 1 - 0 ≡ z = omega arith in rw e
nearest_first x y (suc z) (suc k) h =
    let e : z - 1 - k ≡ suc z - 1 - suc k = omega arith in
    nearest_first (x / 2) (y / 2) z k (omega arith) ∙ rw (e, shift x, shift y)
  where
    shift : (a : ℕ) → a / 2 / 2 ^ (1 + k) ≡ a / 2 ^ (1 + suc k)
    shift a = let e : 1 + (1 + k) ≡ 1 + suc k = omega arith in shr-shr a 1 (1 + k) ∙ ap (λ (n : ℕ). a / 2 ^ n) e

-- The Rust, by the functions of Rust.antt: `iter_parents`, and `next` of every cursor that comes of it
above_is : (x y z : ℕ) → To29 x y z → (up : Option Tile) × (rust_parent x y z 0 ≡ returns up) × (up ≡ above_of x y z)
above_is x y zero m = (None, rust_root x y, refl)
above_is x y (suc z) m =
    let e : suc z - 1 ≡ z = omega arith in
    (Some (tile_at (x / 2) (y / 2) z), rw e at (rust_nearest x y (suc z) m (omega arith)), refl)

pub rust_iter_parents_lem : (x y z : ℕ) → To29 x y z → read as_parents (rust_iter_parents x y z) ≡ returns (iter_of x y z)
rust_iter_parents_lem x y z m = let a = above_is x y z m in rw (a.1, a.2, on_map_accepted (to_29_on_map m))

pub rust_next_lem : (cursor : Option Tile) → CursorTo29 cursor
    → read as_next (rust_parents_next cursor) ≡ returns (parents_next_of cursor)
rust_next_lem cursor ended = refl
rust_next_lem cursor (at_tile t m) = let a = above_is t.x t.y t.z m in rw (a.1, a.2, on_map_accepted (to_29_on_map m))

-- those are all: what follows a tile of zoom 0 to 29 is one, or the end
pub rust_cursors : (x y z : ℕ) → To29 x y z → (up : Option Tile) × (rust_parent x y z 0 ≡ returns up) × CursorTo29 up
rust_cursors x y zero m = (None, rust_root x y, ended)
rust_cursors x y (suc z) m = (Some _, rust_nearest x y (suc z) m (omega arith), at_tile _ (half_to_29 m (omega arith)))
