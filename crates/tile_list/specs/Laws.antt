-- Laws of the tiles that a list names.
use Rattle.std.specs.Prelude.{◌≡◌, refl, Bool, true, false, not, ℕ, eqb, ltb, length}
use Rattle.std.proofs.Common.{sym, ap, ◌∙◌, arith, eq-eqb, eqb-true}
use mathlib.Core.List.{List, map, Memᴰ}
use Rattle.bits.specs.Tests.{and_parts, all_of, all_in, in_any, any_in, in_map, into_map}
use Rattle.constants.specs.Limits.{max_zoom, max_entries}
use Rattle.errors.specs.Answer.{◌when◌, ◌else◌}
use Rattle.ids.specs.Entry.{entry_tile, is_entry}
use Rattle.ids.proofs.EntryLemmas.{accepted_entry}
use Rattle.quadtree.specs.Lists.{sort_key, sort_tile, entry_key, key_tile_lem, TileNumbers}
use Rattle.quadtree.specs.Numbers.{OfMap}
use Rattle.quadtree.specs.Locations.{valid_tile}
use Rattle.sort.specs.EachOnce.{in_once, once_in}
use Rattle.sort.specs.Sort.{sort_n, once_of}
use Rattle.sort.specs.Sorted.{in_sort, sort_in}
use Rattle.quadtree.specs.declared.Key.{Key}
use Rattle.tile.specs.Order.{tile_ext}
use Rattle.tile.specs.declared.Tile.{Tile}
use Rattle.tile_set.specs.Merged.{Within, bool_ext}
use Rattle.tile_list.specs.List.{same, named, listed, list_refusal}

pub same_tile_lem : (s t : Tile) → same s t ≡ true → s ≡ t
same_tile_lem s t e =
    let p = and_parts _ (eqb s.z t.z) e in
    let q = and_parts (eqb s.x t.x) (eqb s.y t.y) p.0 in
    tile_ext s t (eqb-true _ _ q.0) (eqb-true _ _ q.1) (eqb-true _ _ p.1)

pub tile_same : (s t : Tile) → s ≡ t → same s t ≡ true
tile_same s t e = rw e (rw (eq-eqb t.x t.x refl, eq-eqb t.y t.y refl, eq-eqb t.z t.z refl))

-- a tile is named where some number of the list is its
pub named_by : (tile : ℕ → Tile) (list : List ℕ) (t : Tile) → named tile list t ≡ true → (n : ℕ) × Memᴰ n list × (tile n ≡ t)
unfolding named
named_by tile list t e = let s = any_in (λ n. same (tile n) t) list e in (s.0, s.1, same_tile_lem (tile s.0) t s.2)

pub names : (tile : ℕ → Tile) (list : List ℕ) (n : ℕ) (t : Tile) → Memᴰ n list → tile n ≡ t → named tile list t ≡ true
unfolding named
names tile list n t m e = in_any (λ n. same (tile n) t) list m (tile_same (tile n) t e)

-- the numbers of tiles of the map name tiles of the map
pub named_within : (by : Key) (l : List ℕ) → TileNumbers (sort_key by) l → Within max_zoom (named (sort_tile by) l)
named_within by l h t e =
    let s = named_by (sort_tile by) l t e in
    let u = h s.0 s.1 in
    let f : t ≡ u.tile = sym s.2 ∙ (ap (sort_tile by) (sym u.number) ∙ key_tile_lem by u.tile u.on_map) in
    rw f (valid_tile u.tile u.on_map)

-- a list that is not refused is one of entries
pub accepted_entries : (list : List ℕ) → list_refusal list ≡ 0 → all_of is_entry list ≡ true
unfolding list_refusal
accepted_entries list e = pick (ltb max_entries (length list)) (all_of is_entry list) e
  where
    pick : (many all : Bool) → 6 when many else 7 when not all ≡ 0 → all ≡ true
    pick true all e = absurd (omega arith)
    pick false true e = refl
    pick false false e = absurd (omega arith)

-- the entries of a list that is not refused name tiles of the map
pub entry_map : (list : List ℕ) → all_of is_entry list ≡ true → (n : ℕ) → Memᴰ n list → OfMap (entry_tile n)
entry_map list e n m = accepted_entry n (eqb-true _ _ (all_in is_entry list e m))

pub listed_within : (list : List ℕ) → all_of is_entry list ≡ true → Within max_zoom (listed list)
listed_within list e t h = let s = named_by entry_tile list t h in
    rw (← s.2) (valid_tile (entry_tile s.0) (entry_map list e s.0 s.1))

-- lists that name the same tiles are one set
pub same_named : (f g : ℕ → Tile) (a b : List ℕ) → ((n : ℕ) → Memᴰ n a → (k : ℕ) × Memᴰ k b × (g k ≡ f n))
    → ((n : ℕ) → Memᴰ n b → (k : ℕ) × Memᴰ k a × (f k ≡ g n)) → named f a ≡ named g b
same_named f g a b there back = λ i t. equal t i
  where
    equal : (t : Tile) → named f a t ≡ named g b t
    equal t =
        bool_ext (named f a t) (named g b t)
        (λ e. let s = named_by f a t e in let u = there s.0 s.1 in names g b u.0 t u.1 (u.2 ∙ s.2))
        (λ e. let s = named_by g b t e in let u = back s.0 s.1 in names f a u.0 t u.1 (u.2 ∙ s.2))

-- in order, or without repeats, they name the same tiles
pub sort_named : (f : ℕ → Tile) (l : List ℕ) → named f (sort_n l) ≡ named f l
sort_named f l = same_named f f (sort_n l) l (λ n m. (n, sort_in l m, refl)) (λ n m. (n, in_sort l m, refl))

pub once_named : (f : ℕ → Tile) (l : List ℕ) → named f (once_of l) ≡ named f l
once_named f l = same_named f f (once_of l) l (λ n m. (n, once_in l m, refl)) (λ n m. (n, in_once l m, refl))

pub sort_numbers : (f : Tile → ℕ) (l : List ℕ) → TileNumbers f l → TileNumbers f (sort_n l)
sort_numbers f l h n m = h n (sort_in l m)

pub once_numbers : (f : Tile → ℕ) (l : List ℕ) → TileNumbers f l → TileNumbers f (once_of l)
once_numbers f l h n m = h n (once_in l m)

-- the keys of a list that is not refused name the tiles that the list names
pub keys_named : (by : Key) (list : List ℕ) → all_of is_entry list ≡ true → named (sort_tile by) (map (entry_key by) list) ≡ listed list
keys_named by list e =
    same_named (sort_tile by) entry_tile (map (entry_key by) list) list
    (λ k m. let s = in_map (entry_key by) list m in
    (s.0, s.1, sym (ap (sort_tile by) s.2 ∙ key_tile_lem by (entry_tile s.0) (entry_map list e s.0 s.1))))
    (λ n m. (entry_key by n, into_map (entry_key by) list m, key_tile_lem by (entry_tile n) (entry_map list e n m)))
