-- Lists of entries and their ground: what the settled list of a ground names, and which sets of tiles are its tiles.
use Rattle.std.specs.Prelude.{◌≡◌, refl, Bool, true, false, ℕ, ◌^◌, ◌<◌}
use Rattle.std.proofs.Common.{sym, ap, ◌∙◌, arith}
use mathlib.Core.List.Memᴰ
use mathlib.Core.List.{List, [], ◌∷◌, Memᴰ}
use Rattle.bits.specs.Tests.{all_of, in_map, into_map}
use Rattle.constants.specs.Limits.{max_zoom}
use Rattle.area.specs.Area.{tiles_of, ground_of, settled_entries}
use Rattle.ground.proofs.Cells.{ground_in, ground_of_lem}
use Rattle.ground.proofs.FloorLemmas.{largest_list_from, simplified_list_from}
use Rattle.ground.specs.Ground.{ground, Same, Settled, settled_list}
use Rattle.ground.specs.Largest.{Full, Cover}
use Rattle.ground.proofs.Theorems.{settled_list_settled, settled_list_ground, one_settled_list, settled_list_same}
use Rattle.ids.specs.Entry.{entry_tile, entries_of, is_entry}
use Rattle.ids.proofs.EntryLemmas.{entry_again, entry_tile_again}
use Rattle.tile.specs.OnMap.{tile_at}
use Rattle.tile.specs.declared.Tile.{Tile}
use Rattle.tile_list.specs.Laws.{named_by, names, listed_within}
use Rattle.quadtree.specs.Locations.{map_tile}
use Rattle.tile_list.specs.List.{listed, entries_in_order}
use Rattle.tile_set.specs.Holds.{Holds, Valid}
use Rattle.tile_set.specs.Merged.{is_false}
use Rattle.tile_set.specs.Set.{parent_tile, simplified}

-- the tiles of entries that were made of tiles of the map are those tiles
pub tiles_again : (ts : List Tile) → ((t : Tile) → Memᴰ t ts → Valid max_zoom t) → tiles_of (entries_of ts) ≡ ts
tiles_again [] v = refl
tiles_again (t ∷ ts) v =
    rw (entry_tile_again t.x t.y t.z (map_tile t (v t (Memᴰ.head refl))), tiles_again ts (λ u m. v u (Memᴰ.tail m)))

pub settled_tiles : (G : ℕ → ℕ → Bool) → tiles_of (settled_entries G) ≡ settled_list max_zoom G
settled_tiles G = tiles_again (settled_list max_zoom G) (settled_list_settled max_zoom G).of_map

pub settled_ground : (G : ℕ → ℕ → Bool) → Same max_zoom (ground_of (settled_entries G)) G
settled_ground G X Y a b = ap (λ (l : List Tile). ground max_zoom l X Y) (settled_tiles G) ∙ settled_list_ground max_zoom G X Y a b

pub settled_same : (G H : ℕ → ℕ → Bool) → Same max_zoom G H → settled_entries G ≡ settled_entries H
settled_same G H e = ap entries_of (settled_list_same max_zoom G H e)

-- a settled list of tiles is that of its ground, and so is a list of entries
pub one_settled : (G : ℕ → ℕ → Bool) (list : List ℕ) → Settled max_zoom (tiles_of list) → Same max_zoom (ground_of list) G
    → list ≡ settled_entries G
one_settled G list s e = sym (entries list) ∙ ap entries_of (one_settled_list max_zoom G (tiles_of list) s e)
  where
    entries : (list : List ℕ) → entries_of (tiles_of list) ≡ list
    entries [] = refl
    entries (n ∷ list) = rw (entry_again n, entries list)

-- no ground, no entries
pub settled_none : settled_entries (λ X Y. false) ≡ []
settled_none = sym (one_settled (λ X Y. false) []
    (record {
      of_map = λ t m. absurd (Memᴰ.not-nil m);
      in_order = tt;
      apart = λ s t m. absurd (Memᴰ.not-nil m);
      no_four =
          λ p m. absurd (Memᴰ.not-nil m);
    }) empty)
  where
    empty : Same max_zoom (ground_of []) (λ X Y. false)
    empty X Y a b = is_false (ground_of [] X Y) (λ e. Memᴰ.not-nil (ground_of_lem [] X Y (λ t m. absurd (Memᴰ.not-nil m)) e).1)

-- the tiles that a list names cover its ground
pub listed_covers : (list : List ℕ) → all_of is_entry list ≡ true → Cover max_zoom (ground_of list) (λ t. listed list t ≡ true)
listed_covers list e = record { of_map = listed_within list e; covers = covers; covered = covered }
  where
    of_map : (t : Tile) → Memᴰ t (tiles_of list) → Valid max_zoom t
    of_map t m = let s = in_map entry_tile list m in listed_within list e t (names entry_tile list s.0 t s.1 (sym s.2))

    covers : (X Y : ℕ) → X < 2 ^ max_zoom → Y < 2 ^ max_zoom → ground_of list X Y ≡ true
        → (r : Tile) × (listed list r ≡ true) × Holds r (tile_at X Y max_zoom)
    covers X Y a b g =
        let r = ground_of_lem (tiles_of list) X Y of_map g in
        let s = in_map entry_tile list r.1 in
        (r.0, names entry_tile list s.0 r.0 s.1 (sym s.2), r.2)

    covered : (X Y : ℕ) (t : Tile) → listed list t ≡ true → Holds t (tile_at X Y max_zoom) → ground_of list X Y ≡ true
    covered X Y t k h =
        let s = named_by entry_tile list t k in
        ground_in (tiles_of list) X Y t (Memᴰ.cast (sym s.2) (into_map entry_tile list s.1)) h

-- a set of tiles that covers G, no parent of which is full, is G's settled list
pub largest_entries : (G : ℕ → ℕ → Bool) (S : Tile → Bool) (C : Cover max_zoom G (λ t. S t ≡ true))
    → ((t : Tile) → S t ≡ true → 0 < t.z → Full max_zoom G (parent_tile t) → ⊥) → entries_in_order S ≡ settled_entries G
largest_entries G S C tops = ap entries_of (largest_list_from 0 max_zoom S C (λ t e. omega arith) tops)

-- `simplify` at m = 0 gives the settled list of what the set covers
pub simplified_entries : (G : ℕ → ℕ → Bool) (S : Tile → Bool) → Cover max_zoom G (λ t. S t ≡ true)
    → entries_in_order (simplified max_zoom 0 S) ≡ settled_entries G
simplified_entries G S C = ap entries_of (simplified_list_from 0 max_zoom S C (λ t e. omega arith))

-- what a call of `simplify` gives a list that is not refused
pub simplify_entries : (list : List ℕ) → all_of is_entry list ≡ true
    → entries_in_order (simplified max_zoom 0 (listed list)) ≡ settled_entries (ground_of list)
simplify_entries list e = simplified_entries (ground_of list) (listed list) (listed_covers list e)
