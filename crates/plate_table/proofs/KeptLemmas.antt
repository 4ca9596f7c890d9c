-- The list plates: what the calls on tile lists keep of a tile and its first child, and of no tile. Such lists are settled over all zooms
-- of the map, which is too much to compute: they follow from the laws of sets.
use Rattle.std.specs.Prelude.{◌≡◌, refl, ◌⊎◌, Bool, false, ℕ, ◌-◌, ◌≤◌, ◌<◌, ltb, length}
use Rattle.std.proofs.Common.{sym, ap, ◌∙◌, inl, inr, arith}
use Rattle.std.proofs.Math.Path.{fun_ext}
use Rattle.std.proofs.Math.Bool.{true}
use mathlib.Core.List.Memᴰ
use mathlib.Core.List.{List, [], ◌∷◌, Memᴰ}
use borrow.Author.Tests.{eq-eqb}
use Rattle.bits.specs.Tests.{in_map, into_map, in_all}
use Rattle.constants.specs.Limits.{max_zoom, max_entries}
use Rattle.ids.specs.Entry.{entry_of, entry_tile, entry_refusal, entries_of, is_entry}
use Rattle.ids.proofs.EntryLemmas.{entry_accepted, entry_tile_again}
use Rattle.plate_table.specs.Rows.{keeps}
use Rattle.tile.specs.Order.{Before, by_z}
use Rattle.tile.specs.declared.Tile.{Tile}
use Rattle.tile_list.specs.Laws.{named_by, names}
use Rattle.quadtree.specs.Locations.{map_tile}
use Rattle.tile_list.specs.List.{listed, entries_in_order, list_refusal, places_refusal, list_answer}
use Rattle.tile_set.specs.Holds.{Holds, Valid, holds_refl, child_held}
use Rattle.tile_set.specs.InOrder.{Ordered, in_order_is}
use Rattle.tile_set.specs.Merged.{Within, is_false, bool_ext, whole_all, joins_when}
use Rattle.tile_set.specs.RustSimplifyV1.{passes_same}
use Rattle.tile_set.specs.Set.{ancestor, parent_tile, child, whole, joins, uncovered, passes, simplified, simplified_v1}
use Rattle.tile_set.specs.Simplified.{Built, Simplest, simplified_is}
use Rattle.tile_set.specs.Uncovered.{uncovered_of, uncovered_or}
use Rattle.plate_table.specs.Kept.{both, first_child, one, tile}

-- a call answers so where its list is not refused and its set's tiles are these
pub answers : (sent kept items : List ℕ) → list_refusal sent ≡ 0 → items ≡ kept
    → (λ memory. list_answer (places_refusal sent memory) 0 (length items) sent items memory) ≡ keeps sent kept
unfolding places_refusal
answers sent kept items a e = fun_ext (λ memory. rw (a, e))

-- tiles of the map in order, all in the first column
pub record InFirstColumn (ts : List Tile) : Type 0 where
  pub of_map : (t : Tile) → Memᴰ t ts → Valid max_zoom t
  in_order : Ordered ts
  first : (t : Tile) → Memᴰ t ts → t.x ≡ 0

module _ {ts : List Tile} (here : InFirstColumn ts) where
  again : (t : Tile) → Memᴰ t ts → entry_tile (entry_of t.x t.y t.z) ≡ t
  again t m = entry_tile_again t.x t.y t.z (map_tile t (here.of_map t m))

  -- their entries are not refused
  fine : (t : Tile) → Memᴰ t ts → entry_refusal (entry_of t.x t.y t.z) ≡ 0
  fine t m = entry_accepted _ (rw (again t m) (map_tile t (here.of_map t m)))

  not_refused : ltb max_entries (length (entries_of ts)) ≡ false → list_refusal (entries_of ts) ≡ 0
  unfolding list_refusal
  not_refused h = rw (h, in_all is_entry (entries_of ts) entries)
    where
      entries : (n : ℕ) → Memᴰ n (entries_of ts) → is_entry n ≡ true
      entries n m =
          let u = in_map (λ (t : Tile). entry_of t.x t.y t.z) ts m in
          eq-eqb _ _ (ap entry_refusal u.2 ∙ fine u.0 u.1)

  -- they name just these tiles
  listed_in : (t : Tile) → Memᴰ t ts → listed (entries_of ts) t ≡ true
  listed_in t m =
      names entry_tile (entries_of ts) (entry_of t.x t.y t.z) t (into_map (λ (t : Tile). entry_of t.x t.y t.z) ts m)
      (again t m)

  listed_of : (t : Tile) → listed (entries_of ts) t ≡ true → Memᴰ t ts
  listed_of t e =
      let s = named_by entry_tile (entries_of ts) t e in
      let u = in_map (λ (t : Tile). entry_of t.x t.y t.z) ts s.1 in
      Memᴰ.cast (sym s.2 ∙ (ap entry_tile u.2 ∙ again u.0 u.1)) u.1

  listed_on_map : Within max_zoom (listed (entries_of ts))
  listed_on_map t e = here.of_map t (listed_of t e)

  -- and the list of that set is the entries themselves
  listed_again : entries_in_order (listed (entries_of ts)) ≡ entries_of ts
  listed_again =
      ap entries_of (sym (in_order_is max_zoom (listed (entries_of ts)) ts here.in_order (λ t m. (here.of_map t m, listed_in t m))
      (λ t v e. listed_of t e)))

  -- a family has a tile in an odd column
  no_family : (p : Tile) → whole (listed (entries_of ts)) p ≡ true → ⊥
  no_family p e =
      let x = here.first (child p 1 1)
      (listed_of (child p 1 1) ((whole_all (listed (entries_of ts)) p).0 e 1 1 (omega arith) (omega arith))) in
      omega arith

  nothing_joins : (m : ℕ) (t : Tile) → joins m (listed (entries_of ts)) t ≡ false
  nothing_joins m t =
      is_false (joins m (listed (entries_of ts)) t) (λ e. no_family (parent_tile t) ((joins_when m (listed (entries_of ts)) t).0 e).1)

none_here : InFirstColumn []
none_here = record { of_map = λ t m. absurd (Memᴰ.not-nil m); in_order = tt; first = λ t m. absurd (Memᴰ.not-nil m) }

one_more : {ts : List Tile} (t : Tile) → Valid max_zoom t → t.x ≡ 0 → ((u : Tile) → Memᴰ u ts → Before t u) → InFirstColumn ts
    → InFirstColumn (t ∷ ts)
one_more {ts} t v x before here = record {
  of_map = λ u m. valid u (Memᴰ.cases_cons m);
  in_order = (before, here.in_order);
  first = λ u m. column u (Memᴰ.cases_cons m);
}
  where
    valid : (u : Tile) → (u ≡ t) ⊎ Memᴰ u ts → Valid max_zoom u
    valid u (inl e) = rw e v
    valid u (inr m) = here.of_map u m

    column : (u : Tile) → (u ≡ t) ⊎ Memᴰ u ts → u.x ≡ 0
    column u (inl e) = rw e x
    column u (inr m) = here.first u m

-- ---- the first tile of zoom 1, and its first child

one_here : InFirstColumn one
unfolding max_zoom
one_here = one_more tile (record { zoom = omega arith; column = omega arith; row = omega arith }) refl
    (λ u m. absurd (Memᴰ.not-nil m)) none_here

pub both_here : InFirstColumn both
unfolding max_zoom
both_here = one_more tile (one_here.of_map tile (Memᴰ.head refl)) refl (λ u m. after u (Memᴰ.eq_of_singleton m)) child_here
  where
    after : (u : Tile) → u ≡ first_child → Before tile u
    after u e = rw e (by_z (omega arith))

    child_here : InFirstColumn (first_child ∷ [])
    child_here = one_more first_child (record { zoom = omega arith; column = omega arith; row = omega arith }) refl
        (λ u m. absurd (Memᴰ.not-nil m)) none_here

of_both : (t : Tile) → Memᴰ t both → (t ≡ tile) ⊎ (t ≡ first_child)
of_both t m = pick (Memᴰ.cases_cons m)
  where
    pick : (t ≡ tile) ⊎ Memᴰ t (first_child ∷ []) → (t ≡ tile) ⊎ (t ≡ first_child)
    pick (inl e) = inl e
    pick (inr n) = inr (Memᴰ.eq_of_singleton n)

pub both_accepted : list_refusal (entries_of both) ≡ 0
unfolding max_entries
both_accepted = not_refused both_here refl

abbrev sent : Tile → Bool
sent = listed (entries_of both)

-- the zooms of the two
sent_zoom : (t : Tile) → sent t ≡ true → (1 ≤ t.z) × (t.z ≤ 2)
sent_zoom t e = pick (of_both t (listed_of both_here t e))
  where
    pick : (t ≡ tile) ⊎ (t ≡ first_child) → (1 ≤ t.z) × (t.z ≤ 2)
    pick (inl e) = rw e (omega arith, omega arith)
    pick (inr e) = rw e (omega arith, omega arith)

-- "`simplify_v1` keeps both": at m = 1 the only ancestor that counts for the child is the root, which was not sent
all_uncovered : (t : Tile) → uncovered 1 sent t ≡ sent t
all_uncovered t = bool_ext (uncovered 1 sent t) (sent t) (λ e. (uncovered_of 1 sent t e).0) (λ e. pick e (uncovered_or 1 sent t e))
  where
    pick : sent t ≡ true → (uncovered 1 sent t ≡ true) ⊎ ((s : ℕ) × (s < t.z - 1) × (sent (ancestor t s) ≡ true))
        → uncovered 1 sent t ≡ true
    pick e (inl k) = k
    pick e (inr (s, h, k)) = let z = sent_zoom t e in let a = sent_zoom (ancestor t s) k in absurd (omega (arith, z.1, a.0))

pub v1_keeps_both : entries_in_order (simplified_v1 max_zoom 1 (listed (entries_of both))) ≡ entries_of both
unfolding simplified_v1
v1_keeps_both =
    ap entries_in_order (ap (passes max_zoom 1) (fun_ext all_uncovered) ∙ passes_same max_zoom 1 sent (nothing_joins both_here 1))
    ∙ listed_again both_here

-- "`simplify` keeps 0": the tile holds its child
pub simplify_keeps_one : entries_in_order (simplified max_zoom 1 (listed (entries_of both))) ≡ entries_of one
simplify_keeps_one = ap entries_in_order (fun_ext (λ t. sym (simplified_is (listed_on_map both_here) one_left t))) ∙ listed_again one_here
  where
    is_tile_lem : (t : Tile) → listed (entries_of one) t ≡ true → t ≡ tile
    is_tile_lem t e = Memᴰ.eq_of_singleton (listed_of one_here t e)

    tile_left : listed (entries_of one) tile ≡ true
    tile_left = listed_in one_here tile (Memᴰ.head refl)

    held : (t : Tile) → (t ≡ tile) ⊎ (t ≡ first_child) → Holds tile t
    held t (inl e) = rw e (holds_refl tile)
    held t (inr e) = rw e (child_held tile 0 0 (omega arith) (omega arith))

    one_left : Simplest 1 sent (listed (entries_of one))
    one_left = record {
      built = λ t e. Built.listed (ap sent (is_tile_lem t e) ∙ listed_in both_here tile (Memᴰ.head refl));
      covers = λ t e. (tile, tile_left, held t (of_both t (listed_of both_here t e)));
      apart = λ a b e f h. is_tile_lem a e ∙ sym (is_tile_lem b f);
      no_four = λ p h. no_family one_here p;
    }

-- "The empty list settles to itself"
pub none_accepted : list_refusal [] ≡ 0
unfolding max_entries
none_accepted = not_refused none_here refl

pub empty_settles : entries_in_order (simplified max_zoom 0 (listed [])) ≡ []
empty_settles = ap entries_in_order (fun_ext (λ t. sym (simplified_is (listed_on_map none_here) none_left t))) ∙ listed_again none_here
  where
    none_left : Simplest 0 (listed []) (listed [])
    none_left = record {
      built = λ t e. Built.listed e;
      covers = λ t e. (t, e, holds_refl t);
      apart = λ a b e. absurd (Memᴰ.not-nil (listed_of none_here a e));
      no_four = λ p h. no_family none_here p;
    }
