-- What the calls on tile lists promise, in document 01's words. The lists are any that are not refused by 7; nothing else is assumed.
use Rattle.std.proofs.Math.Path.{◌≡◌}
use Rattle.std.specs.Prelude.{refl, Bool, ◌↔◌, ℕ, ◌-◌, ◌≤◌, length, take, drop, replicate}
use Rattle.std.proofs.Common.{sym, ap, ◌∙◌, subst, length-append, eq-eqb}
use Rattle.std.proofs.Math.Bool.{true, false}
use mathlib.Core.List.{List, ◌++◌, append_assoc, Memᴰ}
use native.Mathlib.Omega.{arith}
use Rattle.std.proofs.lemmas.List.{length-replicate, take-append-le}
use Rattle.bits.specs.Tests.{all_of, in_all, any_of, in_any, any_in, in_map, into_map}
use Rattle.constants.specs.Limits.{max_zoom}
use Rattle.ids.specs.Entry.{entry_of, entry_tile, entries_of, is_entry}
use Rattle.ids.proofs.EntryLemmas.{entry_accepted, entry_tile_again}
use Rattle.tile.specs.OnMap.{OnMap}
use Rattle.tile.specs.declared.Tile.{Tile}
use Rattle.tile_list.specs.Laws.{named_by, names, listed_within, same_named}
use Rattle.quadtree.specs.Locations.{map_tile}
use Rattle.tile_list.specs.List.{listed, entries_in_order, filled}
use Rattle.tile_set.specs.Holds.{Holds}
use Rattle.tile_set.specs.InOrder.{Ordered, in_order_of, in_order_in, in_order_ordered}
use Rattle.tile_set.specs.Merged.{Within, is_false, bool_ext, joins_in, merged_within, passes_within}
use Rattle.tile_set.specs.Set.{tiles_in_order, joins, whole, merged, uncovered, simplified, simplified_v1}
use Rattle.tile_set.specs.Simplified.{simplified_within}
use Rattle.tile_set.specs.Theorems.{Covered, merge_keeps_ground, simplify_keeps_ground, simplify_still, simplify_v1_keeps_ground}
use Rattle.tile_set.specs.Theorems.{simplify_v1_still, merge_changes_lem, merge_takes, settled_at_0}
use Rattle.tile_set.specs.Uncovered.{uncovered_within}
use Rattle.work.specs.Work.{merge_changes}

-- "Answers are in the order of `Tile`'s `cmp`: z, x, y": the tiles of an answer, each once, in order; just those of the set
pub an_answer_is_in_order : (S : Tile → Bool) → (entries_in_order S ≡ entries_of (tiles_in_order max_zoom S)) × Ordered (tiles_in_order max_zoom S)
an_answer_is_in_order S = (refl, in_order_ordered max_zoom S)

pub an_answer_names_its_set : (S : Tile → Bool) → Within max_zoom S → listed (entries_in_order S) ≡ S
an_answer_names_its_set S w = λ i t. equal t i
  where
    back : (t : Tile) → Memᴰ t (tiles_in_order max_zoom S) → entry_tile (entry_of t.x t.y t.z) ≡ t
    back t m = entry_tile_again t.x t.y t.z (map_tile t (in_order_of max_zoom S m).0)

    out : (t : Tile) → listed (entries_in_order S) t ≡ true → S t ≡ true
    out t e =
        let s = named_by entry_tile (entries_in_order S) t e in
        let u = in_map (λ (t : Tile). entry_of t.x t.y t.z) (tiles_in_order max_zoom S) s.1 in
        let f : u.0 ≡ t = sym (back u.0 u.1) ∙ (ap entry_tile (sym u.2) ∙ s.2) in
        rw (← f) (in_order_of max_zoom S u.1).1

    into : (t : Tile) → S t ≡ true → listed (entries_in_order S) t ≡ true
    into t e =
        let m = in_order_in max_zoom S (w t e) e in
        names entry_tile (entries_in_order S) (entry_of t.x t.y t.z) t
        (into_map (λ (t : Tile). entry_of t.x t.y t.z) (tiles_in_order max_zoom S) m) (back t m)

    equal : (t : Tile) → listed (entries_in_order S) t ≡ S t
    equal t = bool_ext (listed (entries_in_order S) t) (S t) (out t) (into t)

pub an_answer_is_a_list_of_entries : (S : Tile → Bool) → all_of is_entry (entries_in_order S) ≡ true
an_answer_is_a_list_of_entries S = in_all is_entry (entries_in_order S) each
  where
    each : (n : ℕ) → Memᴰ n (entries_in_order S) → is_entry n ≡ true
    each n m =
        let u = in_map (λ (t : Tile). entry_of t.x t.y t.z) (tiles_in_order max_zoom S) m in
        let t = u.0 in
        let o = map_tile t (in_order_of max_zoom S u.1).0 in
        let e : entry_tile n ≡ t = ap entry_tile u.2 ∙ entry_tile_again t.x t.y t.z o in
        eq-eqb _ _ (entry_accepted n (subst (λ (t : Tile). OnMap t.x t.y t.z) (sym e) o))

-- "any order, repeats read as one": lists with the same entries have the same answers
pub order_and_repeats_do_not_matter : (a b : List ℕ) → ((n : ℕ) → Memᴰ n a ↔ Memᴰ n b) → listed a ≡ listed b
order_and_repeats_do_not_matter a b same =
    same_named entry_tile entry_tile a b (λ n m. (n, (same n).0 m, refl)) (λ n m. (n, (same n).1 m, refl))

module _ (list : List ℕ) (accepted : all_of is_entry list ≡ true) (m : ℕ) where
  abbrev S : Tile → Bool
  S = listed list

  within : Within max_zoom S
  within = listed_within list accepted

  -- "`changed` says whether any did": exactly where the set is another one afterwards
  pub changed_exactly_when_the_set_changed : (merge_changes m list ≡ false) ↔ ((t : Tile) → merged m S t ≡ S t)
  unfolding merge_changes
  changed_exactly_when_the_set_changed = (λ e. (merge_changes_lem m S within).0 (none e), λ f. is_false _ (some f))
    where
      none : any_of (λ n. joins m S (entry_tile n)) list ≡ false → (t : Tile) → joins m S t ≡ false
      none e t = is_false (joins m S t) (λ j. clash t j)
        where
          clash : (t : Tile) → joins m S t ≡ true → ⊥
          clash t j =
              let s = named_by entry_tile list t (joins_in m S t j) in
              let k = in_any (λ n. joins m S (entry_tile n)) list s.1 (ap (joins m S) s.2 ∙ j) in
              let z : ◌≡◌ {A = ℕ} 0 1 = cc in
              omega arith

      some : ((t : Tile) → merged m S t ≡ S t) → any_of (λ n. joins m S (entry_tile n)) list ≡ true → ⊥
      some f e =
          let s = any_in (λ n. joins m S (entry_tile n)) list e in
          let u = merge_takes m S within (entry_tile s.0) s.2 in
          let g = f u.0 in
          let h = u.1 in
          let i = u.2 in
          let z : ◌≡◌ {A = ℕ} 0 1 = cc in
          omega arith

  merged_names : listed (entries_in_order (merged m S)) ≡ merged m S
  merged_names = an_answer_names_its_set (merged m S) (merged_within m S within)

  pub merge_keeps_the_ground : (X Y : ℕ) → Covered max_zoom S X Y ↔ Covered max_zoom (listed (entries_in_order (merged m S))) X Y
  merge_keeps_the_ground X Y = rw merged_names (merge_keeps_ground m S within X Y)

-- a set in which `merge` changes nothing: its list comes back, and `changed` is false
module _ (m : ℕ) (R : Tile → Bool) (w : Within max_zoom R) (still : (t : Tile) → merged m R t ≡ R t) where
  merged_again : entries_in_order (merged m (listed (entries_in_order R))) ≡ entries_in_order R
  merged_again = ap entries_in_order (ap (merged m) (an_answer_names_its_set R w) ∙ λ i t. still t i)

  unchanged : merge_changes m (entries_in_order R) ≡ false
  unchanged =
      (changed_exactly_when_the_set_changed (entries_in_order R) (an_answer_is_a_list_of_entries R) m).1
      (λ t. rw (an_answer_names_its_set R w) (still t))

module _ (list : List ℕ) (accepted : all_of is_entry list ≡ true) (m : ℕ) where
  abbrev its : Tile → Bool
  its = listed list

  its_within : Within max_zoom its
  its_within = listed_within list accepted

  -- the answers of both settlings
  abbrev pub simplified_list : List ℕ
  simplified_list = entries_in_order (simplified max_zoom m its)

  abbrev pub simplified_v1_list : List ℕ
  simplified_v1_list = entries_in_order (simplified_v1 max_zoom m its)

  its_simplified_within : Within max_zoom (simplified max_zoom m its)
  its_simplified_within = simplified_within m its its_within

  simplified_v1_within : Within max_zoom (simplified_v1 max_zoom m its)
  unfolding simplified_v1
  simplified_v1_within = passes_within max_zoom m (uncovered m its) (uncovered_within m its its_within)

  -- "`merge` until nothing changes": both are fixed points of `merge`
  pub simplify_is_a_fixed_point : (entries_in_order (merged m (listed simplified_list)) ≡ simplified_list)
      × (merge_changes m simplified_list ≡ false)
  simplify_is_a_fixed_point =
      let still = simplify_still m its its_within in (
        merged_again m (simplified max_zoom m its) its_simplified_within still,
        unchanged m (simplified max_zoom m its) its_simplified_within still,
      )

  pub simplify_v1_is_a_fixed_point : (entries_in_order (merged m (listed simplified_v1_list)) ≡ simplified_v1_list)
      × (merge_changes m simplified_v1_list ≡ false)
  simplify_v1_is_a_fixed_point =
      let still = simplify_v1_still m its its_within in (
        merged_again m (simplified_v1 max_zoom m its) simplified_v1_within still,
        unchanged m (simplified_v1 max_zoom m its) simplified_v1_within still,
      )

  -- "Ground": the deepest tiles inside are the same
  pub simplify_keeps_the_ground : (X Y : ℕ) → Covered max_zoom its X Y ↔ Covered max_zoom (listed simplified_list) X Y
  simplify_keeps_the_ground X Y =
      rw (an_answer_names_its_set (simplified max_zoom m its) its_simplified_within) (simplify_keeps_ground m its its_within X Y)

  pub simplify_v1_keeps_the_ground : (X Y : ℕ) → Covered max_zoom its X Y ↔ Covered max_zoom (listed simplified_v1_list) X Y
  simplify_v1_keeps_the_ground X Y =
      rw (an_answer_names_its_set (simplified_v1 max_zoom m its) simplified_v1_within) (simplify_v1_keeps_ground m its its_within X Y)

-- "Settled means: strictly in order, no tile beside its own ancestor, no four siblings together; `simplify` at m = 0 gives it"
pub simplify_at_0_is_settled : (list : List ℕ) → all_of is_entry list ≡ true → Ordered (tiles_in_order max_zoom (simplified max_zoom 0 (listed list)))
    × ((a b : Tile) → simplified max_zoom 0 (listed list) a ≡ true → simplified max_zoom 0 (listed list) b ≡ true → Holds a b → a ≡ b)
    × ((p : Tile) → whole (simplified max_zoom 0 (listed list)) p ≡ false)
simplify_at_0_is_settled list accepted =
    let s = settled_at_0 (listed list) (listed_within list accepted) in
    (in_order_ordered max_zoom (simplified max_zoom 0 (listed list)), s.0, s.1)

-- "however the lent buffers were filled before": what an accepted call leaves in the places that it asked for is the same for every memory
pub the_memory_before_does_not_matter : (places : ℕ) (items a b : List ℕ)
    → take places (filled places items a) ≡ take places (filled places items b)
the_memory_before_does_not_matter places items a b = front a ∙ sym (front b)
  where
    zeros : List ℕ
    zeros = replicate (places - length items) 0

    long : places ≤ length (items ++ zeros)
    long = rw (length-append items zeros, length-replicate {A = ℕ} (places - length items) 0) (omega arith)

    front : (memory : List ℕ) → take places (filled places items memory) ≡ take places (items ++ zeros)
    front memory = ap (take places) (sym (append_assoc items zeros (drop places memory)))
        ∙ take-append-le places (items ++ zeros) (drop places memory) long
