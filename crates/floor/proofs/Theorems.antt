-- The proof of `Floor`: `above_the_floor` of `simplify`, and `simplify_v1_is_left_out`.
use Rattle.std.specs.Prelude.{◌≡◌, refl, ◌↔◌, ◌⊎◌, ℕ, ◌≤◌, length}
use Rattle.std.proofs.Common.{sym, ap, ◌∙◌, inl, inr, arith, le-ltb}
use mathlib.Core.List.Memᴰ
use mathlib.Core.List.{List, [], ◌∷◌, Memᴰ}
use Rattle.std.proofs.lemmas.List.{length-map}
use Rattle.area.specs.Area.{tiles_of, ground_of, settled_entries}
use Rattle.area.proofs.Grounds.{listed_covers}
use Rattle.bits.specs.Tests.{in_map, into_map}
use Rattle.builds.specs.Refusals.{NoTiles}
use Rattle.constants.specs.Limits.{max_zoom, at_least_29}
use Rattle.errors.specs.Gives.{Gives}
use Rattle.errors.proofs.GivesLemmas.{accepted_items}
use Rattle.floor.proofs.Answer.{accepted_exactly, all_entries, answer_is, count_is, answer_covers, answer_settled, at_0}
use Rattle.floor.proofs.Cuts.{cut_ordered, cut_length}
use Rattle.floor.proofs.Entries.{entry_of_lem}
use Rattle.floor.specs.Floor.{settled_at, AtFloor, cut_down_of, in_list_order, AboveTheFloor, LeftOut}
use Rattle.ground.proofs.FloorLemmas.{list_covers, settled_list_settled_from, settled_list_same_from, settled_list_least_from}
use Rattle.ground.specs.Ground.{ground, Same, settled_list_from}
use Rattle.ids.specs.Entry.{entry_of, entry_tile, entries_of}
use Rattle.merge.specs.Gives.{simplify_gives}
use Rattle.merge.specs.Merge.{simplify_of, simplify_v1_of}
use Rattle.plate_table.specs.Kept.{tile, first_child, both, one}
use Rattle.plate_table.proofs.KeptLemmas.{both_here, both_accepted, v1_keeps_both, simplify_keeps_one}
use Rattle.tile.specs.declared.Tile.{Tile}
use Rattle.tile_list.specs.Gives.{listed_gives}
use Rattle.tile_list.specs.Laws.{names}
use Rattle.tile_list.specs.List.{listed, entries_in_order, places_refusal}
use Rattle.tile_set.specs.Holds.{child_held, Valid}
use Rattle.tile_set.specs.Set.{simplified_v1}

module _ (m : ℕ) (list memory : List ℕ) (a : AtFloor m list memory) where
  same_ground : (other lent : List ℕ) → AtFloor m other lent
      → (settled_at m list memory ≡ settled_at m other lent) ↔ Same max_zoom (ground_of list) (ground_of other)
  same_ground other lent b = (
    λ e X Y p q. sym (answer_covers m list memory a X Y p q)
        ∙ (ap (λ (l : List ℕ). ground_of l X Y) e ∙ answer_covers m other lent b X Y p q),
    λ e. answer_is m list memory a
        ∙ (ap entries_of (settled_list_same_from m max_zoom a.limit (ground_of list) (ground_of other) e) ∙ sym (answer_is m other lent b)),
  )

  least : (tiles : List Tile) → ((t : Tile) → Memᴰ t tiles → Valid max_zoom t) → ((t : Tile) → Memᴰ t tiles → m ≤ t.z)
      → Same max_zoom (ground max_zoom tiles) (ground_of list) → (simplify_of list m memory).value ≤ length tiles
  least tiles v f e = rw (count_is m list memory a) (settled_list_least_from m max_zoom (list_covers tiles v e) f tiles (λ t i. i))

  counted : (simplify_of list m memory).value ≡ length (settled_at m list memory)
  counted = (simplify_gives m list memory).count

  -- the list that is handed in is a cover itself
  no_longer_than_the_list : length (settled_at m list memory) ≤ length list
  no_longer_than_the_list = omega (arith, least (tiles_of list) valid above (λ X Y p q. refl), counted, length-map list entry_tile)
    where
      valid : (t : Tile) → Memᴰ t (tiles_of list) → Valid max_zoom t
      valid t i =
          let s = in_map entry_tile list i in
          (listed_covers list (all_entries m list memory a)).of_map t (names entry_tile list s.0 t s.1 (sym s.2))

      above : (t : Tile) → Memᴰ t (tiles_of list) → m ≤ t.z
      above t i = let s = in_map entry_tile list i in rw s.2 (a.floor s.0 s.1)

  -- the answer is a list of the kind itself
  again : (lent : List ℕ) → length (settled_at m list memory) ≤ length lent → AtFloor m (settled_at m list memory) lent
  again lent room = record {
    limit = a.limit;
    floor = λ n i. (answer_settled m list memory a).floor (entry_tile n) (into_map entry_tile (settled_at m list memory) i);
    accepted = (accepted_exactly m (settled_at m list memory) lent).1
        (λ long. ((accepted_exactly m list memory).0 a.accepted).0 (omega (arith, long, no_longer_than_the_list)), named, room);
  }
    where
      named : NoTiles (settled_at m list memory) → ⊥
      named (n, i, none) =
          let tiles = settled_list_from m max_zoom (ground_of list) in
          let s = in_map (λ (t : Tile). entry_of t.x t.y t.z) tiles (rw (answer_is m list memory a) at i) in
          none s.0 ((settled_list_settled_from m max_zoom (ground_of list)).of_map s.0 s.1) (sym s.2)

  settled_at_0 : settled_at 0 list memory ≡ settled_entries (ground_of list)
  settled_at_0 = answer_is 0 list memory (at_0 m list memory a)

pub above_the_floor : (m : ℕ) (list memory : List ℕ) → AtFloor m list memory → AboveTheFloor m list memory
above_the_floor m list memory a = record {
  same_ground = same_ground m list memory a;
  least = least m list memory a;
  covers = answer_covers m list memory a;
  counted = counted m list memory a;
  settled = answer_settled m list memory a;
  also_at_0 = at_0 m list memory a;
  cut_down = answer_is m list memory a
      ∙ (cut_ordered m a.limit (ground_of list) ∙ ap (λ (l : List ℕ). in_list_order (cut_down_of m l)) (sym (settled_at_0 m list memory a)));
  none_twice = ap (λ (l : List ℕ). length (cut_down_of m l)) (settled_at_0 m list memory a)
      ∙ (cut_length m a.limit (ground_of list) ∙ sym (count_is m list memory a));
  once_more = λ lent room.
      let b = again m list memory a lent room in
      (b, (same_ground m (settled_at m list memory) lent b list memory a).1 (answer_covers m list memory a));
}

-- two places are enough for the plate
both_fit : (memory : List ℕ) → 2 ≤ length memory → places_refusal (entries_of both) memory ≡ 0
unfolding places_refusal
both_fit memory room = rw (both_accepted, le-ltb (length memory) 2 room)

pub simplify_v1_is_left_out : (memory : List ℕ) → 2 ≤ length memory → LeftOut memory
simplify_v1_is_left_out memory room = record {
  ancestor = child_held tile 0 0 (omega arith) (omega arith);
  of_the_kind = kind;
  keeps_both = accepted_items (simplify_v1_of (entries_of both) 1 memory) _ _ v1_gives (v1_gives.number ∙ fine) ∙ v1_keeps_both;
  shorter = shorter;
  same_ground = λ X Y p q. ap (λ (l : List ℕ). ground_of l X Y) (sym shorter) ∙ answer_covers 1 (entries_of both) memory kind X Y p q;
}
  where
    fine : places_refusal (entries_of both) memory ≡ 0
    fine = both_fit memory room

    v1_items : List ℕ
    v1_items = entries_in_order (simplified_v1 max_zoom 1 (listed (entries_of both)))

    v1_gives : Gives (simplify_v1_of (entries_of both) 1 memory) (places_refusal (entries_of both) memory) v1_items
    v1_gives = listed_gives (places_refusal (entries_of both) memory) (entries_of both) v1_items memory

    above : (n : ℕ) → Memᴰ n (entries_of both) → 1 ≤ (entry_tile n).z
    above n i = pick (Memᴰ.cases_cons (entry_of_lem both both_here.of_map n i))
      where
        pick : (entry_tile n ≡ tile) ⊎ Memᴰ (entry_tile n) (first_child ∷ []) → 1 ≤ (entry_tile n).z
        pick (inl e) = rw e (omega arith)
        pick (inr j) = let e : entry_tile n ≡ first_child = Memᴰ.eq_of_singleton j in rw e (omega arith)

    kind : AtFloor 1 (entries_of both) memory
    kind = record { limit = omega (arith, at_least_29); floor = above; accepted = (simplify_gives 1 (entries_of both) memory).number ∙ fine }

    shorter : settled_at 1 (entries_of both) memory ≡ entries_of one
    shorter =
        accepted_items (simplify_of (entries_of both) 1 memory) _ _ (simplify_gives 1 (entries_of both) memory) kind.accepted
        ∙ simplify_keeps_one
