-- What the test of a settled list says: it is true of a list of entries exactly where its tiles are settled.
use Rattle.std.specs.Prelude.{◌≡◌, refl, ◌↔◌, Bool, true, false, ◌&&◌, ℕ, ◌<◌}
use Rattle.std.proofs.Common.{sym, ◌∙◌, true≢false, arith, eq-eqb}
use mathlib.Core.List.Memᴰ
use mathlib.Core.List.{List, [], ◌∷◌, Memᴰ}
use Rattle.area.specs.Area.{tiles_of, ground_of, settled_entries}
use Rattle.area.proofs.Grounds.{settled_tiles, listed_covers}
use Rattle.bits.specs.Tests.{and_parts, all_of, all_in, in_all, in_map, into_map}
use Rattle.constants.specs.Limits.{max_zoom}
use Rattle.ground.specs.Ground.{Settled}
use Rattle.ground.specs.Largest.{Full}
use Rattle.ground.proofs.LargestLemmas.{parents_not_full}
use Rattle.ground.proofs.Theorems.{settled_list_settled, ground_is_covered}
use Rattle.ids.specs.Entry.{entry_tile, is_entry}
use Rattle.ids.proofs.EntryLemmas.{entry_accepted}
use Rattle.settled.specs.EntryTests.{none_beside, none_with, apart_beside, beside_apart, four_with, with_four}
use Rattle.settled.specs.Order.{is_before_lem, before_is}
use Rattle.settled.specs.Settled.{is_before, strictly_in_order, is_settled}
use Rattle.tile.specs.Order.{Before}
use Rattle.tile.specs.declared.Tile.{Tile}
use Rattle.tile_list.specs.Laws.{named_by, names, listed_within}
use Rattle.quadtree.specs.Locations.{map_tile}
use Rattle.tile_list.specs.List.{listed}
use Rattle.tile_set.specs.InOrder.{Ordered}
use Rattle.tile_set.specs.Merged.{Apart, is_false, whole_all}
use Rattle.tile_set.specs.Set.{parent_tile, child, whole}
use Rattle.tile_set.specs.Theorems.{Covered}

in_tiles : (list : List ℕ) (t : Tile) → Memᴰ t (tiles_of list) → listed list t ≡ true
in_tiles list t m = let s = in_map entry_tile list m in names entry_tile list s.0 t s.1 (sym s.2)

tiles_in : (list : List ℕ) (t : Tile) → listed list t ≡ true → Memᴰ t (tiles_of list)
tiles_in list t e = let s = named_by entry_tile list t e in Memᴰ.cast (sym s.2) (into_map entry_tile list s.1)

-- the ground of a list that 7 does not refuse is what the theorems on `merge` and `simplify` call covered by the set of its tiles
pub ground_of_listed : (list : List ℕ) → all_of is_entry list ≡ true → (X Y : ℕ)
    → (ground_of list X Y ≡ true) ↔ Covered max_zoom (listed list) X Y
ground_of_listed list e =
    ground_is_covered max_zoom (tiles_of list) (listed list) (λ t. (tiles_in list t, in_tiles list t))
    (λ t m. listed_within list e t (in_tiles list t m))

rises_ordered : (list : List ℕ) → strictly_in_order list ≡ true → Ordered (tiles_of list)
unfolding strictly_in_order
rises_ordered [] e = tt
rises_ordered (a ∷ list) e = (first, rises_ordered list p.1)
  where
    p : (all_of (λ b. is_before (entry_tile a) (entry_tile b)) list ≡ true) × (strictly_in_order list ≡ true)
    p = and_parts (all_of (λ b. is_before (entry_tile a) (entry_tile b)) list) (strictly_in_order list) e

    first : (t : Tile) → Memᴰ t (tiles_of list) → Before (entry_tile a) t
    first t m =
        let s = in_map entry_tile list m in
        rw s.2 (is_before_lem (entry_tile a) (entry_tile s.0) (all_in (λ b. is_before (entry_tile a) (entry_tile b)) list p.0 s.1))

ordered_rises : (list : List ℕ) → Ordered (tiles_of list) → strictly_in_order list ≡ true
unfolding strictly_in_order
ordered_rises [] o = refl
ordered_rises (a ∷ list) o =
    rw (
      in_all (λ b. is_before (entry_tile a) (entry_tile b)) list (λ b m. before_is (o.0 (entry_tile b) (into_map entry_tile list m))),
      ordered_rises list o.1,
    )

-- the three parts of the test
module _ (list : List ℕ) (e : is_settled list ≡ true) where
  parts : (strictly_in_order list ≡ true) × (none_beside list ≡ true) × (none_with list ≡ true)
  unfolding is_settled
  parts =
      let p = and_parts (strictly_in_order list) _ e in
      let q = and_parts (none_beside list) (none_with list) p.1 in
      (p.0, q.0, q.1)

  pub settled_apart : Apart (listed list)
  settled_apart = beside_apart list parts.1

  pub settled_no_four : (p : Tile) → listed list (child p 0 0) ≡ true → listed list (child p 0 1) ≡ true → listed list (child p 1 0) ≡ true
      → listed list (child p 1 1) ≡ true → ⊥
  settled_no_four p a b c d = let q : whole (listed list) p ≡ true = rw (a, b, c, d) in true≢false (sym q ∙ with_four list parts.2 p)

  -- no parent of a tile of the list lies whole in its ground
  pub settled_tops : all_of is_entry list ≡ true → (t : Tile) → listed list t ≡ true → 0 < t.z
      → Full max_zoom (ground_of list) (parent_tile t) → ⊥
  settled_tops f = parents_not_full (listed_covers list f) 0 settled_apart (λ p l. settled_no_four p)

-- "Settled means: strictly in order, no tile beside its own ancestor, no four siblings together"
pub settled_test : (list : List ℕ) → (all_of is_entry list && is_settled list ≡ true) ↔ Settled max_zoom (tiles_of list)
unfolding is_settled
settled_test list = (says, said)
  where
    says : (all_of is_entry list && is_settled list) ≡ true → Settled max_zoom (tiles_of list)
    says e =
        let p = and_parts (all_of is_entry list) (is_settled list) e in
        record {
          of_map = λ t m. listed_within list p.0 t (in_tiles list t m);
          in_order = rises_ordered list (parts list p.1).0;
          apart = λ s t m n. settled_apart list p.1 s t (in_tiles list s m) (in_tiles list t n);
          no_four = λ q a b c d. settled_no_four list p.1 q (in_tiles list _ a) (in_tiles list _ b) (in_tiles list _ c)
              (in_tiles list _ d);
        }

    said : Settled max_zoom (tiles_of list) → (all_of is_entry list && is_settled list) ≡ true
    said s = rw (in_all is_entry list entry, ordered_rises list s.in_order, apart_beside list apart, four_with list four)
      where
        entry : (n : ℕ) → Memᴰ n list → is_entry n ≡ true
        entry n m = eq-eqb _ _ (entry_accepted n (map_tile (entry_tile n) (s.of_map (entry_tile n) (into_map entry_tile list m))))

        apart : Apart (listed list)
        apart a b p q = s.apart a b (tiles_in list a p) (tiles_in list b q)

        four : (p : Tile) → whole (listed list) p ≡ false
        four p = is_false (whole (listed list) p) (λ w. none ((whole_all (listed list) p).0 w))
          where
            none : ((i j : ℕ) → i < 2 → j < 2 → listed list (child p i j) ≡ true) → ⊥
            none f =
                s.no_four p (tiles_in list _ (f 0 0 (omega arith) (omega arith))) (tiles_in list _ (f 0 1 (omega arith) (omega arith)))
                (tiles_in list _ (f 1 0 (omega arith) (omega arith))) (tiles_in list _ (f 1 1 (omega arith) (omega arith)))

-- the settled list of a set is settled by the test too
pub settled_entries_settled : (G : ℕ → ℕ → Bool) → (all_of is_entry (settled_entries G) ≡ true) × (is_settled (settled_entries G) ≡ true)
settled_entries_settled G =
    and_parts (all_of is_entry (settled_entries G)) (is_settled (settled_entries G))
    ((settled_test (settled_entries G)).1 (rw (settled_tiles G) (settled_list_settled max_zoom G)))
