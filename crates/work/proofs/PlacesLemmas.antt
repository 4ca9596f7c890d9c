-- The places that are asked for what is made of two lists, and the list that stands in them.
use Rattle.std.specs.Prelude.{replicate, ◌≡◌, ◌⊎◌, Bool, List, ◌++◌, ℕ, ◌+◌, ◌-◌, ◌≤◌, length, take, drop}
use Rattle.std.proofs.Common.{sym, ap, ◌∙◌, inl, inr, arith, length-append, take-append-drop, length-take-le}
use Rattle.overlay.specs.Overlay.{union_set, common_set, left_entries, LeftIn}
use Rattle.tile.specs.declared.Tile.{Tile}
use Rattle.tile_list.specs.Finish.{Listed, listed_filled}
use Rattle.tile_list.specs.List.{entries_in_order}
use Rattle.work.specs.Steps.{Overlays}
use Rattle.work.specs.Work.{overlay_items, overlay_places}
use Rattle.work.specs.declared.Overlay.{Overlay}
use Rattle.work.specs.declared.Overlay.TheVariants.{Union, Common, Difference}

-- union and common part: a place for each location

both_lengths : (n : ℕ) (l : List ℕ) → length (take n l) + length (drop n l) ≡ length l
both_lengths n l = sym (length-append (take n l) (drop n l)) ∙ ap length (take-append-drop n l)

pub joined_places : {which : Overlay} (n : ℕ) (l : List ℕ) → (which ≡ Union) ⊎ (which ≡ Common)
    → overlay_places which (take n l) (drop n l) ≡ length l
joined_places n l (inl e) = rw e (both_lengths n l)
joined_places n l (inr e) = rw e (both_lengths n l)

module _ (which : Overlay) (n both : ℕ) (keys out : List ℕ) (within : both ≤ length keys)
    (room : overlay_places which (take n (take both keys)) (drop n (take both keys)) ≤ length out) where
  abbrev first : List ℕ
  first = take n (take both keys)

  abbrev rest : List ℕ
  rest = drop n (take both keys)

  module _ (e : (which ≡ Union) ⊎ (which ≡ Common)) where
    asked : overlay_places which first rest ≡ both
    asked = joined_places n (take both keys) e ∙ length-take-le both keys within

    pub places_fit : (both ≤ length out) × (both ≡ length (take both out))
    places_fit = let h : both ≤ length out = omega (arith, asked, room) in (h, sym (length-take-le both out h))

    joined_overlays : {S : Tile → Bool} {part : List ℕ} {r : ℕ} → overlay_items which first rest ≡ entries_in_order S
        → length part ≡ length (take both out) → Listed S part r → Overlays which first rest out (part ++ drop both out) r
    joined_overlays items l s = record {
      counted = s.counted ∙ ap length (sym items);
      written = rw (items, asked) (listed_filled both out s (l ∙ sym places_fit.1));
    }

  pub union_overlays : {part : List ℕ} {r : ℕ} → which ≡ Union → length part ≡ length (take both out)
      → Listed (union_set first rest) part r → Overlays which first rest out (part ++ drop both out) r
  union_overlays e l s = joined_overlays (inl e) (rw e) l s

  pub common_overlays : {part : List ℕ} {r : ℕ} → which ≡ Common → length part ≡ length (take both out)
      → Listed (common_set first rest) part r → Overlays which first rest out (part ++ drop both out) r
  common_overlays e l s = joined_overlays (inr e) (rw e) l s

-- the difference asks for its count, so there is no place left for a 0
pub difference_overlays : {which : Overlay} {a b before after : List ℕ} {r : ℕ} → which ≡ Difference → LeftIn a b before after r
    → Overlays which a b before after r
difference_overlays {a = a} {b} {before} e s =
    let z : length (left_entries a b) - length (left_entries a b) ≡ 0 = omega arith in
    rw e (record { counted = s.counted; written = rw z (s.written ∙ ap (λ (i : ℕ). left_entries a b ++ drop i before) s.counted) })

pub count_within : {which : Overlay} {a b before after : List ℕ} {r : ℕ} → Overlays which a b before after r → r ≤ length after
count_within {which} {a} {b} {before} o =
    let items = overlay_items which a b in
    let places = overlay_places which a b in
    rw (o.counted, o.written) (omega (arith, length-append items (replicate (places - length items) 0 ++ drop places before)))
