-- The tests for an ancestor beside an entry, and for all of its siblings, as what they say of the tiles that the list names.
use Rattle.std.specs.Prelude.{◌≡◌, refl, Bool, true, false, not, ℕ, ◌<◌}
use Rattle.std.proofs.Common.{sym, ap, ◌∙◌, true≢false, arith}
use mathlib.Core.List.{List, Memᴰ}
use Rattle.std.proofs.Math.Decide.{dec_lt}
use Rattle.bits.specs.Tests.{not_true, all_of, all_in, in_all}
use Rattle.ids.specs.Entry.{entry_tile}
use Rattle.tile.specs.declared.Tile.{Tile}
use Rattle.tile_list.specs.Laws.{named_by, names}
use Rattle.tile_list.specs.List.{listed}
use Rattle.tile_set.specs.Holds.{holds_level, ancestor_holds, holder_is_ancestor}
use Rattle.tile_set.specs.Merged.{Apart, is_false, whole_all, joins_when, joined_when, joined_joins}
use Rattle.tile_set.specs.Set.{ancestor, child, whole}
use Rattle.tile_set.specs.Uncovered.{any_below_of, any_below_in}
use Rattle.settled.specs.Settled.{beside_ancestor, with_siblings}

-- no entry stands beside an ancestor where no listed tile holds another, and none with its siblings where none of them are all there
module _ (list : List ℕ) where
  abbrev pub none_beside : Bool
  none_beside = all_of (λ n. not (beside_ancestor list (entry_tile n))) list

  abbrev pub none_with : Bool
  none_with = all_of (λ n. not (with_siblings list (entry_tile n))) list

  pub apart_beside : Apart (listed list) → none_beside ≡ true
  apart_beside apart = in_all (λ n. not (beside_ancestor list (entry_tile n))) list
      (λ n m. ap not (is_false (beside_ancestor list (entry_tile n)) (never n m)))
    where
      never : (n : ℕ) → Memᴰ n list → beside_ancestor list (entry_tile n) ≡ true → ⊥
      never n m e =
          let t = entry_tile n in
          let s = any_below_of t.z (λ s. listed list (ancestor t s)) e in
          let q = apart (ancestor t s.0) t s.2 (names entry_tile list n t m refl) (ancestor_holds t s.0 (omega (arith, s.1))) in
          omega (arith, ap (λ (u : Tile). u.z) q, s.1)

  pub beside_apart : none_beside ≡ true → Apart (listed list)
  beside_apart e a b p q g = pick (dec_lt a.z b.z)
    where
      beside : a.z < b.z → ⊥
      beside l =
          let s = named_by entry_tile list b q in
          let n = not_true (beside_ancestor list (entry_tile s.0)) (all_in (λ n. not (beside_ancestor list (entry_tile n))) list e s.1) in
          let y : beside_ancestor list b ≡ true =
          any_below_in b.z (λ s. listed list (ancestor b s)) a.z l (sym (ap (listed list) (holder_is_ancestor g)) ∙ p) in
          true≢false (sym y ∙ (sym (ap (beside_ancestor list) s.2) ∙ n))

      pick : Dec (a.z < b.z) → a ≡ b
      pick (yes l) = absurd (beside l)
      pick (no l) = holds_level g (omega arith)

  pub four_with : ((p : Tile) → whole (listed list) p ≡ false) → none_with ≡ true
  four_with none = in_all (λ n. not (with_siblings list (entry_tile n))) list (λ n m. ap not (is_false (with_siblings list (entry_tile n)) (λ e.
      true≢false (sym ((joins_when 0 (listed list) (entry_tile n)).0 e).1 ∙ none _))))

  pub with_four : none_with ≡ true → (p : Tile) → whole (listed list) p ≡ false
  with_four e p = is_false (whole (listed list) p) never
    where
      never : whole (listed list) p ≡ true → ⊥
      never w =
          let s = named_by entry_tile list (child p 0 0) ((whole_all (listed list) p).0 w 0 0 (omega arith) (omega arith)) in
          let n = not_true (with_siblings list (entry_tile s.0)) (all_in (λ n. not (with_siblings list (entry_tile n))) list e s.1) in
          let y = joined_joins 0 (listed list) p 0 0 (omega arith) (omega arith) ((joined_when 0 (listed list) p).1 (omega arith, w)) in
          true≢false (sym y ∙ (sym (ap (with_siblings list) s.2) ∙ n))
