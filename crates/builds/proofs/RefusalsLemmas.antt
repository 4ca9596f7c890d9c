-- The proof that the refusals of a build's calls come where their words hold: of one list, of two, of a call by the account, and of what
-- the four functions promise.
use Rattle.std.specs.Prelude.{◌≡◌, refl, ◌↔◌, ◌⊎◌, Bool, true, false, not, ◌&&◌, ◌||◌, ℕ, ◌<◌, ltb, length}
use Rattle.std.proofs.Common.{sym, ap, ◌∙◌, subst, inl, inr, ⊎_elim, true≢false, arith, eq-eqb, eqb-true, ltb-true, lt-ltb}
use Rattle.std.proofs.Math.Bool.{or-true}
use mathlib.Core.List.{List, [], ◌∷◌, ◌++◌, Memᴰ}
use Rattle.area.specs.Area.{ground_of, settled_entries, pair_refusal, pair_places_refusal}
use Rattle.area.specs.Area.{union_entries, common_entries, difference_entries}
use Rattle.area.proofs.Grounds.{settled_tiles, settled_ground, one_settled}
use Rattle.area.proofs.Settled.{settled_test}
use Rattle.bits.specs.Tests.{and_parts, not_true, not_false, all_of, all_in}
use Rattle.builds.specs.Account.{set_kept, places_for, refusal_of}
use Rattle.builds.specs.Build.{Operand, Operation, settling, union, common_part, difference, performed}
use Rattle.constants.specs.Limits.{max_zoom, max_entries}
use Rattle.errors.specs.Answer.{◌when◌, ◌else◌, short}
use Rattle.errors.proofs.GivesLemmas.{lent_gives}
use Rattle.errors.specs.Laws.{else_none}
use Rattle.ground.proofs.Theorems.{settled_list_settled}
use Rattle.ids.specs.Entry.{entry_of, entry_tile, is_entry}
use Rattle.ids.proofs.EntryLemmas.{entry_accepted, accepted_entry, entry_again, entry_tile_again}
use Rattle.settled.specs.Settled.{is_settled}
use Rattle.tile.specs.OnMap.{OnMap}
use Rattle.tile.specs.declared.Tile.{Tile}
use Rattle.tile_list.specs.Gives.{listed_gives}
use Rattle.quadtree.specs.Locations.{valid_tile, map_tile}
use Rattle.tile_list.specs.List.{listed, entries_in_order, list_refusal, places_refusal}
use Rattle.tile_set.specs.Holds.{Valid}
use Rattle.tile_set.specs.Merged.{or_cases, is_false}
use Rattle.tile_set.specs.Set.{simplified}
use Rattle.builds.specs.Refusals.{NoTiles, NotSettled, Refuses, TestedFirst, TooLong, TooShort}

-- a test and its words
abbrev Tells : Bool → Type 0 → Type 0
Tells b words = (b ≡ true) ↔ words

untold : {b : Bool} {words : Type 0} → Tells b words → b ≡ false → words → ⊥
untold t e w = true≢false (sym (t.1 w) ∙ e)

tested_first : {six seven eleven twelve : Type 0} (a b c d : Bool) → Tells a six → Tells b seven → (b ≡ false → Tells c eleven)
    → Tells d twelve → TestedFirst six seven eleven twelve ((6 when a else 7 when b else 11 when c) else 12 when d)
tested_first true b c d A B C D =
    let s = A.0 refl in
    record {
      is_6 = (λ e. s, λ w. refl);
      is_7 = (λ e. absurd (omega arith), λ w. absurd (w.0 s));
      is_11 = (λ e. absurd (omega arith), λ w. absurd (w.0 s));
      is_12 = (λ e. absurd (omega arith), λ w. absurd (w.0 s));
      accepted = (λ e. absurd (omega arith), λ w. absurd (w.0 s));
      no_other = λ x six seven y z. six refl;
    }
tested_first false true c d A B C D =
    let s = B.0 refl in
    let a = untold A refl in
    record {
      is_6 = (λ e. absurd (omega arith), λ w. absurd (a w));
      is_7 = (λ e. (a, s), λ w. refl);
      is_11 = (λ e. absurd (omega arith), λ w. absurd (w.1 s));
      is_12 = (λ e. absurd (omega arith), λ w. absurd (w.1 s));
      accepted = (λ e. absurd (omega arith), λ w. absurd (w.1 s));
      no_other = λ x six seven y z. seven refl;
    }
tested_first false false true d A B C D =
    let s = (C refl).0 refl in
    let a = untold A refl in
    let b = untold B refl in
    record {
      is_6 = (λ e. absurd (omega arith), λ w. absurd (a w));
      is_7 = (λ e. absurd (omega arith), λ w. absurd (b w.1));
      is_11 = (λ e. (a, b, s), λ w. refl);
      is_12 = (λ e. absurd (omega arith), λ w. absurd (w.2 s));
      accepted = (λ e. absurd (omega arith), λ w. absurd (w.2 s));
      no_other = λ x six seven eleven z. eleven refl;
    }
tested_first false false false true A B C D =
    let s = D.0 refl in
    let a = untold A refl in
    let b = untold B refl in
    let c = untold (C refl) refl in
    record {
      is_6 = (λ e. absurd (omega arith), λ w. absurd (a w));
      is_7 = (λ e. absurd (omega arith), λ w. absurd (b w.1));
      is_11 = (λ e. absurd (omega arith), λ w. absurd (c w.2));
      is_12 = (λ e. (a, b, c, s), λ w. refl);
      accepted = (λ e. absurd (omega arith), λ w. absurd (w.3 s));
      no_other = λ x six seven eleven twelve. twelve refl;
    }
tested_first false false false false A B C D =
    let a = untold A refl in
    let b = untold B refl in
    let c = untold (C refl) refl in
    let d = untold D refl in
    record {
      is_6 = (λ e. absurd (omega arith), λ w. absurd (a w));
      is_7 = (λ e. absurd (omega arith), λ w. absurd (b w.1));
      is_11 = (λ e. absurd (omega arith), λ w. absurd (c w.2));
      is_12 = (λ e. absurd (omega arith), λ w. absurd (d w.3));
      accepted = (λ e. (a, b, c, d), λ w. refl);
      no_other = λ none six seven eleven twelve. none refl;
    }

-- the tests of one list
too_long : (list : List ℕ) → Tells (ltb max_entries (length list)) (TooLong list)
too_long list = (ltb-true max_entries (length list), lt-ltb max_entries (length list))

one_not : (p : ℕ → Bool) (list : List ℕ) → all_of p list ≡ false → (n : ℕ) × Memᴰ n list × (p n ≡ false)
unfolding all_of
one_not p [] e = absurd (true≢false e)
one_not p (n ∷ list) e = pick (p n) refl e (one_not p list)
  where
    pick : (b : Bool) → p n ≡ b → b && all_of p list ≡ false → (all_of p list ≡ false → (m : ℕ) × Memᴰ m list × (p m ≡ false))
        → (m : ℕ) × Memᴰ m (n ∷ list) × (p m ≡ false)
    pick true k f below = let s = below f in (s.0, Memᴰ.tail s.1, s.2)
    pick false k f below = (n, Memᴰ.head refl, k)

no_tiles : (list : List ℕ) → Tells (not (all_of is_entry list)) (NoTiles list)
no_tiles list = (λ e. let s = one_not is_entry list (not_true (all_of is_entry list) e) in (s.0, s.1, nobody s.0 s.2), none)
  where
    nobody : (n : ℕ) → is_entry n ≡ false → (t : Tile) → Valid max_zoom t → entry_of t.x t.y t.z ≡ n → ⊥
    nobody n e t v k =
        let o = map_tile t v in
        let same : entry_tile n ≡ t = ap entry_tile (sym k) ∙ entry_tile_again t.x t.y t.z o in
        true≢false (sym (eq-eqb _ _ (entry_accepted n (subst (λ (t : Tile). OnMap t.x t.y t.z) (sym same) o))) ∙ e)

    none : NoTiles list → not (all_of is_entry list) ≡ true
    none (n, m, f) = ap not (is_false (all_of is_entry list) (λ e.
        f (entry_tile n) (valid_tile (entry_tile n) (accepted_entry n (eqb-true _ _ (all_in is_entry list e m)))) (entry_again n)))

not_settled : (list : List ℕ) → all_of is_entry list ≡ true → Tells (not (is_settled list)) (NotSettled list)
not_settled list e = (
  λ f s. true≢false (sym (and_parts (all_of is_entry list) (is_settled list) ((settled_test list).1 s)).1 ∙ not_true (is_settled list) f),
  λ f. ap not (is_false (is_settled list) (λ k. f ((settled_test list).0 (rw (e, k))))),
)

-- the tests of two lists
either : {P Q : Type 0} (a b : Bool) → Tells a P → Tells b Q → Tells (a || b) (P ⊎ Q)
either a b f g = (
  λ e. ⊎_elim (λ k. inl (f.0 k)) (λ k. inr (g.0 k)) (or_cases a b e),
  ⊎_elim (λ p. rw (f.1 p)) (λ q. rw (g.1 q) (or-true a)),
)

either_not : {P Q : Type 0} (a b : Bool) → Tells (not a) P → Tells (not b) Q → Tells (not (a && b)) (P ⊎ Q)
either_not true b f g = (λ e. inr (g.0 e), ⊎_elim (λ p. absurd (true≢false (sym (f.1 p)))) g.1)
either_not false b f g = (λ e. inl (f.0 refl), λ w. refl)

-- a test that is not made
never : Tells false ⊥
never = (λ e. true≢false (sym e), λ w. absurd w)

-- one list, or two, and then the memory
list_then : {twelve : Type 0} (list : List ℕ) (d : Bool) → Tells d twelve
    → TestedFirst (TooLong list) (NoTiles list) ⊥ twelve (list_refusal list else 12 when d)
unfolding list_refusal
list_then {twelve} list d D =
    let a = ltb max_entries (length list) in
    let b = not (all_of is_entry list) in
    subst (λ (n : ℕ). TestedFirst (TooLong list) (NoTiles list) ⊥ twelve ((6 when a else n) else 12 when d)) (else_none (7 when b))
    (tested_first a b false d (too_long list) (no_tiles list) (λ e. never) D)

pair_then : {twelve : Type 0} (a b : List ℕ) (d : Bool) → Tells d twelve
    → TestedFirst (TooLong a ⊎ TooLong b) (NoTiles a ⊎ NoTiles b) (NotSettled a ⊎ NotSettled b) twelve (pair_refusal a b else 12 when d)
unfolding pair_refusal
pair_then a b d D =
    tested_first (ltb max_entries (length a) || ltb max_entries (length b)) (not (all_of is_entry a && all_of is_entry b))
    (not (is_settled a && is_settled b)) d
    (either _ _ (too_long a) (too_long b)) (either_not (all_of is_entry a) (all_of is_entry b) (no_tiles a) (no_tiles b)) unsettled D
  where
    unsettled : not (all_of is_entry a && all_of is_entry b) ≡ false → Tells (not (is_settled a && is_settled b)) (NotSettled a ⊎ NotSettled b)
    unsettled e =
        let p = and_parts (all_of is_entry a) (all_of is_entry b) (not_false _ e) in
        either_not (is_settled a) (is_settled b) (not_settled a p.0) (not_settled b p.1)

pub a_list_is_refused : (list : List ℕ) → TestedFirst (TooLong list) (NoTiles list) ⊥ ⊥ (list_refusal list)
a_list_is_refused list = subst (TestedFirst (TooLong list) (NoTiles list) ⊥ ⊥) (else_none (list_refusal list)) (list_then list false never)

pub a_pair_is_refused : (a b : List ℕ)
    → TestedFirst (TooLong a ⊎ TooLong b) (NoTiles a ⊎ NoTiles b) (NotSettled a ⊎ NotSettled b) ⊥ (pair_refusal a b)
a_pair_is_refused a b =
    subst (TestedFirst (TooLong a ⊎ TooLong b) (NoTiles a ⊎ NoTiles b) (NotSettled a ⊎ NotSettled b) ⊥) (else_none (pair_refusal a b))
    (pair_then a b false never)

-- what is said of the places is what their test says
fewer : (places needed : ℕ) → Tells (ltb places needed) (places < needed)
fewer places needed = (ltb-true places needed, lt-ltb places needed)

fewer_than_left : (set : Operand → ℕ → ℕ → Bool) (entries : Operand → List ℕ) (a b : Operand) (places : ℕ)
    → Tells (ltb places (places_for set entries (difference a b))) (TooShort set entries (difference a b) places)
fewer_than_left set entries a b places = (
  λ e. (settled_entries left, rw (settled_tiles left) (settled_list_settled max_zoom left), settled_ground left, ltb-true _ _ e),
  λ w. lt-ltb _ _ (subst (λ (l : List ℕ). places < length l) (one_settled left w.0 w.1 w.2) w.3),
)
  where
    left : ℕ → ℕ → Bool
    left = set_kept set (difference a b)

pub a_call_is_refused : (set : Operand → ℕ → ℕ → Bool) (entries : Operand → List ℕ) (asked : Operation) (places : ℕ)
    → Refuses set entries asked places (refusal_of set entries (record { asked = asked; places = places }))
a_call_is_refused set entries (settling a) places = list_then (entries a) _ (fewer places _)
a_call_is_refused set entries (union a b) places = pair_then (entries a) (entries b) _ (fewer places _)
a_call_is_refused set entries (common_part a b) places = pair_then (entries a) (entries b) _ (fewer places _)
a_call_is_refused set entries (difference a b) places = pair_then (entries a) (entries b) _ (fewer_than_left set entries a b places)

-- what comes back of a call, by the promises, is refused so too: an operand's set is then the ground of its list
performed_number : (entries : Operand → List ℕ) (asked : Operation) (memory : List ℕ)
    → (performed entries asked memory).number
    ≡ refusal_of (λ a. ground_of (entries a)) entries (record { asked = asked; places = length memory })
unfolding places_refusal pair_places_refusal
performed_number entries (settling a) memory =
    let items = entries_in_order (simplified max_zoom 0 (listed (entries a))) in
    (listed_gives (places_refusal (entries a) memory) (entries a) items memory).number
performed_number entries (union a b) memory =
    let l = entries a in
    let r = entries b in
    (listed_gives (pair_places_refusal l r memory) (l ++ r) (union_entries l r) memory).number
performed_number entries (common_part a b) memory =
    let l = entries a in
    let r = entries b in
    (listed_gives (pair_places_refusal l r memory) (l ++ r) (common_entries l r) memory).number
performed_number entries (difference a b) memory =
    let items = difference_entries (entries a) (entries b) in
    (lent_gives (pair_refusal (entries a) (entries b) else short items memory) items memory).number

pub what_comes_back_is_refused : (entries : Operand → List ℕ) (asked : Operation) (memory : List ℕ)
    → Refuses (λ a. ground_of (entries a)) entries asked (length memory) (performed entries asked memory).number
what_comes_back_is_refused entries asked memory =
    subst (Refuses (λ a. ground_of (entries a)) entries asked (length memory)) (sym (performed_number entries asked memory))
    (a_call_is_refused (λ a. ground_of (entries a)) entries asked (length memory))
