-- What stays of a set when tiles under an ancestor are dropped.
use Rattle.std.specs.Prelude.{◌≡◌, ◌⊎◌, Bool, ◌&&◌, ◌||◌, ℕ, zero, suc, ◌-◌, ◌<◌}
use Rattle.std.proofs.Math.Path.{refl}
use Rattle.std.proofs.Common.{sym, ap, ◌∙◌, arith}
use Rattle.std.proofs.Math.Logic.{inl, inr}
use Rattle.std.proofs.Math.Bool.{true, false, not, true≢false, and-eq-true_iff, or-true}
use Rattle.std.proofs.lemmas.Bool.{false≢true}
use Rattle.std.proofs.Math.Decide.{dec_lt}
use borrow.Author.Tests.{not-true}
use Rattle.tile.specs.declared.Tile.{Tile}
use Rattle.tile_set.specs.Holds.{Holds, holds_refl, holds_trans, holds_level, ancestor_holds, holder_is_ancestor}
use Rattle.tile_set.specs.Merged.{Within, Covers, Apart, or_cases}
use Rattle.tile_set.specs.Set.{any_below, ancestor, uncovered}

pub any_below_of : (n : ℕ) (p : ℕ → Bool) → any_below n p ≡ true → (i : ℕ) × (i < n) × (p i ≡ true)
unfolding any_below
any_below_of zero p e = absurd (false≢true e)
any_below_of (suc n) p e = pick (or_cases (p n) (any_below n p) e) (any_below_of n p)
  where
    pick : (p n ≡ true) ⊎ (any_below n p ≡ true) → (any_below n p ≡ true → (i : ℕ) × (i < n) × (p i ≡ true))
        → (i : ℕ) × (i < suc n) × (p i ≡ true)
    pick (inl k) g = (n, omega arith, k)
    pick (inr k) g = let r = g k in (r.0, omega (arith, r.1), r.2)

pub any_below_in : (n : ℕ) (p : ℕ → Bool) (i : ℕ) → i < n → p i ≡ true → any_below n p ≡ true
unfolding any_below
any_below_in zero p i h e = absurd (omega arith)
any_below_in (suc n) p i h e = pick (dec_lt i n) (λ l. any_below_in n p i l e)
  where
    pick : Dec (i < n) → (i < n → any_below n p ≡ true) → (p n || any_below n p) ≡ true
    pick (yes l) g = rw (g l) (or-true (p n))
    pick (no l) g = let k : n ≡ i = omega arith in rw (ap p k ∙ e)

module _ (k : ℕ) (S : Tile → Bool) where
  pub uncovered_of : (t : Tile) → uncovered k S t ≡ true → (S t ≡ true) × ((s : ℕ) → s < t.z - k → S (ancestor t s) ≡ true → ⊥)
  unfolding uncovered
  uncovered_of t e =
      let covered = any_below (t.z - k) (λ s. S (ancestor t s)) in
      let i = (and-eq-true_iff (S t) (not covered)).0 e in
      (i.0, λ s h a. true≢false (sym (any_below_in (t.z - k) (λ s. S (ancestor t s)) s h a) ∙ not-true covered i.1))

  pub uncovered_or : (t : Tile) → S t ≡ true → (uncovered k S t ≡ true) ⊎ ((s : ℕ) × (s < t.z - k) × (S (ancestor t s) ≡ true))
  unfolding uncovered
  uncovered_or t e = pick (any_below (t.z - k) (λ s. S (ancestor t s))) refl
    where
      pick : (b : Bool) → any_below (t.z - k) (λ s. S (ancestor t s)) ≡ b
          → ((S t && not (any_below (t.z - k) (λ s. S (ancestor t s)))) ≡ true) ⊎ ((s : ℕ) × (s < t.z - k) × (S (ancestor t s) ≡ true))
      pick true a = inr (any_below_of (t.z - k) (λ s. S (ancestor t s)) a)
      pick false a = inl (rw (e, a))

  covers_above : (n : ℕ) (t : Tile) → t.z < n → S t ≡ true → (r : Tile) × (uncovered k S r ≡ true) × Holds r t
  covers_above zero t h e = absurd (omega arith)
  covers_above (suc n) t h e = pick (uncovered_or t e) (covers_above n)
    where
      pick : (uncovered k S t ≡ true) ⊎ ((s : ℕ) × (s < t.z - k) × (S (ancestor t s) ≡ true))
          → ((s : Tile) → s.z < n → S s ≡ true → (r : Tile) × (uncovered k S r ≡ true) × Holds r s)
          → (r : Tile) × (uncovered k S r ≡ true) × Holds r t
      pick (inl a) g = (t, a, holds_refl t)
      pick (inr a) g =
          let r = g (ancestor t a.0) (omega (arith, a.1)) a.2 in
          (r.0, r.1, holds_trans r.2 (ancestor_holds t a.0 (omega (arith, a.1))))

  pub uncovered_covers : Covers (uncovered k S) S
  uncovered_covers t e = covers_above (suc t.z) t (omega arith) e

  pub uncovered_within : {D : ℕ} → Within D S → Within D (uncovered k S)
  uncovered_within w t e = w t (uncovered_of t e).0

-- where all ancestors count, no tile stays beside one
pub uncovered_apart : (S : Tile → Bool) → Apart (uncovered 0 S)
uncovered_apart S a b p q h = pick (dec_lt a.z b.z)
  where
    pick : Dec (a.z < b.z) → a ≡ b
    pick (yes l) =
        absurd ((uncovered_of 0 S b q).1 a.z (omega arith) (sym (ap S (holder_is_ancestor h)) ∙ (uncovered_of 0 S a p).0))
    pick (no l) = holds_level h (omega arith)
