-- What `simplify` makes of a set, by four properties that only one set has.
use Rattle.std.specs.Prelude.{◌≡◌, Bool, true, ℕ, zero, suc, ◌≤◌, ◌<◌}
use Rattle.std.proofs.Common.{ap, ◌∙◌, subst, ⊎_elim, arith}
use Rattle.tile.specs.declared.Tile.{Tile}
use Rattle.tile_set.specs.Holds.{Holds, holds_trans, holds_antisym, by_quarter, held_by_four}
use Rattle.tile_set.specs.Merged.{Within, Covers, Apart, bool_ext, covers_trans, joined_when, joined_four, merged_cases}
use Rattle.tile_set.specs.Merged.{passes_within, passes_covers, passes_apart}
use Rattle.tile_set.specs.Merged.{no_four as passes-no-four}
use Rattle.tile_set.specs.Set.{child, whole, joined as is_joined, merged, passes, uncovered, simplified}
use Rattle.tile_set.specs.Uncovered.{uncovered_of, uncovered_covers, uncovered_apart, uncovered_within}

-- a tile that joining can make of the tiles of S
pub data Built (m : ℕ) (S : Tile → Bool) : Tile → Type 0 where
  listed : {t : Tile} → S t ≡ true → Built m S t
  joined : {p : Tile} → m ≤ p.z → Built m S (child p 0 0) → Built m S (child p 0 1) → Built m S (child p 1 0) → Built m S (child p 1 1)
      → Built m S p

-- R is S simplified at minimum zoom m
pub record Simplest (m : ℕ) (S R : Tile → Bool) : Type 0 where
  pub built : (t : Tile) → R t ≡ true → Built m S t
  pub covers : Covers R S
  pub apart : Apart R
  pub no_four : (p : Tile) → m ≤ p.z → whole R p ≡ true → ⊥

pub merged_built : {m : ℕ} {S : Tile → Bool} (R : Tile → Bool) → ((t : Tile) → R t ≡ true → Built m S t) → (t : Tile)
    → merged m R t ≡ true → Built m S t
merged_built {m} {S} R f t e = ⊎_elim (λ k. f t k.0) join (merged_cases m R t e)
  where
    join : is_joined m R t ≡ true → Built m S t
    join k = joined ((joined_when m R t).0 k).0 (part 0 0 (omega arith) (omega arith)) (part 0 1 (omega arith) (omega arith))
        (part 1 0 (omega arith) (omega arith)) (part 1 1 (omega arith) (omega arith))
      where
        part : (i j : ℕ) → i < 2 → j < 2 → Built m S (child t i j)
        part i j a b = f (child t i j) (joined_four m R t k i j a b)

passes_built : {m : ℕ} {S : Tile → Bool} (R : Tile → Bool) → ((t : Tile) → R t ≡ true → Built m S t)
    → (n : ℕ) (t : Tile) → passes n m R t ≡ true → Built m S t
unfolding passes
passes_built R f zero t e = f t e
passes_built {m} R f (suc n) t e = merged_built (passes n m R) (passes_built R f n) t e

pub simplified_within : {D : ℕ} (m : ℕ) (S : Tile → Bool) → Within D S → Within D (simplified D m S)
unfolding simplified
simplified_within {D} m S w = passes_within D m (uncovered 0 S) (uncovered_within 0 S w)

pub simplified_simplest : {D : ℕ} (m : ℕ) (S : Tile → Bool) → Within D S → Simplest m S (simplified D m S)
unfolding simplified
simplified_simplest {D} m S w = record {
  built = passes_built (uncovered 0 S) (λ t e. listed (uncovered_of 0 S t e).0) D;
  covers = covers_trans (passes D m (uncovered 0 S)) (uncovered 0 S) S (passes_covers D m (uncovered 0 S)) (uncovered_covers 0 S);
  apart = passes_apart D m (uncovered 0 S) (uncovered_apart S);
  no_four = λ p l. passes-no-four D m (uncovered 0 S) (uncovered_within 0 S w) D p l (omega arith);
}

module _ {m : ℕ} {S : Tile → Bool} where
  -- what can be built is held by a tile of R: four siblings held only by themselves would be four together
  built_held : {R : Tile → Bool} → Simplest m S R → {t : Tile} → Built m S t → (r : Tile) × (R r ≡ true) × Holds r t
  built_held G (listed e) = G.covers _ e
  built_held {R} G (joined {p = p} l a b c d) =
      held_by_four (λ t. R t ≡ true) p (λ u v x y. G.no_four p l (rw (u, v, x, y)))
      (by_quarter (λ i j. (r : Tile) × (R r ≡ true) × Holds r (child p i j)) (built_held G a) (built_held G b) (built_held G c)
      (built_held G d))

  simplest_in : {R Q : Tile → Bool} → Simplest m S R → Simplest m S Q → (t : Tile) → R t ≡ true → Q t ≡ true
  simplest_in {R} {Q} G H t e =
      let q = built_held H (G.built t e) in
      let r = built_held G (H.built q.0 q.1) in
      let same : r.0 ≡ t = G.apart r.0 t r.1 e (holds_trans r.2 q.2) in
      let k : Holds t q.0 = subst (λ (u : Tile). Holds u q.0) same r.2 in
      ap Q (holds_antisym k q.2) ∙ q.1

  pub one_simplest : {R Q : Tile → Bool} → Simplest m S R → Simplest m S Q → (t : Tile) → R t ≡ Q t
  one_simplest {R} {Q} G H t = bool_ext (R t) (Q t) (simplest_in G H t) (simplest_in H G t)

  pub simplified_is : {D : ℕ} {R : Tile → Bool} → Within D S → Simplest m S R → (t : Tile) → R t ≡ simplified D m S t
  simplified_is w G = one_simplest G (simplified_simplest m S w)
