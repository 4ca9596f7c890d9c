-- What passes of merging do to a set: which tiles they keep and which they make, and that after D passes nothing changes any more.
use Rattle.std.specs.Prelude.{◌≡◌, refl, ◌⊎◌, ◌↔◌, Bool, true, false, ◌&&◌, ◌||◌, leb, ltb}
use Rattle.std.proofs.Common.{sym, ap, ◌∙◌, subst, true≢false, arith}
use Rattle.std.proofs.Math.Logic.{inl, inr, ⊎_elim}
use Rattle.std.proofs.Math.Bool.{not, and-eq-true_iff, and-false, or-true}
use Prim.Native.Nat.{ℕ, zero, suc, ◌+◌, ◌%◌, ◌≤◌, ◌<◌}
use Rattle.std.proofs.Math.Decide.{dec_lt}
use borrow.Author.Tests.{leb-true, le-leb, ltb-true, lt-ltb, not-true}
use Rattle.tile.specs.declared.Tile.{Tile}
use Rattle.tile_set.specs.Holds.{Holds, holds_refl, holds_trans, holds_level, child_held, in_a_child}
use Rattle.tile_set.specs.Holds.{parent_holds, parent_of_child, Valid}
use Rattle.tile_set.specs.Holds.{child_of_parent, valid_holder}
use Rattle.tile_set.specs.Set.{parent_tile, child, whole, joins, joined, merged, passes}

-- a set of tiles of the map
abbrev pub Within : ℕ → (Tile → Bool) → Type 0
Within D S = (t : Tile) → S t ≡ true → Valid D t

-- each tile of S is held by one of R
abbrev pub Covers : (Tile → Bool) → (Tile → Bool) → Type 0
Covers R S = (s : Tile) → S s ≡ true → (r : Tile) × (R r ≡ true) × Holds r s

-- no tile stands beside its own ancestor
abbrev pub Apart : (Tile → Bool) → Type 0
Apart S = (a b : Tile) → S a ≡ true → S b ≡ true → Holds a b → a ≡ b

pub covers_trans : (R Q S : Tile → Bool) → Covers R Q → Covers Q S → Covers R S
covers_trans R Q S f g s e =
    let q = g s e in
    let r = f q.0 q.1 in
    (r.0, r.1, holds_trans r.2 q.2)

pub or_cases : (a b : Bool) → (a || b) ≡ true → (a ≡ true) ⊎ (b ≡ true)
or_cases true b e = inl refl
or_cases false b e = inr e

pub is_false : (b : Bool) → (b ≡ true → ⊥) → b ≡ false
is_false true n = absurd (n refl)
is_false false n = refl

pub bool_ext : (a b : Bool) → (a ≡ true → b ≡ true) → (b ≡ true → a ≡ true) → a ≡ b
bool_ext true b f g = sym (f refl)
bool_ext false true f g = g refl
bool_ext false false f g = refl

pub whole_all : (S : Tile → Bool) (p : Tile) → (whole S p ≡ true) ↔ ((i j : ℕ) → i < 2 → j < 2 → S (child p i j) ≡ true)
whole_all S p = (each, all)
  where
    column : (i : ℕ) → (S (child p i 0) && S (child p i 1)) ≡ true → (j : ℕ) → j < 2 → S (child p i j) ≡ true
    column i e zero b = ((and-eq-true_iff (S (child p i 0)) (S (child p i 1))).0 e).0
    column i e (suc zero) b = ((and-eq-true_iff (S (child p i 0)) (S (child p i 1))).0 e).1
    column i e (suc (suc j)) b = absurd (omega arith)

    columns : whole S p ≡ true → ((S (child p 0 0) && S (child p 0 1)) ≡ true) × ((S (child p 1 0) && S (child p 1 1)) ≡ true)
    columns e = (and-eq-true_iff (S (child p 0 0) && S (child p 0 1)) (S (child p 1 0) && S (child p 1 1))).0 e

    each : whole S p ≡ true → (i j : ℕ) → i < 2 → j < 2 → S (child p i j) ≡ true
    each e zero j a b = column 0 (columns e).0 j b
    each e (suc zero) j a b = column 1 (columns e).1 j b
    each e (suc (suc i)) j a b = absurd (omega arith)

    all : ((i j : ℕ) → i < 2 → j < 2 → S (child p i j) ≡ true) → whole S p ≡ true
    all f = rw (
      f 0 0 (omega arith) (omega arith),
      f 0 1 (omega arith) (omega arith),
      f 1 0 (omega arith) (omega arith),
      f 1 1 (omega arith) (omega arith),
    )

module _ (m : ℕ) (S : Tile → Bool) where
  pub joins_when : (t : Tile) → (joins m S t ≡ true) ↔ ((m < t.z) × (whole S (parent_tile t) ≡ true))
  joins_when t =
      let i = and-eq-true_iff (ltb m t.z) (whole S (parent_tile t)) in
      (λ e. (ltb-true m t.z (i.0 e).0, (i.0 e).1), λ k. i.1 (lt-ltb m t.z k.0, k.1))

  -- a tile that joins is in the set
  pub joins_in : (t : Tile) → joins m S t ≡ true → S t ≡ true
  joins_in t e =
      let w = (joins_when t).0 e in
      let h : 0 < t.z = omega (arith, w.0) in
      let k = (whole_all S (parent_tile t)).0 w.1 (t.x % 2) (t.y % 2) (omega arith) (omega arith) in
      subst (λ (u : Tile). S u ≡ true) (child_of_parent t h) k

  pub joined_when : (p : Tile) → (joined m S p ≡ true) ↔ ((m ≤ p.z) × (whole S p ≡ true))
  joined_when p =
      let i = and-eq-true_iff (leb m p.z) (whole S p) in
      (λ e. (leb-true m p.z (i.0 e).0, (i.0 e).1), λ k. i.1 (le-leb m p.z k.0, k.1))

  pub joined_four : (p : Tile) → joined m S p ≡ true → (i j : ℕ) → i < 2 → j < 2 → S (child p i j) ≡ true
  joined_four p e = (whole_all S p).0 ((joined_when p).0 e).1

  -- the children of a tile that is put in go away
  pub joined_joins : (p : Tile) (i j : ℕ) → i < 2 → j < 2 → joined m S p ≡ true → joins m S (child p i j) ≡ true
  joined_joins p i j a b e =
      let k = (joined_when p).0 e in
      (joins_when (child p i j)).1 (omega (arith, k.0), ap (whole S) (parent_of_child p i j a b) ∙ k.1)

  -- the parent of a tile that goes away is put in
  pub joins_joined : (t : Tile) → joins m S t ≡ true → joined m S (parent_tile t) ≡ true
  joins_joined t e = let k = (joins_when t).0 e in (joined_when (parent_tile t)).1 (omega (arith, k.0), k.1)

  pub merged_cases : (t : Tile) → merged m S t ≡ true → ((S t ≡ true) × (joins m S t ≡ false)) ⊎ (joined m S t ≡ true)
  unfolding merged
  merged_cases t e =
      ⊎_elim (λ k. let i = (and-eq-true_iff (S t) (not (joins m S t))).0 k in inl (i.0, not-true (joins m S t) i.1)) inr
      (or_cases (S t && not (joins m S t)) (joined m S t) e)

  pub merged_kept : (t : Tile) → S t ≡ true → joins m S t ≡ false → merged m S t ≡ true
  unfolding merged
  merged_kept t e n = rw (e, n)

  pub merged_joined : (t : Tile) → joined m S t ≡ true → merged m S t ≡ true
  unfolding merged
  merged_joined t e = rw e (or-true (S t && not (joins m S t)))

  pub merged_gone : (t : Tile) → joins m S t ≡ true → joined m S t ≡ false → merged m S t ≡ false
  unfolding merged
  merged_gone t e n = rw (e, n, and-false)

  -- a pass that joins no tile changes nothing
  pub merged_same : ((t : Tile) → joins m S t ≡ false) → (t : Tile) → merged m S t ≡ S t
  merged_same none t =
      bool_ext (merged m S t) (S t) (λ e. ⊎_elim (λ k. k.0) (λ k. absurd (nothing k)) (merged_cases t e)) (λ e. merged_kept t e (none t))
    where
      nothing : joined m S t ≡ true → ⊥
      nothing k = true≢false (sym (joined_joins t 0 0 (omega arith) (omega arith) k) ∙ none (child t 0 0))

  pub merged_within : {D : ℕ} → Within D S → Within D (merged m S)
  merged_within w t e =
      ⊎_elim (λ k. w t k.0)
      (λ k. valid_holder (child_held t 0 0 (omega arith) (omega arith)) (w (child t 0 0) (joined_four t k 0 0 (omega arith) (omega arith))))
      (merged_cases t e)

  pub merged_covers : Covers (merged m S) S
  merged_covers t e = pick (joins m S t) refl
    where
      pick : (b : Bool) → joins m S t ≡ b → (r : Tile) × (merged m S r ≡ true) × Holds r t
      pick true k = (parent_tile t, merged_joined (parent_tile t) (joins_joined t k), parent_holds t (omega (arith, ((joins_when t).0 k).0)))
      pick false k = (t, merged_kept t e k, holds_refl t)

  pub merged_apart : Apart S → Apart (merged m S)
  merged_apart apart a b ea eb h = pick (dec_lt a.z b.z) (merged_cases a ea) (merged_cases b eb)
    where
      -- what holds a tile that is put in would hold its children, which were there
      under : (c : Tile) → joined m S b ≡ true → S c ≡ true → Holds c b → ⊥
      under c k s g =
          let first = joined_four b k 0 0 (omega arith) (omega arith) in
          let e : c ≡ child b 0 0 = apart c (child b 0 0) s first (holds_trans g (child_held b 0 0 (omega arith) (omega arith))) in
          let z : c.z ≡ suc b.z = ap (λ (t : Tile). t.z) e in
          omega (arith, g.above)

      part : joined m S a ≡ true → a.z < b.z → (i : ℕ) × (j : ℕ) × (i < 2) × (j < 2) × (S (child a i j) ≡ true) × Holds (child a i j) b
      part k l = let c = in_a_child h l in (c.0, c.1, c.2, c.3, joined_four a k c.0 c.1 c.2 c.3, c.4)

      pick : Dec (a.z < b.z) → ((S a ≡ true) × (joins m S a ≡ false)) ⊎ (joined m S a ≡ true)
          → ((S b ≡ true) × (joins m S b ≡ false)) ⊎ (joined m S b ≡ true) → a ≡ b
      pick (no l) p q = holds_level h (omega arith)
      pick (yes l) (inl p) (inl q) = apart a b p.0 q.0 h
      pick (yes l) (inl p) (inr q) = absurd (under a q p.0 h)
      pick (yes l) (inr p) (inl q) =
          let c = part p l in
          let e : child a c.0 c.1 ≡ b = apart (child a c.0 c.1) b c.4 q.0 c.5 in
          absurd (true≢false (sym (joined_joins a c.0 c.1 c.2 c.3 p) ∙ (ap (joins m S) e ∙ q.1)))
      pick (yes l) (inr p) (inr q) = let c = part p l in absurd (under (child a c.0 c.1) q c.4 c.5)

  -- of four siblings that stand together after a pass, one is new
  one_new : (p : Tile) → m ≤ p.z → ((i j : ℕ) → i < 2 → j < 2 → whole S (child p i j) ≡ true → ⊥) → whole (merged m S) p ≡ true → ⊥
  one_new p l none e =
      let k = (joined_when p).1 (l, (whole_all S p).1 (λ i j a b. (old i j a b).0)) in
      true≢false (sym (joined_joins p 0 0 (omega arith) (omega arith) k) ∙ (old 0 0 (omega arith) (omega arith)).1)
    where
      old : (i j : ℕ) → i < 2 → j < 2 → (S (child p i j) ≡ true) × (joins m S (child p i j) ≡ false)
      old i j a b =
          ⊎_elim (λ k. k) (λ k. absurd (none i j a b ((joined_when (child p i j)).0 k).1))
          (merged_cases (child p i j) ((whole_all (merged m S) p).0 e i j a b))

pub passes_within : {D : ℕ} (n m : ℕ) (S : Tile → Bool) → Within D S → Within D (passes n m S)
unfolding passes
passes_within zero m S w = w
passes_within (suc n) m S w = merged_within m (passes n m S) (passes_within n m S w)

pub passes_covers : (n m : ℕ) (S : Tile → Bool) → Covers (passes n m S) S
unfolding passes
passes_covers zero m S = λ s e. (s, e, holds_refl s)
passes_covers (suc n) m S = covers_trans (passes (suc n) m S) (passes n m S) S (merged_covers m (passes n m S)) (passes_covers n m S)

pub passes_apart : (n m : ℕ) (S : Tile → Bool) → Apart S → Apart (passes n m S)
unfolding passes
passes_apart zero m S apart = apart
passes_apart (suc n) m S apart = merged_apart m (passes n m S) (passes_apart n m S apart)

module _ (D m : ℕ) (S : Tile → Bool) (within : Within D S) where
  -- n passes leave no four siblings of a zoom > m and > D - n together
  pub no_four : (n : ℕ) (p : Tile) → m ≤ p.z → D < n + suc p.z → whole (passes n m S) p ≡ true → ⊥
  unfolding passes
  no_four zero p l h e = let v = within (child p 0 0) ((whole_all S p).0 e 0 0 (omega arith) (omega arith)) in omega (arith, v.zoom)
  no_four (suc n) p l h e = one_new m (passes n m S) p l (λ i j a b f. no_four n (child p i j) (omega arith) (omega arith) f) e

  pub still_joins : (t : Tile) → joins m (passes D m S) t ≡ false
  still_joins t =
      is_false (joins m (passes D m S) t)
      (λ e. let k = (joins_when m (passes D m S) t).0 e in no_four D (parent_tile t) (omega (arith, k.0)) (omega arith) k.1)

  -- after D passes nothing changes any more
  pub still : (t : Tile) → merged m (passes D m S) t ≡ passes D m S t
  still = merged_same m (passes D m S) still_joins
