-- The leading bytes that two keys share, a byte at a time, and which two keys are refused.
use Rattle.std.specs.Prelude.{◌≡◌, ◌↔◌, min, Bool, cond, ◌||◌, List, [], ◌∷◌, ℕ, zero, suc, ◌+◌, ◌≤◌, ◌<◌, ltb, eqb, length, take, drop, get_or}
use Rattle.std.proofs.Math.Path.{refl}
use Rattle.std.proofs.Common.{ap₂, arith, length-take, drop_of_length-le, length-take-le}
use Rattle.std.proofs.Math.Bool.{true, false, not}
use Rattle.std.proofs.Math.Decide.{dec_lt}
use Rattle.std.proofs.Math.Numerals.{add-one}
use Rattle.std.proofs.Math.Seq.{drop-cons}
use borrow.Author.Tests.{le-ltb, lt-ltb, eqb-true, eq-eqb, ne_eqb}
use Rattle.constants.specs.Limits.{max_zoom}
use Rattle.errors.specs.Answer.{◌when◌, ◌else◌}
use Rattle.quadkey.specs.Key.{all_digits_of, key_refusal}
use Rattle.quadkey.specs.Refusals.{accepted_key}
use Rattle.key_parts.specs.Parts.{shared_length, shared_refusal}

-- the refusal that is tested first over two keys, from the two keys' own numbers
module _ (a b : List ℕ) where
  pub shared_long : max_zoom < length b → shared_refusal a b ≡ 4
  shared_long h = rw (lt-ltb _ _ h) (pick (ltb max_zoom (length a)))
    where
      pick : (p : Bool) → (4 when (p || true) else 5 when (not (all_digits_of a) || not (all_digits_of b))) ≡ 4
      pick true = refl
      pick false = refl

  pub shared_first : length b ≤ max_zoom → (key_refusal a ≡ 0 → ⊥) → shared_refusal a b ≡ key_refusal a
  unfolding key_refusal
  shared_first h n = rw (le-ltb _ _ h) (pick (ltb max_zoom (length a)) (all_digits_of a) n)
    where
      pick : (p q : Bool) → ((4 when p else 5 when not q) ≡ 0 → ⊥)
          → (4 when (p || false) else 5 when (not q || not (all_digits_of b))) ≡ (4 when p else 5 when not q)
      pick true q n = refl
      pick false false n = refl
      pick false true n = absurd (n refl)

  pub shared_second : length b ≤ max_zoom → key_refusal a ≡ 0 → shared_refusal a b ≡ key_refusal b
  unfolding key_refusal
  shared_second h e = let k = accepted_key a e in rw (le-ltb _ _ h, le-ltb _ _ k.0, k.1)

-- how many leading bytes are shared from place i on, a byte at a time
pub shared_none : (a : List ℕ) → shared_length a [] ≡ 0
unfolding shared_length
shared_none [] = refl
shared_none (x ∷ a) = refl

module _ (a b : List ℕ) (i : ℕ) where
  pub shared_more : i < length a → i < length b → get_or a i 0 ≡ get_or b i 0
      → i + shared_length (drop i a) (drop i b) ≡ i + 1 + shared_length (drop (i + 1) a) (drop (i + 1) b)
  unfolding shared_length
  shared_more h k e = rw (drop-cons a i 0 h, drop-cons b i 0 k, eq-eqb _ _ e, add-one i) (omega arith)

  pub shared_stop : i < length a → i < length b → (get_or a i 0 ≡ get_or b i 0 → ⊥) → i + shared_length (drop i a) (drop i b) ≡ i
  unfolding shared_length
  shared_stop h k n = rw (drop-cons a i 0 h, drop-cons b i 0 k, ne_eqb _ _ n) (omega arith)

  pub shared_end_first : length a ≤ i → i + shared_length (drop i a) (drop i b) ≡ i
  unfolding shared_length
  shared_end_first h = rw (drop_of_length-le a h) (omega arith)

  pub shared_end_second : length b ≤ i → i + shared_length (drop i a) (drop i b) ≡ i
  shared_end_second h = rw (drop_of_length-le b h, shared_none (drop i a)) (omega arith)

-- past the end of either key nothing more is shared
pub shared_end : (a b : List ℕ) (i : ℕ) → min (length a) (length b) ≤ i → i + shared_length (drop i a) (drop i b) ≡ i
shared_end a b i h = pick (dec_lt i (length a))
  where
    pick : Dec (i < length a) → i + shared_length (drop i a) (drop i b) ≡ i
    pick (yes k) = shared_end_second a b i (omega (arith, h))
    pick (no k) = shared_end_first a b i (omega arith)

pub shared_within : (a b : List ℕ) → shared_length a b ≤ length a
unfolding shared_length
shared_within [] b = omega arith
shared_within (x ∷ a) [] = omega arith
shared_within (x ∷ a) (y ∷ b) = pick (eqb x y) (shared_within a b)
  where
    pick : (p : Bool) → shared_length a b ≤ length a → cond p (suc (shared_length a b)) 0 ≤ suc (length a)
    pick true h = omega arith
    pick false h = omega arith

-- the shared bytes are shared
pub shared_same : (a b : List ℕ) → take (shared_length a b) a ≡ take (shared_length a b) b
unfolding shared_length
shared_same [] b = refl
shared_same (x ∷ a) [] = refl
shared_same (x ∷ a) (y ∷ b) = pick (eqb x y) refl (shared_same a b)
  where
    pick : (p : Bool) → eqb x y ≡ p → take (shared_length a b) a ≡ take (shared_length a b) b
        → take (cond p (suc (shared_length a b)) 0) (x ∷ a) ≡ take (cond p (suc (shared_length a b)) 0) (y ∷ b)
    pick true q e = ap₂ (λ (m : ℕ) (l : List ℕ). m ∷ l) (eqb-true _ _ q) e
    pick false q e = refl

pub shared_within_second : (a b : List ℕ) → shared_length a b ≤ length b
shared_within_second a b =
    let l : length (take (shared_length a b) a) ≡ shared_length a b = length-take-le _ a (shared_within a b) in
    let e : length (take (shared_length a b) b) ≡ shared_length a b = rw (shared_same a b) at l in
    omega (arith, length-take (shared_length a b) b)

-- no longer part is
pub shared_longest : (n : ℕ) (a b : List ℕ) → n ≤ length a → n ≤ length b → take n a ≡ take n b → n ≤ shared_length a b
unfolding shared_length
shared_longest zero a b h k e = omega arith
shared_longest (suc n) [] b h k e = absurd (omega arith)
shared_longest (suc n) (x ∷ a) [] h k e = absurd (omega arith)
shared_longest (suc n) (x ∷ a) (y ∷ b) h k e =
    let p : x ≡ y = cc in
    let q : take n a ≡ take n b = cc in
    rw (eq-eqb _ _ p) (omega (arith, shared_longest n a b (omega arith) (omega arith) q))

-- two keys are accepted together if each is
pub shared_accepted : (a b : List ℕ) → shared_refusal a b ≡ 0 ↔ (key_refusal a ≡ 0) × (key_refusal b ≡ 0)
unfolding key_refusal
shared_accepted a b = pick (ltb max_zoom (length a)) (ltb max_zoom (length b)) (all_digits_of a) (all_digits_of b)
  where
    pick : (p q r s : Bool)
        → (4 when (p || q) else 5 when (not r || not s)) ≡ 0 ↔ ((4 when p else 5 when not r) ≡ 0) × ((4 when q else 5 when not s) ≡ 0)
    pick true q r s = (λ e. absurd (omega arith), λ e. absurd (omega arith))
    pick false true r s = (λ e. absurd (omega arith), λ e. absurd (omega arith))
    pick false false false s = (λ e. absurd (omega arith), λ e. absurd (omega arith))
    pick false false true false = (λ e. absurd (omega arith), λ e. absurd (omega arith))
    pick false false true true = (λ e. (refl, refl), λ e. refl)
