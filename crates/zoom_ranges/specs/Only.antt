-- No two other lists have every maximal run in rising order: at each place they would have the same one.
use Rattle.std.specs.Prelude.{◌≡◌, refl, List, ℕ, zero, suc, ◌≤◌, ◌<◌, length, get_or}
use Rattle.std.proofs.Common.{sym, ap, ◌∙◌, arith, ext_get_or}
use Rattle.std.proofs.Math.Decide.{dec_lt}
use Rattle.zoom_ranges.specs.Maximal.{MaximalRuns}

-- in a list that rises, a smaller number stands earlier
earlier : (l : List ℕ) → ((i j : ℕ) → i < j → j < length l → get_or l i 0 < get_or l j 0)
    → (i j : ℕ) → i < length l → get_or l i 0 < get_or l j 0 → i < j
earlier l rising i j h less = pick (dec_lt i j) (dec_lt j i)
  where
    pick : Dec (i < j) → Dec (j < i) → i < j
    pick (yes g) k = g
    pick (no g) (yes k) = absurd (omega (arith, rising j i k h))
    pick (no g) (no k) = let e : i ≡ j = omega arith in absurd (omega (arith, ap (λ (n : ℕ). get_or l n 0) e))

module _ (zset : ℕ) (a b c d : List ℕ) (one : MaximalRuns zset a b) (other : MaximalRuns zset c d) where
  -- where a run of the one stands in the other
  found : (i : ℕ) → i < length a → (j : ℕ) × (j < length c) × (get_or c j 0 ≡ get_or a i 0) × (get_or d j 0 ≡ get_or b i 0)
  found i h = other.every (get_or a i 0) (get_or b i 0) (one.each i h)

  -- not earlier, since those before it stand before it
  found_ahead : (i : ℕ) (h : i < length a) → i ≤ (found i h).0
  found_ahead zero h = omega arith
  found_ahead (suc i) h =
      let p = found i (omega arith) in
      let q = found (suc i) h in
      let less = (one.rising i (suc i) (omega arith) h).0 in
      let before = earlier c (λ m n l k. (other.rising m n l k).0) p.0 q.0 p.1 (omega (arith, less, p.2, q.2)) in
      omega (arith, before, found_ahead i (omega arith))

-- a number stands in a list that rises once
once : (l : List ℕ) → ((i j : ℕ) → i < j → j < length l → get_or l i 0 < get_or l j 0)
    → (i j : ℕ) → i < length l → j < length l → get_or l i 0 ≡ get_or l j 0 → i ≡ j
once l rising i j h k e = pick (dec_lt i j) (dec_lt j i)
  where
    pick : Dec (i < j) → Dec (j < i) → i ≡ j
    pick (yes g) n = absurd (omega (arith, rising i j g k))
    pick (no g) (yes n) = absurd (omega (arith, rising j i n h))
    pick (no g) (no n) = omega arith

module _ (zset : ℕ) (a b c d : List ℕ) (one : MaximalRuns zset a b) (other : MaximalRuns zset c d) where
  -- looked for in the other, and from there in the one, a run is where it was
  found_here : (i : ℕ) (h : i < length a) → (found zset a b c d one other i h).0 ≡ i
  found_here i h =
      let p = found zset a b c d one other i h in
      let q = found zset c d a b other one p.0 p.1 in
      let back = once a (λ m n l k. (one.rising m n l k).0) q.0 i q.1 h (q.2 ∙ p.2) in
      omega (arith, back, found_ahead zset a b c d one other i h, found_ahead zset c d a b other one p.0 p.1)

  same_low : (i : ℕ) → i < length a → get_or a i 0 ≡ get_or c i 0
  same_low i h = sym (ap (λ (n : ℕ). get_or c n 0) (sym (found_here i h)) ∙ (found zset a b c d one other i h).2)

  same_high : (i : ℕ) → i < length a → get_or b i 0 ≡ get_or d i 0
  same_high i h = sym (ap (λ (n : ℕ). get_or d n 0) (sym (found_here i h)) ∙ (found zset a b c d one other i h).3)

  not_longer : length a ≤ length c
  not_longer = pick (length a) refl
    where
      pick : (n : ℕ) → length a ≡ n → n ≤ length c
      pick zero e = omega arith
      pick (suc n) e =
          let h : n < length a = omega arith in
          omega (arith, found_here n h, (found zset a b c d one other n h).1)

pub only_these : (zset : ℕ) (a b c d : List ℕ) → MaximalRuns zset a b → MaximalRuns zset c d → (a ≡ c) × (b ≡ d)
only_these zset a b c d one other =
    let e = not_longer zset a b c d one other in
    let f = not_longer zset c d a b other one in (
      ext_get_or 0 a c (omega arith) (same_low zset a b c d one other),
      ext_get_or 0 b d (omega (arith, one.as_many, other.as_many))
          (λ i h. same_high zset a b c d one other i (omega (arith, one.as_many))),
    )
