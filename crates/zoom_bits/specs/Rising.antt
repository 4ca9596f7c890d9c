-- The list of the numbers below a bound that pass a test rises, and ends below the bound.
use Rattle.std.specs.Prelude.{◌≡◌, refl, Bool, true, false, List, [], ◌∷◌, ◌++◌, ℕ, zero, suc, ◌<◌, length, get_or}
use Rattle.std.proofs.Common.{arith, length-append}
use Rattle.std.proofs.Math.Decide.{dec_lt}
use Rattle.std.proofs.Math.ListN.{get_or-append}
use Rattle.std.proofs.lemmas.List.{get_or_at}
use Rattle.zoom_bits.specs.Bits.{those}
use Rattle.zoom_bits.specs.Passing.{those_with, those_without}

-- a list with one number more at its end
module _ (l : List ℕ) (n : ℕ) where
  at_end : (k : ℕ) → k < length (l ++ (n ∷ [])) → (k < length l → ⊥) → get_or (l ++ (n ∷ [])) k 0 ≡ n
  at_end k h g = get_or_at l n [] 0 k (omega (arith, length-append l (n ∷ [])))

  pub snoc_below : ((k : ℕ) → k < length l → get_or l k 0 < n) → (k : ℕ) → k < length (l ++ (n ∷ [])) → get_or (l ++ (n ∷ [])) k 0 < suc n
  snoc_below below k h = pick (dec_lt k (length l))
    where
      pick : Dec (k < length l) → get_or (l ++ (n ∷ [])) k 0 < suc n
      pick (yes g) = rw (get_or-append l (n ∷ []) 0 k g) (omega (arith, below k g))
      pick (no g) = omega (arith, at_end k h g)

  pub snoc_rising : ((k : ℕ) → k < length l → get_or l k 0 < n) → ((j k : ℕ) → j < k → k < length l → get_or l j 0 < get_or l k 0)
      → (j k : ℕ) → j < k → k < length (l ++ (n ∷ [])) → get_or (l ++ (n ∷ [])) j 0 < get_or (l ++ (n ∷ [])) k 0
  snoc_rising below rising j k i h = pick (dec_lt k (length l))
    where
      pick : Dec (k < length l) → get_or (l ++ (n ∷ [])) j 0 < get_or (l ++ (n ∷ [])) k 0
      pick (yes g) = rw (get_or-append l (n ∷ []) 0 k g, get_or-append l (n ∷ []) 0 j (omega arith)) (rising j k i g)
      pick (no g) =
          let m = length-append l (n ∷ []) in
          rw (at_end k h g, get_or-append l (n ∷ []) 0 j (omega arith)) (below j (omega arith))

pub those_below : (has : ℕ → Bool) (n k : ℕ) → k < length (those has n) → get_or (those has n) k 0 < n
unfolding those
those_below has zero k h = absurd (omega arith)
those_below has (suc n) k h = pick (has n) refl (those_below has n) h
  where
    pick : (b : Bool) → has n ≡ b → ((k : ℕ) → k < length (those has n) → get_or (those has n) k 0 < n) → k < length (those has (suc n))
        → get_or (those has (suc n)) k 0 < suc n
    pick true e below h = rw (those_with has n e) (snoc_below (those has n) n below k (rw (those_with has n e) at h))
    pick false e below h = rw (those_without has n e) (omega (arith, below k (rw (those_without has n e) at h)))

-- the list rises strictly
pub those_rising : (has : ℕ → Bool) (n j k : ℕ) → j < k → k < length (those has n) → get_or (those has n) j 0 < get_or (those has n) k 0
unfolding those
those_rising has zero j k i h = absurd (omega arith)
those_rising has (suc n) j k i h = pick (has n) refl (those_rising has n) h
  where
    pick : (b : Bool) → has n ≡ b → ((j k : ℕ) → j < k → k < length (those has n) → get_or (those has n) j 0 < get_or (those has n) k 0)
        → k < length (those has (suc n)) → get_or (those has (suc n)) j 0 < get_or (those has (suc n)) k 0
    pick true e rising h =
        rw (those_with has n e) (snoc_rising (those has n) n (those_below has n) rising j k i (rw (those_with has n e) at h))
    pick false e rising h = rw (those_without has n e) (rising j k i (rw (those_without has n e) at h))
