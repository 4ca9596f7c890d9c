-- The run that is open at a number, and the runs that ended before it, from each number to the next.
use Rattle.std.specs.Prelude.{◌≡◌, Bool, true, false, not, ◌&&◌, ℕ, zero, suc, ◌≤◌, leb}
use Rattle.std.proofs.Math.Path.{refl, ap}
use Rattle.std.proofs.Common.{◌∙◌, le_refl, arith, le-leb}
use Rattle.std.proofs.Math.Bool.{cond, and-true}
use mathlib.Core.List.{List, [], ◌∷◌, ◌++◌, map, append-nil}
use Rattle.bits.specs.Tests.{all_of}
use Rattle.zoom_bits.specs.Bits.{those, from_to}
use Rattle.zoom_bits.specs.Passing.{those_same, those_and, from_to_one, from_to_more}
use Rattle.zoom_ranges.specs.Ranges.{range_of, just_below, runs_below, maximal_run}
use Rattle.zoom_ranges.specs.declared.ZoomRange.{ZoomRange}

-- whether a run that begins at low has come to n
abbrev pub open_from : (ℕ → Bool) → ℕ → ℕ → Bool
open_from has low n = leb low n && all_of has (from_to low n) && not (just_below has low)

-- where the run begins that has come to n, if one has
unfoldable pub open_at : (ℕ → Bool) → ℕ → List ℕ
open_at has n = those (λ low. open_from has low n) (suc n)

-- the open run as a range, as if it ended at n
abbrev pub ended_at : ℕ → List ℕ → List ZoomRange
ended_at n lows = map (λ low. range_of low n) lows

all_snoc : (has : ℕ → Bool) (l : List ℕ) (n : ℕ) → all_of has (l ++ (n ∷ [])) ≡ all_of has l && has n
unfolding all_of
all_snoc has [] n = and-true (has n)
all_snoc has (a ∷ l) n = rw (all_snoc has l n) (pick (has a))
  where
    pick : (b : Bool) → (b && (all_of has l && has n)) ≡ (b && all_of has l && has n)
    pick true = refl
    pick false = refl

-- the test that comes second put last
put_last : (a b c : Bool) → (a && b && c) ≡ (a && c && b)
put_last true true true = refl
put_last true true false = refl
put_last true false true = refl
put_last true false false = refl
put_last false b c = refl

module _ (has : ℕ → Bool) where
  open_on : (low n : ℕ) → low ≤ n → open_from has low (suc n) ≡ open_from has low n && has (suc n)
  open_on low n h =
      rw (le-leb low n h, le-leb low (suc n) (omega arith), from_to_more low n (omega arith), all_snoc has (from_to low n) (suc n))
      (put_last (all_of has (from_to low n)) (has (suc n)) (not (just_below has low)))

  open_here : (n : ℕ) → open_from has n n ≡ has n && not (just_below has n)
  unfolding all_of
  open_here n = rw (le-leb n n (le_refl n), from_to_one n, and-true (has n))

  pub open_first : open_at has 0 ≡ cond (has 0) (0 ∷ []) []
  unfolding open_at those just_below
  open_first = ap (λ (b : Bool). cond b (0 ∷ []) []) (open_here 0 ∙ and-true (has 0))

  open_next : (n : ℕ) → open_at has (suc n) ≡ cond (has (suc n)) (open_at has n) [] ++ cond (has (suc n) && not (has n)) (suc n ∷ []) []
  unfolding open_at those just_below
  open_next n =
      rw (
        those_same (λ low. open_from has low (suc n)) (λ low. open_from has low n && has (suc n)) (suc n)
            (λ low l. open_on low n (omega arith)),
        those_and (λ low. open_from has low n) (has (suc n)) (suc n),
        open_here (suc n),
      )
      refl

  -- ---- from a number to the next

  pub none_open : (n : ℕ) → has n ≡ false → open_at has n ≡ []
  none_open zero e = rw e at open_first
  none_open (suc n) e = rw e at (open_next n)

  pub opens : (n : ℕ) → has n ≡ false → has (suc n) ≡ true → open_at has (suc n) ≡ suc n ∷ []
  opens n a b = rw (b, a, none_open n a) at (open_next n)

  pub stays_open : (n : ℕ) → has n ≡ true → has (suc n) ≡ true → open_at has (suc n) ≡ open_at has n
  stays_open n a b = (rw (b, a) at (open_next n)) ∙ append-nil (open_at has n)

  runs_next : (n : ℕ) → runs_below has (suc n) ≡ runs_below has n ++ ended_at n (cond (not (has (suc n))) (open_at has n) [])
  unfolding runs_below maximal_run open_at
  runs_next n = ap (λ (l : List ℕ). runs_below has n ++ ended_at n l) (those_and (λ low. open_from has low n) (not (has (suc n))) (suc n))

  pub run_ended : (n : ℕ) → has (suc n) ≡ false → runs_below has (suc n) ≡ runs_below has n ++ ended_at n (open_at has n)
  run_ended n b = rw b at (runs_next n)

  pub none_ended : (n : ℕ) → has (suc n) ≡ true → runs_below has (suc n) ≡ runs_below has n
  none_ended n b = (rw b at (runs_next n)) ∙ append-nil (runs_below has n)

  pub none_to_end : (n : ℕ) → has n ≡ false → runs_below has (suc n) ≡ runs_below has n
  none_to_end n a = pick (has (suc n)) refl
    where
      pick : (b : Bool) → has (suc n) ≡ b → runs_below has (suc n) ≡ runs_below has n
      pick true e = none_ended n e
      pick false e = run_ended n e ∙ rw (none_open n a) (append-nil (runs_below has n))

  -- a number that passes has one run open
  pub one_open : (n : ℕ) → has n ≡ true → (low : ℕ) × (low ≤ n) × (open_at has n ≡ low ∷ [])
  one_open zero e = (0, omega arith, rw e at open_first)
  one_open (suc n) e = pick (has n) refl (one_open n)
    where
      pick : (b : Bool) → has n ≡ b → (has n ≡ true → (low : ℕ) × (low ≤ n) × (open_at has n ≡ low ∷ []))
          → (low : ℕ) × (low ≤ suc n) × (open_at has (suc n) ≡ low ∷ [])
      pick true a before = let s = before a in (s.0, omega (arith, s.1), stays_open n a e ∙ s.2)
      pick false a before = (suc n, le_refl (suc n), opens n a e)
