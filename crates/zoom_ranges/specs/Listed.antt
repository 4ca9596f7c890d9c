-- The two lists of the answer have exactly the maximal runs, rising.
use Rattle.std.specs.Prelude.{◌≡◌, Bool, true, false, ◌⊎◌, List, ◌++◌, map, ℕ, zero, suc, ◌≤◌, ◌<◌, leb, length, get_or}
use Rattle.std.proofs.Common.{sym, ap, ◌∙◌, inl, inr, arith}
use mathlib.Core.List.Memᴰ
use mathlib.Core.List.{Memᴰ}
use Rattle.std.proofs.Math.Decide.{dec_lt}
use Rattle.std.proofs.lemmas.List.{length-map}
use Rattle.std.proofs.Math.ListN.{get_or-map}
use borrow.Author.Tests.{leb-true}
use Rattle.bits.specs.Tests.{and_parts, get_d_in, in_get_d, in_map, into_map}
use Rattle.zoom_bits.specs.Bits.{those, last_zoom}
use Rattle.zoom_bits.specs.Passing.{in_those, those_in}
use Rattle.zoom_bits.specs.Rising.{those_rising}
use Rattle.zoom_ranges.specs.Edges.{run_starts, run_ends, lows_are, highs_are}
use Rattle.zoom_ranges.specs.Maximal.{MaximalRun, MaximalRuns}
use Rattle.zoom_ranges.specs.Ranges.{range_of, maximal_run, runs_below, holds_zoom, runs, run_lows, run_highs}
use Rattle.zoom_ranges.specs.Tested.{test_says, says_test}
use Rattle.zoom_ranges.specs.declared.ZoomRange.{ZoomRange}

runs_in : (has : ℕ → Bool) (n : ℕ) (r : ZoomRange) → Memᴰ r (runs_below has n) → maximal_run has r.min r.max ≡ true
unfolding runs_below
runs_in has zero r m = absurd (Memᴰ.not-nil m)
runs_in has (suc n) r m = pick (Memᴰ.append_cases (runs_below has n) m) (runs_in has n r)
  where
    lows : List ℕ
    lows = those (λ low. maximal_run has low n) (suc n)

    pick : Memᴰ r (runs_below has n) ⊎ Memᴰ r (map (λ low. range_of low n) lows)
        → (Memᴰ r (runs_below has n) → maximal_run has r.min r.max ≡ true) → maximal_run has r.min r.max ≡ true
    pick (inl i) before = before i
    pick (inr i) before =
        let s = in_map (λ low. range_of low n) lows i in
        rw s.2 (those_in (λ low. maximal_run has low n) (suc n) s.0 s.1).1

in_runs : (has : ℕ → Bool) (n low high : ℕ) → low ≤ high → high < n → maximal_run has low high ≡ true
    → Memᴰ (range_of low high) (runs_below has n)
unfolding runs_below
in_runs has zero low high l h e = absurd (omega arith)
in_runs has (suc n) low high l h e = pick (dec_lt high n) (λ g. in_runs has n low high l g e)
  where
    lows : ℕ → List ℕ
    lows k = those (λ low. maximal_run has low k) (suc k)

    pick : Dec (high < n) → (high < n → Memᴰ (range_of low high) (runs_below has n))
        → Memᴰ (range_of low high) (runs_below has n ++ map (λ low. range_of low n) (lows n))
    pick (yes g) before = Memᴰ.append_left (map (λ low. range_of low n) (lows n)) (before g)
    pick (no g) before =
        let d : high ≡ n = omega arith in
        rw (← d)
        (Memᴰ.append_right (runs_below has high)
        (into_map (λ low. range_of low high) (lows high) (in_those (λ low. maximal_run has low high) (suc high) low (omega arith) e)))

-- a run that ends earlier ends below the other's lowest zoom, with a zoom between them
run_apart : (zset : ℕ) {a b c d : ℕ} → MaximalRun zset a b → MaximalRun zset c d → b < d → suc b < c
run_apart zset {a} {b} {c} {d} r s h = pick (dec_lt (suc b) c)
  where
    pick : Dec (suc b < c) → suc b < c
    pick (yes g) = g
    pick (no g) =
        let t : true ≡ false = sym (s.held (suc b) (omega arith) (omega arith)) ∙ r.not_above in
        let z : ◌≡◌ {A = ℕ} 0 1 = cc in absurd (omega arith)

module _ (zset : ℕ) where
  abbrev none : ZoomRange
  none = range_of 0 0

  low_at : (i : ℕ) → get_or (run_lows zset) i 0 ≡ (get_or (runs zset) i none).min
  low_at i = get_or-map (λ (r : ZoomRange). r.min) (runs zset) i none

  high_at : (i : ℕ) → get_or (run_highs zset) i 0 ≡ (get_or (runs zset) i none).max
  high_at i = get_or-map (λ (r : ZoomRange). r.max) (runs zset) i none

  pub as_many : length (run_lows zset) ≡ length (run_highs zset)
  as_many = length-map (runs zset) (λ (r : ZoomRange). r.min) ∙ sym (length-map (runs zset) (λ (r : ZoomRange). r.max))

  each : (i : ℕ) → i < length (run_lows zset) → MaximalRun zset (get_or (run_lows zset) i 0) (get_or (run_highs zset) i 0)
  each i h =
      rw (low_at i, high_at i)
      (test_says zset (get_or (runs zset) i none).min (get_or (runs zset) i none).max
      (runs_in (holds_zoom zset) (suc last_zoom) (get_or (runs zset) i none)
      (get_d_in (runs zset) i none (omega (arith, length-map (runs zset) (λ (r : ZoomRange). r.min))))))

  highest_zoom : {low high : ℕ} → MaximalRun zset low high → high ≤ last_zoom
  unfolding holds_zoom
  highest_zoom {low} {high} r = leb-true high last_zoom (and_parts (leb high last_zoom) _ (r.held high r.ordered (omega arith))).0

  every : (low high : ℕ) → MaximalRun zset low high
      → (i : ℕ) × (i < length (run_lows zset)) × (get_or (run_lows zset) i 0 ≡ low) × (get_or (run_highs zset) i 0 ≡ high)
  every low high r =
      let m = in_runs (holds_zoom zset) (suc last_zoom) low high r.ordered (omega (arith, highest_zoom r)) (says_test zset low high r) in
      let s = in_get_d (runs zset) none m in (
        s.0,
        omega (arith, s.1, length-map (runs zset) (λ (r : ZoomRange). r.min)),
        low_at s.0 ∙ ap (λ (r : ZoomRange). r.min) s.2,
        high_at s.0 ∙ ap (λ (r : ZoomRange). r.max) s.2,
      )

  lows_rise : (i j : ℕ) → i < j → j < length (run_lows zset) → get_or (run_lows zset) i 0 < get_or (run_lows zset) j 0
  lows_rise i j l h =
      rw (lows_are zset) (those_rising (run_starts (holds_zoom zset)) (suc last_zoom) i j l (rw (lows_are zset) at h))

  highs_rise : (i j : ℕ) → i < j → j < length (run_lows zset) → get_or (run_highs zset) i 0 < get_or (run_highs zset) j 0
  highs_rise i j l h =
      rw (highs_are zset) (those_rising (run_ends (holds_zoom zset)) (suc last_zoom) i j l (rw (as_many, highs_are zset) at h))

  pub maximal_runs : MaximalRuns zset (run_lows zset) (run_highs zset)
  maximal_runs = record {
    as_many = as_many;
    each = each;
    every = every;
    rising = λ i j l h. (lows_rise i j l h, highs_rise i j l h);
    apart = λ i j l h. run_apart zset (each i (omega arith)) (each j h) (highs_rise i j l h);
  }
