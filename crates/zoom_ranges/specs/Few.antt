-- There are few runs: between two of them lies a zoom that the set does not hold.
use Rattle.std.specs.Prelude.{◌≡◌, refl, Bool, true, false, cond, [], ◌∷◌, ℕ, zero, suc, ◌+◌, ◌*◌, ◌/◌, ◌≤◌, length}
use Rattle.std.proofs.Common.{arith, length-append}
use Rattle.zoom_bits.specs.Bits.{those, last_zoom}
use Rattle.zoom_bits.specs.Passing.{those_with, those_without}
use Rattle.zoom_ranges.specs.Edges.{run_starts, lows_are}
use Rattle.zoom_ranges.specs.Ranges.{just_below, holds_zoom, run_lows}

-- of two neighbours one at most starts a run, and none where the first is in the set
few_starts : (has : ℕ → Bool) (n : ℕ) → 2 * length (those (run_starts has) n) ≤ n + cond (just_below has n) 1 0
unfolding those just_below run_starts
few_starts has zero = omega arith
few_starts has (suc n) = pick (has n) refl (just_below has n) refl (few_starts has n)
  where
    more : run_starts has n ≡ true → length (those (run_starts has) (suc n)) ≡ suc (length (those (run_starts has) n))
    more e = rw (those_with (run_starts has) n e) (omega (arith, length-append (those (run_starts has) n) (n ∷ [])))

    pick : (a : Bool) → has n ≡ a → (b : Bool) → just_below has n ≡ b → 2 * length (those (run_starts has) n) ≤ n + cond b 1 0
        → 2 * length (those (run_starts has) (suc n)) ≤ suc n + cond a 1 0
    pick true ea true eb i = rw (those_without (run_starts has) n (rw (ea, eb))) (omega (arith, i))
    pick true ea false eb i = omega (arith, i, more (rw (ea, eb)))
    pick false ea true eb i = rw (those_without (run_starts has) n (rw ea)) (omega (arith, i))
    pick false ea false eb i = rw (those_without (run_starts has) n (rw ea)) (omega (arith, i))

pub few_runs : (zset : ℕ) → length (run_lows zset) ≤ suc (last_zoom / 2)
few_runs zset = rw (lows_are zset) (pick (just_below (holds_zoom zset) (suc last_zoom)) (few_starts (holds_zoom zset) (suc last_zoom)))
  where
    pick : (b : Bool) → 2 * length (those (run_starts (holds_zoom zset)) (suc last_zoom)) ≤ suc last_zoom + cond b 1 0
        → length (those (run_starts (holds_zoom zset)) (suc last_zoom)) ≤ suc (last_zoom / 2)
    pick true i = omega (arith, i)
    pick false i = omega (arith, i)
