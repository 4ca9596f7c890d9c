-- Where runs start and end: these numbers are the lists of the lowest and the highest zooms.
use Rattle.std.specs.Prelude.{◌≡◌, Bool, not, ◌&&◌}
use Rattle.std.proofs.Math.Path.{refl}
use Rattle.std.proofs.Common.{sym, ap, ◌∙◌, arith}
use Rattle.std.proofs.Math.Bool.{true, false, and-true}
use mathlib.Core.List.{List, [], ◌∷◌, ◌++◌, map-append, append-nil}
use Prim.Native.Nat.{ℕ, zero, suc, ◌<◌}
use Rattle.std.proofs.lemmas.Bool.{lt-leb}
use Rattle.zoom_bits.specs.Bits.{those, last_zoom}
use Rattle.zoom_bits.specs.Passing.{those_with, those_without}
use Rattle.zoom_ranges.specs.Open.{open_at, ended_at, open_first, none_open, one_open, opens, stays_open}
use Rattle.zoom_ranges.specs.Open.{run_ended, none_ended, none_to_end}
use Rattle.zoom_ranges.specs.Ranges.{range_of, lowest, highest, just_below, runs_below, holds_zoom, run_lows, run_highs}
use Rattle.zoom_ranges.specs.declared.ZoomRange.{ZoomRange}

-- a run starts at a number that passes with none just below, and ends at one with none just above
unfoldable pub run_starts : (ℕ → Bool) → ℕ → Bool
run_starts has n = has n && not (just_below has n)

unfoldable pub run_ends : (ℕ → Bool) → ℕ → Bool
run_ends has n = has n && not (has (suc n))

lowest_ended : (n : ℕ) (lows : List ℕ) → lowest (ended_at n lows) ≡ lows
lowest_ended n [] = refl
lowest_ended n (a ∷ l) = ap (λ (s : List ℕ). a ∷ s) (lowest_ended n l)

module _ (has : ℕ → Bool) where
  pub start_first : run_starts has 0 ≡ has 0
  unfolding run_starts just_below
  start_first = and-true (has 0)

  pub start_next : (n : ℕ) → run_starts has (suc n) ≡ has (suc n) && not (has n)
  unfolding run_starts just_below
  start_next n = refl

  -- the runs that start up to n are those that ended before it, and the one that is open there
  pub starts_are_lowest : (n : ℕ) → lowest (runs_below has n) ++ open_at has n ≡ those (run_starts has) (suc n)
  unfolding runs_below those
  starts_are_lowest zero = open_first has ∙ rw start_first refl
  starts_are_lowest (suc n) = pick (has n) refl (has (suc n)) refl (starts_are_lowest n)
    where
      pick : (a : Bool) → has n ≡ a → (b : Bool) → has (suc n) ≡ b
          → lowest (runs_below has n) ++ open_at has n ≡ those (run_starts has) (suc n)
          → lowest (runs_below has (suc n)) ++ open_at has (suc n) ≡ those (run_starts has) (suc (suc n))
      pick true ea true eb i =
          rw (none_ended has n eb, stays_open has n ea eb, those_without (run_starts has) (suc n) (start_next n ∙ rw (eb, ea))) i
      pick true ea false eb i =
          rw (
            run_ended has n eb,
            none_open has (suc n) eb,
            append-nil,
            map-append (λ (r : ZoomRange). r.min) (runs_below has n) (ended_at n (open_at has n)),
            lowest_ended n (open_at has n),
            those_without (run_starts has) (suc n) (start_next n ∙ rw eb),
          )
          i
      pick false ea true eb i =
          rw (none_ended has n eb, opens has n ea eb, those_with (run_starts has) (suc n) (start_next n ∙ rw (eb, ea)))
          (ap (λ (l : List ℕ). l ++ (suc n ∷ [])) (rw (none_open has n ea, append-nil) at i))
      pick false ea false eb i =
          rw (none_to_end has n ea, none_open has (suc n) eb, those_without (run_starts has) (suc n) (start_next n ∙ rw eb))
          (rw (none_open has n ea) at i)

  pub ends_are_highest : (n : ℕ) → highest (runs_below has n) ≡ those (run_ends has) n
  unfolding runs_below those run_ends
  ends_are_highest zero = refl
  ends_are_highest (suc n) = pick (has n) refl (has (suc n)) refl (ends_are_highest n)
    where
      pick : (a : Bool) → has n ≡ a → (b : Bool) → has (suc n) ≡ b → highest (runs_below has n) ≡ those (run_ends has) n
          → highest (runs_below has (suc n)) ≡ those (run_ends has) (suc n)
      pick true ea true eb i = rw (none_ended has n eb, those_without (run_ends has) n (rw (ea, eb))) i
      pick true ea false eb i =
          rw (
            run_ended has n eb,
            (one_open has n ea).2,
            map-append (λ (r : ZoomRange). r.max) (runs_below has n) (range_of (one_open has n ea).0 n ∷ []),
            i,
            those_with (run_ends has) n (rw (ea, eb)),
          )
          refl
      pick false ea b eb i = rw (none_to_end has n ea, those_without (run_ends has) n (rw ea)) i

pub past_last_zoom : (zset z : ℕ) → last_zoom < z → holds_zoom zset z ≡ false
unfolding holds_zoom
past_last_zoom zset z h = rw (lt-leb z last_zoom h)

pub lows_are : (zset : ℕ) → run_lows zset ≡ those (run_starts (holds_zoom zset)) (suc last_zoom)
lows_are zset =
    let none = past_last_zoom zset (suc last_zoom) (omega arith) in
    sym (append-nil (run_lows zset))
    ∙ ((rw (none_open (holds_zoom zset) (suc last_zoom) none) at (starts_are_lowest (holds_zoom zset) (suc last_zoom)))
    ∙ those_without (run_starts (holds_zoom zset)) (suc last_zoom) (start_next (holds_zoom zset) last_zoom ∙ rw none))

pub highs_are : (zset : ℕ) → run_highs zset ≡ those (run_ends (holds_zoom zset)) (suc last_zoom)
highs_are zset = ends_are_highest (holds_zoom zset) (suc last_zoom)
