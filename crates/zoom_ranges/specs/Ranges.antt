-- Document 02, K2: what a maximal run of zooms is, and what `zoom_ranges` answers; document 01, "Zoom set": what a range is.
--
--   range_of low high          the zooms from low to high; lowest and highest list the ends of ranges
--   maximal_run has low high   whether the numbers from low to high are a maximal run of those that pass a test
--   runs_below has n           the maximal runs that end below n, rising
--   holds_zoom zset z          whether a set holds zoom z
--   runs zset                 the maximal runs of its zooms; run_lows and run_highs are their ends
--   ranges_of zset lows highs  what is answered, and what the two lent lists hold then
use Rattle.errors.specs.declared.Refusal.{Refusal}
use Rattle.std.specs.Prelude.{Bool, false, not, ◌&&◌, List, [], ◌++◌, map, ℕ, zero, suc, leb, length, drop, Result}
use Rattle.bits.specs.Tests.{all_of}
use Rattle.errors.specs.Answer.{short, ◌else◌}
use Rattle.errors.specs.Cases.{number_case}
use Rattle.zoom_bits.specs.Bits.{has_bit, those, last_zoom, from_to}
use Rattle.zoom_ranges.specs.declared.ZoomRange.{ZoomRange}

abbrev pub range_of : ℕ → ℕ → ZoomRange
range_of low high = record { min = low; max = high }

abbrev pub lowest : List ZoomRange → List ℕ
lowest ranges = map (λ (r : ZoomRange). r.min) ranges

abbrev pub highest : List ZoomRange → List ℕ
highest ranges = map (λ (r : ZoomRange). r.max) ranges

-- whether the number just below passes; below 0 there is none
unfoldable pub just_below : (ℕ → Bool) → ℕ → Bool
just_below has zero = false
just_below has (suc n) = has n

-- a maximal run: from its lowest number to its highest all pass, and the ones just outside do not
unfoldable pub maximal_run : (ℕ → Bool) → ℕ → ℕ → Bool
maximal_run has low high = leb low high && all_of has (from_to low high) && not (just_below has low) && not (has (suc high))

-- to each highest number the lowest ones that make a maximal run with it
unfoldable pub runs_below : (ℕ → Bool) → ℕ → List ZoomRange
runs_below has zero = []
runs_below has (suc high) = runs_below has high ++ map (λ low. range_of low high) (those (λ low. maximal_run has low high) (suc high))

-- a set holds the zooms 0 to 30 whose bits it has; bit 31 is no zoom, and turns nothing round here
unfoldable pub holds_zoom : ℕ → ℕ → Bool
holds_zoom zset z = leb z last_zoom && has_bit zset z

abbrev pub runs : ℕ → List ZoomRange
runs zset = runs_below (holds_zoom zset) (suc last_zoom)

abbrev pub run_lows : ℕ → List ℕ
run_lows zset = lowest (runs zset)

abbrev pub run_highs : ℕ → List ℕ
run_highs zset = highest (runs zset)

-- an answer beside two lists that were lent
pub record LentTwo : Type 0 where
  pub number : ℕ
  pub value : ℕ
  pub lows : List ℕ
  pub highs : List ℕ

abbrev pub left_two : Result ℕ Refusal → List ℕ → List ℕ → LentTwo
left_two r lows highs = record { number = (number_case r).number; value = (number_case r).value; lows = lows; highs = highs }

abbrev pub lent_two : ℕ → List ℕ → List ℕ → List ℕ → List ℕ → LentTwo
lent_two zero a b lows highs = record { number = 0; value = length a; lows = a ++ drop (length a) lows; highs = b ++ drop (length b) highs }
lent_two (suc n) a b lows highs = record { number = suc n; value = 0; lows = lows; highs = highs }

-- one place for each run in each list; 12 where one of them is too short
abbrev pub ranges_of : ℕ → List ℕ → List ℕ → LentTwo
ranges_of zset lows highs = lent_two (short (run_lows zset) lows else short (run_lows zset) highs) (run_lows zset) (run_highs zset) lows highs
