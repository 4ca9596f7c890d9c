-- What is proved of ranges and runs beyond each function's promise, in document 02's words, and that the Rust computes it for the sets
-- that are held against it. Maximal says what a maximal run is, Ranges has the definitions, Rust the Rust's functions on values.
use Rattle.std.specs.Prelude.{◌≡◌, refl, true, false, List, [], ◌∷◌, ◌↔◌, ℕ, suc, ◌+◌, ◌/◌, ◌^◌, ◌≤◌, length}
use Rattle.bits.specs.Tests.{all_of}
use Rattle.zoom_bits.specs.Bits.{has_bit, those, set_of, from_to, last_zoom, turn_bit, zooms_in, set_of_zooms}
use Rattle.zoom_ranges.specs.AsRust.{runs_as_rust}
use Rattle.zoom_ranges.specs.Cover.{spread, runs_cover}
use Rattle.zoom_ranges.specs.Few.{few_runs}
use Rattle.zoom_ranges.specs.Listed.{maximal_runs}
use Rattle.zoom_ranges.specs.Maximal.{MaximalRun, MaximalRuns}
use Rattle.zoom_ranges.specs.Only.{only_these}
use Rattle.zoom_ranges.specs.Ranges.{range_of, just_below, maximal_run, runs_below, holds_zoom, runs, run_lows, run_highs, ranges_of}
use Rattle.zoom_ranges.specs.Rust.{from_max, from_min, default, walk, zoom_ranges}
use Rattle.zoom_ranges.specs.Tested.{test_says, says_test}
use Rattle.zoom_ranges.specs.Unread.{bit_31_unread}

-- ---- the runs

-- "every maximal run of the zooms 0 to 30, in rising order"
pub every_maximal_run : (zset : ℕ) → MaximalRuns zset (run_lows zset) (run_highs zset)
every_maximal_run zset = maximal_runs zset

-- no two other lists have them so
pub no_other_lists : (zset : ℕ) (lows highs : List ℕ) → MaximalRuns zset lows highs → (lows ≡ run_lows zset) × (highs ≡ run_highs zset)
no_other_lists zset lows highs such = only_these zset lows highs (run_lows zset) (run_highs zset) such (maximal_runs zset)

-- the test by which they are listed says what a maximal run is
pub the_test_says_maximal_run : (zset low high : ℕ) → (maximal_run (holds_zoom zset) low high ≡ true) ↔ MaximalRun zset low high
the_test_says_maximal_run zset low high = (test_says zset low high, says_test zset low high)

-- "still takes no notice of bit 31"
pub bit_31_changes_nothing : (zset : ℕ) (lows highs : List ℕ) → ranges_of (zset + 2 ^ turn_bit) lows highs ≡ ranges_of zset lows highs
bit_31_changes_nothing zset lows highs = rw (bit_31_unread zset) refl

-- there are 16 at most, and 16 where the set holds every second zoom from 0 to 30
pub sixteen_at_most : (zset : ℕ) → length (run_lows zset) ≤ suc (last_zoom / 2)
sixteen_at_most zset = few_runs zset

pub sixteen : (suc (last_zoom / 2) ≡ 16) × (length (run_lows 0x5555_5555) ≡ 16)
unfolding runs_below maximal_run just_below holds_zoom has_bit all_of from_to those
sixteen = (refl, refl)

-- the runs, each from its lowest to its highest zoom, one after the other, are the zooms of the set
pub runs_hold_the_zooms : (zset : ℕ) → spread (runs zset) ≡ those (holds_zoom zset) (suc last_zoom)
runs_hold_the_zooms zset = runs_cover zset

-- ---- the Rust

pub rust_ranges : (n : ℕ) → (from_max n ≡ range_of 0 n) × (from_min n ≡ range_of n last_zoom) × (default ≡ range_of 0 last_zoom)
rust_ranges n = (refl, refl, refl)

-- "Only sets holding neither 0 nor 30 are held against the Rust"
pub rust_zoom_ranges : (zset : ℕ) → has_bit zset 0 ≡ false → has_bit zset 30 ≡ false → zoom_ranges zset ≡ runs zset
unfolding holds_zoom has_bit
rust_zoom_ranges zset no-0 no-30 = runs_as_rust zset no-0 no-30

-- the others it answers otherwise. "Planners list zooms 0 to 3 and get the range 1 to 3;"
pub rust_begins_at_1 : (zoom_ranges (set_of_zooms (0 ∷ 1 ∷ 2 ∷ 3 ∷ [])) ≡ range_of 1 3 ∷ [])
    × (runs (set_of_zooms (0 ∷ 1 ∷ 2 ∷ 3 ∷ [])) ≡ range_of 0 3 ∷ [])
unfolding walk runs_below maximal_run just_below holds_zoom has_bit all_of from_to those set_of zooms_in
rust_begins_at_1 = (refl, refl)

-- of zoom 0 alone it gives no run
pub rust_leaves_out_0 : (zoom_ranges 1 ≡ []) × (runs 1 ≡ range_of 0 0 ∷ [])
unfolding walk runs_below maximal_run just_below holds_zoom has_bit all_of from_to those
rust_leaves_out_0 = (refl, refl)

-- "zoom 30 vanishes too."
pub rust_leaves_out_30 : (zoom_ranges (2 ^ 30) ≡ []) × (runs (2 ^ 30) ≡ range_of 30 30 ∷ [])
unfolding walk runs_below maximal_run just_below holds_zoom has_bit all_of from_to those
rust_leaves_out_30 = (refl, refl)
