-- Document 02, K2, in words: a maximal run of the zooms of a set, and two lists that have every one of them in rising order. Theorems
-- says that the lists of the answer are such.
use Rattle.std.specs.Prelude.{◌≡◌, true, false, List, ℕ, suc, ◌≤◌, ◌<◌, length, get_or}
use Rattle.zoom_ranges.specs.Ranges.{holds_zoom}

-- from its lowest zoom to its highest all are in the set, and the ones just outside are not
pub record MaximalRun (zset low high : ℕ) : Type 0 where
  pub ordered : low ≤ high
  pub held : (z : ℕ) → low ≤ z → z ≤ high → holds_zoom zset z ≡ true
  pub not_below : (z : ℕ) → suc z ≡ low → holds_zoom zset z ≡ false
  pub not_above : holds_zoom zset (suc high) ≡ false

-- one list has the lowest zooms, the other beside them the highest: at each place a maximal run, and every maximal run at a place. They
-- rise, so that none comes twice, and a zoom at least lies between one run and the next
pub record MaximalRuns (zset : ℕ) (lows highs : List ℕ) : Type 0 where
  pub as_many : length lows ≡ length highs
  pub each : (i : ℕ) → i < length lows → MaximalRun zset (get_or lows i 0) (get_or highs i 0)
  pub every : (low high : ℕ) → MaximalRun zset low high → (i : ℕ) × (i < length lows) × (get_or lows i 0 ≡ low) × (get_or highs i 0 ≡ high)
  pub rising : (i j : ℕ) → i < j → j < length lows → (get_or lows i 0 < get_or lows j 0) × (get_or highs i 0 < get_or highs j 0)
  pub apart : (i j : ℕ) → i < j → j < length lows → suc (get_or highs i 0) < get_or lows j 0
