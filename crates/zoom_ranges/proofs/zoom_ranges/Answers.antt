-- `zoom_ranges::zoom_ranges` meets its contract: as many runs start as end, so one count serves both lists.
use mathlib.Core.Path.{◌≡◌, sym, ap, ◌∙◌}
use Prim.Native.Nat.{suc}
use native.Mathlib.Omega.{arith}
use lib.ListN.{length}
use borrow.Author.Tests.{lt-ltb, le-ltb}
use Rattle.zoom_bits.specs.Bits.{last_zoom}
use Rattle.zoom_bits.specs.Passing.{those_of_set, zooms_filled}
use Rattle.zoom_ranges.specs.Edges.{run_starts, run_ends, lows_are, highs_are}
use Rattle.zoom_ranges.specs.Listed.{as_many}
use Rattle.zoom_ranges.specs.Ranges.{holds_zoom, run_lows}
use Rattle.zoom_ranges.proofs.zoom_ranges.Goals as goal
use Rattle.zoom_ranges.proofs.zoom_ranges.Goals.{After-count_zooms-count}

-- the counted bits are the starts of the runs
count_is : (c : After-count_zooms-count) → c.count_zooms-count.result ≡ length (run_lows c.args.zset)
count_is c =
    let zset = c.args.zset in
    c.count_zooms-count.ensures
    ∙ (rw c.run_starts-starts.ensures (ap length (those_of_set (run_starts (holds_zoom zset)) (suc last_zoom) ∙ sym (lows_are zset))))

pub returns-then-lows-count : goal.returns-then-lows-count
returns-then-lows-count c = let a = c.args in
    rw (lt-ltb (length a.lows.now) (length (run_lows a.zset)) (omega (arith, count_is (goal.at.returns-then-lows-count c).After-count_zooms-count)))

pub returns-then-highs-count : goal.returns-then-highs-count
returns-then-highs-count c = let a = c.args in
    let n = count_is (goal.at.returns-then-highs-count c).After-count_zooms-count in
    rw (le-ltb (length a.lows.now) (length (run_lows a.zset)) (omega arith), lt-ltb (length a.highs.now) (length (run_lows a.zset)) (omega arith))

pub fill-requires-2 : goal.fill-requires-2
fill-requires-2 c = let a = c.args in
    rw (c.run_ends.ensures, those_of_set (run_ends (holds_zoom a.zset)) (suc last_zoom), ← highs_are a.zset, ← as_many a.zset)
    (omega (arith, count_is (goal.at.fill-requires-2 c).After-count_zooms-count))

pub returns : goal.returns
returns c = let a = c.args in
    let n = count_is (goal.at.returns c).After-count_zooms-count in
    rw (
      le-ltb (length a.lows.now) (length (run_lows a.zset)) (omega arith),
      le-ltb (length a.highs.now) (length (run_lows a.zset)) (omega arith),
      n,
      zooms_filled (run_starts (holds_zoom a.zset)) a.lows.now
          c.run_starts-starts.ensures
          c.fill.ensures,
      zooms_filled (run_ends (holds_zoom a.zset)) a.highs.now c.run_ends.ensures c.fill-2.ensures,
      ← lows_are a.zset,
      ← highs_are a.zset,
    )
