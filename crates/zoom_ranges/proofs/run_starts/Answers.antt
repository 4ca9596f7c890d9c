-- `zoom_ranges::run_starts` meets its contract: bit by bit.
use Rattle.zoom_ranges.specs.EdgeBits.{run_starts_are}
use Rattle.zoom_ranges.proofs.run_starts.Goals as goal

pub returns : goal.returns
returns c = rw c.run_bits-runs.ensures (run_starts_are c.args.zset)
