-- `zoom_ranges::run_ends` meets its contract: bit by bit.
use Rattle.zoom_ranges.specs.EdgeBits.{run_ends_are}
use Rattle.zoom_ranges.proofs.run_ends.Goals as goal

pub returns : goal.returns
returns c = rw c.run_bits-runs.ensures (run_ends_are c.args.zset)
