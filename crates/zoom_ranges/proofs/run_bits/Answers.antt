-- `zoom_ranges::run_bits` meets its contract: a bit is in both where it is a zoom's and in the set.
use Rattle.zoom_ranges.specs.EdgeBits.{run_bits_are}
use Rattle.zoom_ranges.proofs.run_bits.Goals as goal

pub returns : goal.returns
returns c = rw c.span.ensures (run_bits_are c.args.zset)
