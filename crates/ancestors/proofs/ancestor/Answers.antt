-- `ancestor`: a Morton code has two bits for each zoom.
use Prim.Native.Nat.{◌+◌}
use Rattle.ids.specs.Powers.{four_side}
use Rattle.ancestors.proofs.ancestor.Goals as goal

pub returns : goal.returns
returns c = rw (four_side (c.args.steps + 1))
