-- `run` is safe and ends: the buffers have room for a line and for the longest answer.
use Rattle.std.proofs.Common.{refl, arith}
use Rattle.constants.specs.Limits.{form_places, max_line}
use Rattle.form_line.specs.Longest.{longest}
use Rattle.areas.proofs.run.Goals as goal

pub loop-init : goal.loop-init
unfolding max_line
loop-init g c = (refl, refl)

pub take_in-requires : goal.take_in-requires
unfolding longest form_places
take_in-requires g c = (omega (arith, c.loop.invariant.0), c.loop.invariant.1)
