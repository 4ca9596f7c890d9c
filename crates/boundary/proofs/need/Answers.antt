-- `need`: the sums are small.
use native.Mathlib.Omega.{arith}
use Rattle.constants.specs.Limits.{max_entries}
use Rattle.boundary.proofs.need.Goals as goal

pub overflow_add-n : goal.overflow_add-n
unfolding max_entries
overflow_add-n c = omega (arith, c.requires.0, c.requires.1)
