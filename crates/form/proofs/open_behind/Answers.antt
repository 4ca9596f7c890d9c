-- `open_behind` meets its contract.
use native.Mathlib.Omega.{arith}
use Rattle.constants.specs.Limits.{max_open}
use Rattle.form.proofs.open_behind.Goals as goal

pub overflow_add-result : goal.overflow_add-result
unfolding max_open
overflow_add-result c = omega (arith, c.requires)
