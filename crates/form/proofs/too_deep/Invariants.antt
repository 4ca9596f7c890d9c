-- `too_deep` meets its contract: from a byte on, with so many brackets open, the line is too deep just where it is from its start.
use mathlib.Core.Path.{◌≡◌}
use Prim.Native.Nat.{◌≤◌}
use lib.ListN.{drop}
use Rattle.constants.specs.Limits.{max_open}
use Rattle.form.specs.Form.{too_deep}
use Rattle.form.proofs.too_deep.Given as goal

abbrev pub invariant-loop-b : goal.invariant-loop-b
invariant-loop-b l = (l.depth ≤ max_open) × (too_deep 0 l.line ≡ too_deep l.depth (drop l.b-index l.line))
