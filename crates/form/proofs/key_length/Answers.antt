-- `key_length` meets its contract: a space, then the run behind it.
use mathlib.Core.Path.{◌≡◌, sym, ap, ◌∙◌}
use native.Mathlib.Omega.{arith}
use lib.ListN.{drop, length-drop}
use Prim.Native.Nat.{◌+◌}
use Rattle.form.specs.Ends.{rest_part}
use Rattle.form.specs.Words.{run_length_of}
use Rattle.form.specs.Steps.{key_past, key_not_there, no_key_there, some_key_there}
use Rattle.form.proofs.Keys.{run_within}
use Rattle.form.proofs.key_length.Goals as goal
use Rattle.form.proofs.key_length.Goals.{After-run_length-n}

-- the run that was counted
counted : (c : After-run_length-n) → c.run_length-n.result ≡ run_length_of (drop (c.args.at + 1) c.args.bytes.now)
counted c = c.run_length-n.ensures ∙ ap run_length_of (rest_part c.args.bytes.now (c.args.at + 1))

pub returns-in_err-get : goal.returns-in_err-get
returns-in_err-get c = c.from_residual.ensures ∙ sym (key_past c.args.bytes.now c.args.at c.in_err-get.ensures.lookup.3)

pub returns-then-branch-ne32 : goal.returns-then-branch-ne32
returns-then-branch-ne32 c =
    sym (key_not_there c.args.bytes.now c.args.at (λ e. c.if-branch-ne32.true (c.in_ok-get.ensures.lookup.3.1 0 ∙ e)))

pub overflow_add-result : goal.overflow_add-result
overflow_add-result c = let b = c.args.bytes.now in
    omega (arith, counted (goal.at.overflow_add-result c).After-run_length-n, run_within (drop (c.args.at + 1) b), length-drop (c.args.at + 1) b, c.in_ok-get.ensures.lookup.3.0, c.well_formed)

pub returns-then-n-eq0 : goal.returns-then-n-eq0
returns-then-n-eq0 c =
    sym (no_key_there c.args.bytes.now c.args.at (sym (c.in_ok-get.ensures.lookup.3.1 0) ∙ c.if-branch-ne32.false)
    (sym (counted (goal.at.returns-then-n-eq0 c).After-run_length-n) ∙ c.if-n-eq0.true))

pub returns-else-n-eq0 : goal.returns-else-n-eq0
returns-else-n-eq0 c =
    some_key_there c.args.bytes.now c.args.at _ (sym (c.in_ok-get.ensures.lookup.3.1 0) ∙ c.if-branch-ne32.false)
    (counted (goal.at.returns-else-n-eq0 c).After-run_length-n) c.if-n-eq0.false
