-- `keys_end` meets its contract: keys are passed one by one.
use mathlib.Core.Path.{sym, subst, ◌∙◌}
use native.Mathlib.Omega.{arith}
use lib.ListN.{drop}
use Rattle.form.specs.Ends.{KeysEnds}
use Rattle.form.proofs.Keys.{passed_none, passed_some, some_key_taken, keys_closed, keys_broken, keys_past}
use Rattle.form.proofs.keys_end.Goals as goal

pub loop-at-init : goal.loop-at-init
loop-at-init c = passed_none _

pub returns-in_err-get : goal.returns-in_err-get
returns-in_err-get c =
    subst (λ e. KeysEnds e c.args.bytes.now) (sym c.from_residual.ensures) (keys_past c.loop-at.at c.args.bytes.now c.loop-at.invariant c.in_err-get.ensures.lookup.3)

pub returns-in_err-at : goal.returns-in_err-at
returns-in_err-at c =
    subst (λ e. KeysEnds e c.args.bytes.now) (sym c.from_residual-in_err-at.ensures)
    (keys_broken c.loop-at.at c.args.bytes.now c.loop-at.invariant (λ e. c.if-branch-ne41.true (c.in_ok-get.ensures.lookup.3.1 0 ∙ e))
    (sym c.key_length.ensures ∙ c.in_err-at.was))

pub overflow_add-at : goal.overflow_add-at
overflow_add-at c =
    let p = passed_some c.loop-at.at c.args.bytes.now c.loop-at.invariant _ (sym c.key_length.ensures ∙ c.in_ok-at.was) in
    omega (arith, p.within, c.well_formed)

pub loop-at-smaller : goal.loop-at-smaller
loop-at-smaller c =
    omega (arith, some_key_taken (drop c.loop-at.at c.args.bytes.now) _ (sym c.key_length.ensures ∙ c.in_ok-at.was), c.in_ok-get.ensures.lookup.3.0)

pub loop-at-preserved : goal.loop-at-preserved
loop-at-preserved c = passed_some c.loop-at.at c.args.bytes.now c.loop-at.invariant _ (sym c.key_length.ensures ∙ c.in_ok-at.was)

pub returns : goal.returns
returns c = keys_closed c.loop-at.at c.args.bytes.now c.loop-at.invariant (sym (c.in_ok-get.ensures.lookup.3.1 0) ∙ c.if-branch-ne41.false)
