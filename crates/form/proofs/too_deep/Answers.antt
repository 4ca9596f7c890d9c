-- `too_deep` meets its contract: from a byte on, with so many brackets open, the line is too deep just where it is from its start.
use mathlib.Core.Path.{sym, ap, ◌∙◌}
use Prim.Native.Nat.{ℕ, ◌+◌}
use lib.ListN.{drop}
use Rattle.constants.specs.Limits.{max_open}
use Rattle.form.specs.Form.{too_deep}
use Rattle.form.specs.Steps.{deep_here, deep_later, deep_nowhere}
use Rattle.form.proofs.too_deep.Goals as goal

pub returns-then-depth-gt-MAX_OPEN : goal.returns-then-depth-gt-MAX_OPEN
unfolding max_open
returns-then-depth-gt-MAX_OPEN c = let e = c.open_behind-depth.ensures in
    sym (c.loop-b.invariant.1 ∙ deep_here c.args.line.now c.loop-b.b-index c.loop-b.depth c.loop-b-test.true (rw (← e) c.if-depth-gt-MAX_OPEN.true))

pub loop-b-preserved : goal.loop-b-preserved
unfolding max_open
loop-b-preserved c = let e = c.open_behind-depth.ensures in (
  c.if-depth-gt-MAX_OPEN.false,
  c.loop-b.invariant.1
      ∙ (deep_later c.args.line.now c.loop-b.b-index c.loop-b.depth c.loop-b-test.true (rw (← e) c.if-depth-gt-MAX_OPEN.false)
      ∙ ap (λ (n : ℕ). too_deep n (drop (c.loop-b.b-index + 1) c.args.line.now)) (sym e)),
)

pub returns : goal.returns
returns c = sym (c.loop-b.invariant.1 ∙ deep_nowhere c.args.line.now c.loop-b.b-index c.loop-b.depth c.loop-b-test.false)
