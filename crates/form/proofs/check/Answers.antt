-- `check` meets its contract: the refusals in the order of their tests.
use mathlib.Core.Path.{sym, ◌∙◌}
use Rattle.constants.specs.Limits.{max_line}
use Rattle.form.proofs.ReadingLemmas.{line_too_long, line_too_deep, line_in_limits}
use Rattle.form.proofs.check.Goals as goal

pub returns-then-line-gt-MAX_LINE : goal.returns-then-line-gt-MAX_LINE
unfolding max_line
returns-then-line-gt-MAX_LINE c = sym (line_too_long _ c.if-line-gt-MAX_LINE.true)

pub returns-then-too_deep : goal.returns-then-too_deep
unfolding max_line
returns-then-too_deep c = sym (line_too_deep _ c.if-line-gt-MAX_LINE.false (sym c.too_deep.ensures ∙ c.if-too_deep.true))

pub returns : goal.returns
unfolding max_line
returns c = c.whole.ensures ∙ sym (line_in_limits _ c.if-line-gt-MAX_LINE.false (sym c.too_deep.ensures ∙ c.if-too_deep.false))
