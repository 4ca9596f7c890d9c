-- `key_parts::shared_check` meets its contract: once the second key is short enough, the first key's number decides, then the second's.
use Rattle.std.proofs.Common.{rules, sym, ◌∙◌}
use Rattle.constants.specs.Limits.{max_zoom}
use Rattle.errors.specs.Laws.{check_fine, check_refused, never_zero}
use Rattle.key_parts.specs.Shared.{shared_long, shared_first, shared_second}
use Rattle.key_parts.proofs.shared_check.Goals as goal

pub returns-then-b : goal.returns-then-b
unfolding max_zoom
returns-then-b c = sym (shared_long c.args.a.now c.args.b.now c.if-b.true)

pub returns-in_err-check : goal.returns-in_err-check
unfolding max_zoom
returns-in_err-check c =
    let e = check_refused c.in_err-check.was c.check.ensures in
    let first = shared_first c.args.a.now c.args.b.now c.if-b.false (λ z. never_zero c.in_err-check.field-0.0 (e ∙ z)) in
    rw first (search rules)

pub returns : goal.returns
unfolding max_zoom
returns c = c.check-2.ensures ∙ sym (shared_second _ _ c.if-b.false (check_fine c.in_ok-check.was c.check.ensures))
