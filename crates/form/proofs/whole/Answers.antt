-- `whole` meets its contract: a form that ends where the line does is its reading.
use Rattle.std.specs.Prelude.{Option, Some, None, ℕ, Err}
use mathlib.Core.Path.{◌≡◌, sym, ap, subst, ◌∙◌}
use native.Mathlib.Omega.{arith}
use Rattle.errors.specs.declared.Refusal.TheVariants.{NoForm}
use Rattle.std.proofs.Common.{rules}
use Rattle.std.specs.Option.{ok_or}
use Rattle.errors.specs.declared.Refusal.{Refusal}
use Rattle.form.specs.Ends.{FormEnds}
use Rattle.form.proofs.ReadingLemmas.{whole_line, part_of_line, no_reading, whole_fine, whole_refused}
use Rattle.form.proofs.whole.Goals as goal
use Rattle.form.proofs.whole.Goals.{In_ok-n}

-- the refusal of what has no end
why_no_form : (why : Refusal) (end : Option ℕ) → Err why ≡ ok_or end NoForm → end ≡ None → why ≡ NoForm
why_no_form why end e f = let g : Err why ≡ Err NoForm = e ∙ ap (λ (o : Option ℕ). ok_or o NoForm) f in cc

pub returns-in_err-n : goal.returns-in_err-n
returns-in_err-n c = let l = c.args.line.now in
    let refused = whole_refused l (no_reading l (subst (λ e. FormEnds e l) c.in_err-n.ensures.ok_part c.form_end.ensures)) in
    let v : c.in_err-n.field-0.0 ≡ NoForm = let e = c.in_err-n.ensures.value in let f = c.in_err-n.ensures.ok_part in why_no_form _ _ e f in
    rw refused (search (rules, v))

there : (c : In_ok-n) → FormEnds (Some c.in_ok-n.n) c.args.line.now
there c = subst (λ e. FormEnds e c.args.line.now) c.in_ok-n.ensures.ok_part c.form_end.ensures

pub returns-then-n-line : goal.returns-then-n-line
returns-then-n-line c = let l = c.args.line.now in
    sym (whole_refused l (part_of_line l c.in_ok-n.n (there (goal.at.returns-then-n-line c).In_ok-n) (λ e. omega (arith, e, c.if-n-line.true))))

pub returns : goal.returns
returns c = let l = c.args.line.now in let n = c.in_ok-n.n in
    let e = there (goal.at.returns c).In_ok-n in sym (whole_fine l e.1.0 (whole_line l n e (omega (arith, e.0, c.if-n-line.false))))
