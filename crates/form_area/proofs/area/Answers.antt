-- `area` meets its contract: the refusals of the line, then the area of its one form.
use Rattle.errors.specs.declared.Refusal.{Refusal}
use Rattle.std.specs.Prelude.{Result}
use mathlib.Core.Path.{◌≡◌, sym, ap, subst, ◌∙◌}
use mathlib.Core.List.{List}
use Prim.Native.Nat.{ℕ, ◌≤◌}
use lib.ListN.{length, length-replicate}
use lib.Seq.{length-take-le}
use Rattle.constants.specs.Limits.{max_line, form_places}
use Rattle.errors.specs.Answer.{Answer, written}
use Rattle.errors.specs.Laws.{positive, check_fine, check_refused}
use Rattle.std.proofs.lemmas.Result.{err_from_is_err_and}
use Rattle.errors.specs.Memory.{written_refused}
use Rattle.form.specs.Form.{Form, Reads}
use Rattle.form.specs.Reading.{line_refusal}
use Rattle.form.proofs.ReadingLemmas.{line_fine}
use Rattle.form_area.specs.Area.{line_area}
use Rattle.form_area.specs.Calls.{valued, CountFits}
use Rattle.form_area.specs.Lines.{line_area_lem, line_refused}
use Rattle.form_area.proofs.area.Goals as goal
use Rattle.form_area.proofs.area.Goals.{After-value, In_ok-n, In_ok-check}

refused_nothing : (c : In_ok-check) → line_refusal c.args.line.now ≡ 0
refused_nothing c = check_fine c.in_ok-check.was c.check.ensures

fine : (c : In_ok-check) → (length c.args.line.now ≤ max_line) × ((f : Form) × Reads c.args.line.now f)
fine c = line_fine c.args.line.now (refused_nothing c)

pub value-requires : goal.value-requires
unfolding form_places
value-requires c = let f = fine (goal.at.value-requires c).In_ok-check in record { line_len_bound = f.0; spelled = f.1; list_len = length-replicate {A = ℕ} 256 0 }

count_within : (c : In_ok-n) → c.in_ok-n.n ≤ length c.value.new.list
count_within c = subst (λ (r : Result ℕ Refusal). CountFits r c.value.new.list) c.in_ok-n.was c.value.ensures.within

lined : (c : After-value) → valued c.value.result c.value.new.list ≡ line_area c.args.line.now
lined c =
    let n : line_refusal c.args.line.now ≡ 0 = check_fine c.in_ok-check.was c.check.ensures in
    let f = (line_fine c.args.line.now n).1 in
    c.value.ensures.area f.0 f.1 ∙ sym (line_area_lem c.args.line.now f.0 f.1 n)

pub slice_bounds-list-end : goal.slice_bounds-list-end
slice_bounds-list-end c = count_within (goal.at.slice_bounds-list-end c).In_ok-n

pub slice_bounds-written-end : goal.slice_bounds-written-end
slice_bounds-written-end c = sym (length-take-le c.in_ok-n.n c.value.new.list (count_within (goal.at.slice_bounds-written-end c).In_ok-n))

pub returns : goal.returns
returns c = let a = c.args in
    c.written.ensures
    ∙ ap (λ (v : Answer (List ℕ)). written v.number v.value a.out.now)
    (subst (λ (r : Result ℕ Refusal). valued r c.value.new.list ≡ line_area a.line.now)
    c.in_ok-n.was (lined (goal.at.returns c).After-value))

pub returns-in_err-n : goal.returns-in_err-n
returns-in_err-n c = let a = c.args in
    let p = err_from_is_err_and c.from_residual-in_err-n.result c.from_residual-in_err-n.ensures.1 in
    rw (p.1, p.2)
    (written_refused c.in_err-n.field-0.0 (line_area a.line.now).value a.out.now
    (ap (λ (v : Answer (List ℕ)). v.number)
    (subst (λ (r : Result ℕ Refusal). valued r c.value.new.list ≡ line_area a.line.now) c.in_err-n.was
    (lined (goal.at.returns-in_err-n c).After-value))))

pub returns-in_err-check : goal.returns-in_err-check
returns-in_err-check c = let a = c.args in
    let why = c.in_err-check.field-0.0 in
    let q = err_from_is_err_and c.from_residual.result c.from_residual.ensures.1 in
    let e = check_refused c.in_err-check.was c.check.ensures in
    let p = positive why in
    rw (q.1, q.2) (written_refused why (line_area a.line.now).value a.out.now (p.1 ∙ sym (line_refused a.line.now p.0 (sym e ∙ p.1))))
