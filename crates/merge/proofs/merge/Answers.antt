-- `merge` is the work of that name.
use mathlib.Core.Path.{◌≡◌, subst}
use mathlib.Core.List.{[]}
use Rattle.std.proofs.lemmas.Result.{err_from_is_err_and}
use Rattle.merge.proofs.Doors.{merge_refused, merge_found}
use Rattle.work.specs.Work.{told_left, outcome_of}
use Rattle.work.specs.declared.Simplification.TheVariants.{Merge}
use Rattle.work.specs.declared.Work.TheVariants.{Simplified}
use Rattle.merge.proofs.merge.Goals as goal

pub returns-in_err-done : goal.returns-in_err-done
returns-in_err-done c = let a = c.args in
    let m = c.unwrap_or-m in
    let p = err_from_is_err_and c.from_residual.result c.from_residual.ensures.1 in
    rw (p.1, p.2, ← m.ensures)
    (merge_refused m.result a.list.now a.out.now c.run.new.out _
    (subst (λ r. told_left r c.run.new.out ≡ outcome_of (Simplified Merge) m.result a.list.now [] a.out.now) c.in_err-done.was c.run.ensures))

pub returns : goal.returns
returns c = let a = c.args in
    let m = c.unwrap_or-m in
    rw (← m.ensures)
    (merge_found m.result a.list.now a.out.now c.run.new.out c.in_ok-done.done
    (subst (λ r. told_left r c.run.new.out ≡ outcome_of (Simplified Merge) m.result a.list.now [] a.out.now) c.in_ok-done.was c.run.ensures))
