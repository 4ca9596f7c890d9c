-- `is_settled` is the test alone.
use mathlib.Core.Path.{◌≡◌, subst}
use mathlib.Core.List.{[]}
use Rattle.std.proofs.lemmas.Result.{err_from_is_err_and}
use Rattle.area.proofs.Doors.{settled_refused, settled_told}
use Rattle.work.specs.Work.{told_left, outcome_of}
use Rattle.work.specs.declared.Work.TheVariants.{Tested}
use Rattle.area.proofs.is_settled.Goals as goal

pub returns-in_err-done : goal.returns-in_err-done
returns-in_err-done c =
    let p = err_from_is_err_and c.from_residual.result c.from_residual.ensures.1 in
    rw (p.1, p.2)
    (settled_refused c.args.list.now _ c.run.new.out _
    (subst (λ r. told_left r c.run.new.out ≡ outcome_of Tested 0 c.args.list.now [] _) c.in_err-done.was c.run.ensures))

pub returns : goal.returns
returns c =
    settled_told c.args.list.now _ c.run.new.out c.in_ok-done.done
    (subst (λ r. told_left r c.run.new.out ≡ outcome_of Tested 0 c.args.list.now [] _) c.in_ok-done.was c.run.ensures)
