-- `simplify` is the work of that name.
use mathlib.Core.Path.{◌∙◌}
use Rattle.merge.proofs.Doors.{simplify_door}
use Rattle.merge.proofs.simplify.Goals as goal

pub returns : goal.returns
returns c = let m = c.unwrap_or-m in
    let a = c.args in
    rw (← m.ensures) (c.simplified.ensures ∙ simplify_door m.result a.list.now a.out.now)
