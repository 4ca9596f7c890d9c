-- `union` is the work of that name.
use mathlib.Core.Path.{◌∙◌}
use Rattle.area.proofs.Doors.{union_door}
use Rattle.area.proofs.union.Goals as goal

pub returns : goal.returns
returns c = let a = c.args in
    c.overlaid.ensures ∙ union_door a.a.now a.b.now a.out.now
