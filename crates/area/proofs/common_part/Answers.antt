-- `common_part` is the work of that name.
use mathlib.Core.Path.{◌∙◌}
use Rattle.area.proofs.Doors.{common_door}
use Rattle.area.proofs.common_part.Goals as goal

pub returns : goal.returns
returns c = let a = c.args in
    c.overlaid.ensures ∙ common_door a.a.now a.b.now a.out.now
