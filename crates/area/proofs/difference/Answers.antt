-- `difference` is the work of that name.
use mathlib.Core.Path.{◌∙◌}
use Rattle.area.proofs.Doors.{difference_door}
use Rattle.area.proofs.difference.Goals as goal

pub returns : goal.returns
returns c = let a = c.args in
    c.overlaid.ensures ∙ difference_door a.a.now a.b.now a.out.now
