-- `parent::above` meets its contract: `parent` is refused only above the root.
use Rattle.std.proofs.Common.{sym, ap, ◌∙◌}
use Rattle.parent.specs.Laws.{tile_above, above_parent}
use Rattle.parent.proofs.above.Goals as goal

pub returns-in-Ok : goal.returns-in-Ok
returns-in-Ok c = sym (ap tile_above c.in-Ok.is) ∙ above_parent _ _ _ c.requires c.parent.result c.parent.ensures

pub returns-in-Err : goal.returns-in-Err
returns-in-Err c = sym (ap tile_above c.in-Err.is) ∙ above_parent _ _ _ c.requires c.parent.result c.parent.ensures
