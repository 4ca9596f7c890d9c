-- `tile_zbox::TileZBox::dxdy` meets its contract: what `check` accepts is a box.
use Rattle.tile_zbox.specs.Laws.{checked_box}
use Rattle.tile_zbox.proofs.TileZBox.dxdy.Goals as goal

pub overflow_sub-result : goal.overflow_sub-result
overflow_sub-result c = (checked_box _ c.in_ok-check.was c.check.ensures).columns

pub overflow_sub-result-2 : goal.overflow_sub-result-2
overflow_sub-result-2 c = (checked_box _ c.in_ok-check.was c.check.ensures).rows
