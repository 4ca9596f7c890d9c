-- `tile_zbox_iter::TileZBoxIterator::next` meets its contract: what `check` accepts is a box.
use Rattle.tile_zbox.specs.Laws.{checked_box}
use Rattle.tile_zbox_iter.proofs.TileZBoxIterator.next.Goals as goal

pub step-requires : goal.step-requires
step-requires c = checked_box _ c.in_ok-check.was c.check.ensures
