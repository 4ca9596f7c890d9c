-- `tile_zbox::TileZBox::length` meets its contract: what `check` accepts is a box.
use Rattle.tile_zbox.specs.Laws.{checked_box}
use Rattle.tile_zbox.proofs.TileZBox.length.Goals as goal

pub count-requires : goal.count-requires
count-requires c = checked_box _ c.in_ok-check.was c.check.ensures
