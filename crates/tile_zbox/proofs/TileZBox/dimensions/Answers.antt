-- `tile_zbox::TileZBox::dimensions` meets its contract: what `check` accepts is a box.
use Rattle.tile_zbox.specs.Laws.{checked_box}
use Rattle.tile_zbox.proofs.TileZBox.dimensions.Goals as goal

pub columns-requires : goal.columns-requires
columns-requires c = checked_box _ c.in_ok-check.was c.check.ensures

pub rows-requires : goal.rows-requires
rows-requires c = checked_box _ c.in_ok-check.was c.check.ensures
