-- `tile_zbox::TileZBox::zoom_depth` meets its contract: what `check` accepts is a box.
use Rattle.tile_zbox.specs.Laws.{checked_box}
use Rattle.tile_zbox.proofs.TileZBox.zoom_depth.Goals as goal

pub zoomed-requires-clause-fact : goal.zoomed-requires-clause-fact
zoomed-requires-clause-fact c = checked_box _ c.in_ok-check.was c.check.ensures
