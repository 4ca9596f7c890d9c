-- `tile_zbox::TileZBox::flipy` meets its contract: what `check` accepts is a box.
use Rattle.tile_zbox.specs.Laws.{checked_box}
use Rattle.tile_zbox.proofs.TileZBox.flipy.Goals as goal

pub flipped-requires : goal.flipped-requires
flipped-requires c = checked_box _ c.in_ok-check.was c.check.ensures
