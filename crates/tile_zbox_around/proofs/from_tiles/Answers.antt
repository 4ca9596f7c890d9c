-- `tile_zbox_around::from_tiles` meets its contract: what `list_check` says decides.
use Rattle.errors.specs.Laws.{check_fine}
use Rattle.tile_zbox_around.specs.Laws.{accepted_one_zoom}
use Rattle.tile_zbox_around.proofs.from_tiles.Goals as goal

pub around-requires : goal.around-requires
around-requires c = let k = accepted_one_zoom _ (check_fine c.in_ok-list_check.was c.list_check.ensures) in record { list_value = k.entries; list_nonzero = k.some }

pub returns : goal.returns
returns c = rw ((check_fine c.in_ok-list_check.was c.list_check.ensures), c.around.ensures)
