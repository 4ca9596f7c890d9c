-- `tile_zbox_numbers::boxes_length` meets its contract: what `boxes_check` says decides.
use Rattle.errors.specs.Laws.{check_fine}
use Rattle.tile_zbox_numbers.proofs.boxes_length.Goals as goal

pub sum-requires : goal.sum-requires
sum-requires c = (check_fine c.in_ok-boxes_check.was c.boxes_check.ensures)

pub returns : goal.returns
returns c = rw ((check_fine c.in_ok-boxes_check.was c.boxes_check.ensures), c.sum.ensures)
