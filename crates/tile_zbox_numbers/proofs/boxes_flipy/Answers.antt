-- `tile_zbox_numbers::boxes_flipy` meets its contract: the boxes are checked, then the memory, and then the flipped boxes are written.
use mathlib.Core.Path.{sym}
use Rattle.errors.specs.Laws.{check_fine}
use Rattle.errors.specs.Memory.{written_short, written_done}
use Rattle.tile_zbox_numbers.specs.Accepted.{accepted_all_boxes}
use Rattle.tile_zbox_numbers.specs.Boxes.{flipped_numbers}
use Rattle.tile_zbox_numbers.specs.Fives.{flipped_length}
use Rattle.tile_zbox_numbers.proofs.boxes_flipy.Goals as goal

pub returns-then-out-n : goal.returns-then-out-n
returns-then-out-n c = let a = c.args in
    let e = (check_fine c.in_ok-boxes_check.was c.boxes_check.ensures) in
    written_short (flipped_numbers a.boxes.now) a.out.now e (rw (flipped_length a.boxes.now (accepted_all_boxes _ e).whole) c.if-out-n.true)

pub flip_all-requires : goal.flip_all-requires
flip_all-requires c = record { boxes_value = (check_fine c.in_ok-boxes_check.was c.boxes_check.ensures); boxes_in_bounds = c.if-out-n.false }

pub returns : goal.returns
returns c = let a = c.args in
    let f = (check_fine c.in_ok-boxes_check.was c.boxes_check.ensures) in
    let e = flipped_length a.boxes.now (accepted_all_boxes _ f).whole in
    written_done (flipped_numbers a.boxes.now) a.out.now c.flip_all.new.out f
    (rw e c.if-out-n.false) (sym e) (rw e c.flip_all.ensures)
