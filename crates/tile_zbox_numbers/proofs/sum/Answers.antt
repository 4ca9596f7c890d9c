-- `tile_zbox_numbers::sum` meets its contract: the total and the lengths of the boxes from here on are those of all.
use mathlib.Core.Path.{◌≡◌, ap, ◌∙◌}
use mathlib.Core.List.{[]}
use Prim.Native.Nat.{◌<◌}
use native.Mathlib.Omega.{arith}
use lib.ListN.{length, get_or}
use Rattle.tile_zbox.specs.declared.TileZBox.{TileZBox}
use Rattle.tile_zbox.specs.Box.{no_box, box_length}
use Rattle.tile_zbox_numbers.specs.Accepted.{accepted_all_boxes}
use Rattle.tile_zbox_numbers.specs.Arrays.{turn_of, past_of, shallow_at, fine_at, sum_from}
use Rattle.tile_zbox_numbers.specs.Boxes.{box_from, boxes_of, sum_lengths}
use Rattle.tile_zbox_numbers.specs.Lengths.{sum_fits, sum_none}
use Rattle.tile_zbox_numbers.proofs.sum.Goals as goal
use Rattle.tile_zbox_numbers.proofs.sum.Goals.{In-loop-five, After-count-total}

-- the turn's array is the box at its place
turn : (c : In-loop-five)
    → (c.loop-five.five-index < length (boxes_of c.args.boxes.now))
    × (box_from (get_or c.fives-five-items.result.now c.loop-five.five-index []) ≡ get_or (boxes_of c.args.boxes.now) c.loop-five.five-index no_box)
turn c = turn_of _ _ c.loop-five.five-index c.fives-five-items.ensures c.loop-five-test.true

pub box_of-requires : goal.box_of-requires
box_of-requires c = let t = turn (goal.at.box_of-requires c).In-loop-five in
    let f = (accepted_all_boxes _ c.requires).fine in
    omega (arith, ap (λ (b : TileZBox). b.zoom) t.1, shallow_at (boxes_of c.args.boxes.now) c.loop-five.five-index f.shallow t.0)

pub count-total-requires : goal.count-total-requires
count-total-requires c = let t = turn (goal.at.count-total-requires c).In-loop-five in
    let f = (accepted_all_boxes _ c.requires).fine in
    rw (c.box_of.ensures ∙ t.1) (fine_at (boxes_of c.args.boxes.now) c.loop-five.five-index f t.0)

-- the box's length is the first of those that are left
length_is : (c : After-count-total) → c.count-total.result ≡ box_length (get_or (boxes_of c.args.boxes.now) c.loop-five.five-index no_box)
length_is c = let t = turn_of _ _ c.loop-five.five-index c.fives-five-items.ensures c.loop-five-test.true in
    c.count-total.ensures ∙ ap box_length (c.box_of.ensures ∙ t.1)

pub overflow_add-total : goal.overflow_add-total
overflow_add-total c = let here = goal.at.overflow_add-total c in
    let s = sum_from (boxes_of c.args.boxes.now) c.loop-five.five-index (turn here.In-loop-five).0 in
    omega (arith, length_is here.After-count-total, c.loop-five.invariant, sum_fits _ c.requires)

pub loop-five-preserved : goal.loop-five-preserved
loop-five-preserved c = let here = goal.at.loop-five-preserved c in
    let s = sum_from (boxes_of c.args.boxes.now) c.loop-five.five-index (turn here.In-loop-five).0 in
    omega (arith, length_is here.After-count-total, c.loop-five.invariant)

pub returns : goal.returns
returns c =
    let p = past_of _ _ c.loop-five.five-index c.fives-five-items.ensures c.loop-five-test.false in
    omega (arith, c.loop-five.invariant, ap sum_lengths p ∙ sum_none)
