-- `tile_zbox_numbers::flip_all` meets its contract: the boxes before this one stand flipped at the front of the memory.
use mathlib.Core.Path.{◌≡◌, ap, ◌∙◌}
use mathlib.Core.List.{[]}
use Prim.Native.Nat.{◌<◌, ◌*◌, ◌/◌}
use native.Mathlib.Omega.{arith}
use lib.ListN.{length, get_or}
use Rattle.tile_zbox.specs.declared.TileZBox.{TileZBox}
use lib.Seq.{take_all}
use Rattle.tile_zbox.specs.Box.{no_box, flipped}
use Rattle.errors.specs.Memory.{front_length}
use Rattle.tile_zbox_numbers.specs.Accepted.{accepted_all_boxes}
use Rattle.tile_zbox_numbers.specs.Arrays.{turn_of, fives_count, shallow_at, fine_at, flip_at}
use Rattle.tile_zbox_numbers.specs.Boxes.{box_from, boxes_of, flipped_numbers}
use Rattle.tile_zbox_numbers.specs.Fives.{flipped_length}
use Rattle.tile_zbox_numbers.proofs.flip_all.Goals as goal
use Rattle.tile_zbox_numbers.proofs.flip_all.Goals.{In-loop-k, At-loop-k}

-- the turn's array is the box at its place
turn : (c : In-loop-k)
    → (c.loop-k.k < length (boxes_of c.args.boxes.now))
    × (box_from (get_or c.fives-five-items.result.now c.loop-k.k []) ≡ get_or (boxes_of c.args.boxes.now) c.loop-k.k no_box)
turn c = turn_of _ _ c.loop-k.k c.fives-five-items.ensures c.loop-k-test.true

-- as many arrays as whole fives, and the memory keeps its length
arrays : (c : At-loop-k) → length c.fives-five-items.result.now ≡ length c.args.boxes.now / 5
arrays c = ap (λ x. length x) c.fives-five-items.ensures ∙ fives_count (length c.args.boxes.now / 5) c.args.boxes.now

kept : (c : At-loop-k) → length c.loop-k.out ≡ length c.args.out.now
kept c =
    let a = c.args in
    let g = flipped_length a.boxes.now (accepted_all_boxes _ c.requires.boxes_value).whole in
    let n = arrays c in
    ap length c.loop-k.invariant
    ∙ front_length (5 * c.loop-k.k) (flipped_numbers a.boxes.now) a.out.now (omega (arith, c.loop-k.auto.k-end))
    (omega (arith, c.loop-k.auto.k-end, c.requires.boxes_in_bounds))

pub box_of-requires : goal.box_of-requires
box_of-requires c = let t = turn (goal.at.box_of-requires c).In-loop-k in
    let f = (accepted_all_boxes _ c.requires.boxes_value).fine in
    omega (arith, ap (λ (b : TileZBox). b.zoom) t.1, shallow_at (boxes_of c.args.boxes.now) c.loop-k.k f.shallow t.0)

pub flipped-requires : goal.flipped-requires
flipped-requires c = let t = turn (goal.at.flipped-requires c).In-loop-k in
    let f = (accepted_all_boxes _ c.requires.boxes_value).fine in
    rw (c.box_of.ensures ∙ t.1) (fine_at (boxes_of c.args.boxes.now) c.loop-k.k f t.0)

pub put-requires : goal.put-requires
put-requires c = let here = goal.at.put-requires c in
    omega (arith, kept here.At-loop-k, arrays here.At-loop-k, c.loop-k-test.true, c.requires.boxes_in_bounds)

pub loop-k-preserved : goal.loop-k-preserved
loop-k-preserved c = let a = c.args in
    let t = turn (goal.at.loop-k-preserved c).In-loop-k in
    let k = accepted_all_boxes _ c.requires.boxes_value in
    let w = c.flipped.ensures ∙ ap flipped (c.box_of.ensures ∙ t.1) in
    c.put.ensures ∙ rw (w, c.loop-k.invariant) (flip_at a.boxes.now a.out.now c.loop-k.k t.0 k.whole c.requires.boxes_in_bounds)

pub shape_of-out : goal.shape_of-out
shape_of-out c = kept (goal.at.shape_of-out c).At-loop-k

pub returns : goal.returns
returns c = let l = c.args.boxes.now in
    let w = (accepted_all_boxes _ c.requires.boxes_value).whole in
    let g = flipped_length l w in
    let n = arrays (goal.at.returns c).At-loop-k in
    let e : 5 * c.loop-k.k ≡ length l = omega (arith, c.loop-k.auto.k-end, c.loop-k-test.false) in
    c.loop-k.invariant ∙ rw (e, take_all (length l) (flipped_numbers l) (omega arith))
