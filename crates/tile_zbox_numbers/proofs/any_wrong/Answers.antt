-- `tile_zbox_numbers::any_wrong` meets its contract: whether any box has wrong edges is whether one of those from here on has.
use mathlib.Core.Path.{◌≡◌, sym, ap, ◌∙◌}
use mathlib.Core.List.{[]}
use Prim.Native.Nat.{◌<◌}
use native.Mathlib.Omega.{arith}
use lib.ListN.{length, get_or}
use Rattle.tile_zbox.specs.declared.TileZBox.{TileZBox}
use Rattle.tile_zbox.specs.Box.{no_box, wrong_edges}
use Rattle.bits.specs.Tests.{any_of}
use Rattle.tile_zbox_numbers.specs.Accepted.{any_of_empty}
use Rattle.tile_zbox_numbers.specs.Arrays.{turn_of, past_of, shallow_at, any_from, any_found}
use Rattle.tile_zbox_numbers.specs.Boxes.{box_from, boxes_of}
use Rattle.tile_zbox_numbers.proofs.any_wrong.Goals as goal
use Rattle.tile_zbox_numbers.proofs.any_wrong.Goals.{In-loop-five, After-wrong_edges}

-- the turn's array is the box at its place
turn : (c : In-loop-five)
    → (c.loop-five.five-index < length (boxes_of c.args.boxes.now))
    × (box_from (get_or c.fives-five-items.result.now c.loop-five.five-index []) ≡ get_or (boxes_of c.args.boxes.now) c.loop-five.five-index no_box)
turn c = turn_of _ _ c.loop-five.five-index c.fives-five-items.ensures c.loop-five-test.true

pub box_of-requires : goal.box_of-requires
box_of-requires c = let t = turn (goal.at.box_of-requires c).In-loop-five in
    omega (arith, ap (λ (b : TileZBox). b.zoom) t.1, shallow_at (boxes_of c.args.boxes.now) c.loop-five.five-index c.requires t.0)

pub wrong_edges-requires : goal.wrong_edges-requires
wrong_edges-requires c = let t = turn (goal.at.wrong_edges-requires c).In-loop-five in
    rw (c.box_of.ensures ∙ t.1) (shallow_at (boxes_of c.args.boxes.now) c.loop-five.five-index c.requires t.0)

edges : (c : After-wrong_edges) → wrong_edges (get_or (boxes_of c.args.boxes.now) c.loop-five.five-index no_box) ≡ c.wrong_edges.result
edges c = let t = turn_of _ _ c.loop-five.five-index c.fives-five-items.ensures c.loop-five-test.true in
    sym (c.wrong_edges.ensures ∙ ap wrong_edges (c.box_of.ensures ∙ t.1))

pub returns-then-wrong_edges : goal.returns-then-wrong_edges
returns-then-wrong_edges c = let here = goal.at.returns-then-wrong_edges c in
    sym (c.loop-five.invariant ∙ any_found wrong_edges (boxes_of c.args.boxes.now) c.loop-five.five-index (turn here.In-loop-five).0
    (edges here.After-wrong_edges ∙ c.if-wrong_edges.true))

pub loop-five-preserved : goal.loop-five-preserved
loop-five-preserved c = let here = goal.at.loop-five-preserved c in
    c.loop-five.invariant ∙ any_from wrong_edges (boxes_of c.args.boxes.now) c.loop-five.five-index (turn here.In-loop-five).0
    (edges here.After-wrong_edges ∙ c.if-wrong_edges.false)

pub returns : goal.returns
returns c =
    let p = past_of _ _ c.loop-five.five-index c.fives-five-items.ensures c.loop-five-test.false in
    sym (c.loop-five.invariant ∙ (ap (any_of wrong_edges) p ∙ any_of_empty wrong_edges))
