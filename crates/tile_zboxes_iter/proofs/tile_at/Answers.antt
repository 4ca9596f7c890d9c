-- `tile_zboxes_iter::tile_at` meets its contract: the tile stands at `place` among those of the boxes from `at` on, and each turn passes one
-- box.
use mathlib.Core.Path.{◌≡◌, refl, sym, ap, ◌∙◌}
use Prim.Native.Nat.{◌+◌, ◌-◌, ◌<◌}
use native.Mathlib.Omega.{arith}
use lib.ListN.{drop, get_or}
use borrow.Author.Rules.{rules}
use Rattle.tile.specs.OnMap.{no_tile_of}
use Rattle.tile_zbox.specs.Box.{box_length}
use Rattle.tile_zbox_iter.specs.Cursor.{kth_tile}
use Rattle.tile_zbox_numbers.specs.Boxes.{box_from, boxes_of}
use Rattle.tile_zboxes_iter.specs.Cursor.{tiles_of_all}
use Rattle.tile_zboxes_iter.specs.Laws.{AmongTiles, first_box, box_readable, tile_here, ahead_on}
use Rattle.tile_zboxes_iter.proofs.tile_at.Goals as goal
use Rattle.tile_zboxes_iter.proofs.tile_at.Goals.{In-loop-tiles, Start}

start : (c : Start) → AmongTiles c.args.boxes.now c.args.given
start c = record { boxes = c.requires.boxes_value; place = c.requires.given_in_bounds }

pub box_at-range-requires : goal.box_at-range-requires
box_at-range-requires c =
    let r = box_readable c.args.boxes.now 0 (start (goal.at.box_at-range-requires c).Start) in
    record { at_in_bounds = r.0; at_bound = r.1 }

pub count-tiles-requires : goal.count-tiles-requires
count-tiles-requires c = rw c.box_at-range.ensures (first_box (start (goal.at.count-tiles-requires c).Start)).box

pub loop-tiles-init : goal.loop-tiles-init
loop-tiles-init c = (start (goal.at.loop-tiles-init c).Start, c.box_at-range.ensures, c.count-tiles.ensures, refl)

-- what holds behind the box at `at`, which is passed
on : (c : In-loop-tiles)
    → AmongTiles (drop (c.loop-tiles.at + 5) c.args.boxes.now) (c.loop-tiles.place - c.loop-tiles.tiles)
    × (get_or (tiles_of_all (boxes_of (drop c.loop-tiles.at c.args.boxes.now))) c.loop-tiles.place no_tile_of
    ≡ get_or (tiles_of_all (boxes_of (drop (c.loop-tiles.at + 5) c.args.boxes.now))) (c.loop-tiles.place - c.loop-tiles.tiles) no_tile_of)
on c =
    let i = c.loop-tiles.invariant in
    let e = i.2 ∙ ap box_length i.1 in
    rw e (ahead_on _ c.loop-tiles.at i.0 (omega arith))

pub overflow_add-at : goal.overflow_add-at
overflow_add-at c = let r = (box_readable _ c.loop-tiles.at c.loop-tiles.invariant.0).0 in search rules

pub box_at-range-requires-in-loop-tiles : goal.box_at-range-requires-in-loop-tiles
box_at-range-requires-in-loop-tiles c =
    let r = box_readable c.args.boxes.now (c.loop-tiles.at + 5) (on (goal.at.box_at-range-requires-in-loop-tiles c).In-loop-tiles).0 in
    record { at_in_bounds = r.0; at_bound = r.1 }

pub count-tiles-requires-in-loop-tiles : goal.count-tiles-requires-in-loop-tiles
count-tiles-requires-in-loop-tiles c =
    rw c.box_at-range-in-loop-tiles.ensures (first_box (on (goal.at.count-tiles-requires-in-loop-tiles c).In-loop-tiles).0).box

pub loop-tiles-smaller : goal.loop-tiles-smaller
loop-tiles-smaller c = let r = (box_readable _ c.loop-tiles.at c.loop-tiles.invariant.0).0 in omega arith

pub loop-tiles-preserved : goal.loop-tiles-preserved
loop-tiles-preserved c = let o = on (goal.at.loop-tiles-preserved c).In-loop-tiles in
    (o.0, c.box_at-range-in-loop-tiles.ensures, c.count-tiles-in-loop-tiles.ensures, c.loop-tiles.invariant.3 ∙ o.1)

pub kth-requires : goal.kth-requires
kth-requires c = let i = c.loop-tiles.invariant in record { fact = rw i.1 (first_box i.0).box; k_bound = omega (arith, i.2) }

pub returns : goal.returns
returns c = let i = c.loop-tiles.invariant in
    let e = i.2 ∙ ap box_length i.1 in
    let h : c.loop-tiles.place < box_length (box_from (drop c.loop-tiles.at c.args.boxes.now)) = omega arith in
    c.kth.ensures ∙ (ap (λ b. kth_tile b c.loop-tiles.place) i.1 ∙ sym (i.3 ∙ tile_here i.0 h))
