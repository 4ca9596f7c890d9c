-- `uncovered`: the outer loop is the walk, and the inner one tests the ancestors of one tile, from the root on.
use mathlib.Core.Path.{refl, sym, ◌∙◌}
use Prim.Native.Nat.{◌-◌, ◌<◌}
use native.Mathlib.Omega.{arith}
use lib.ListN.{length, get_or}
use Rattle.constants.specs.Limits.{max_zoom_small}
use Rattle.quadtree.specs.Locations.{IsLocation}
use Rattle.quadtree.specs.Tree.{morton_small}
use Rattle.ancestors.specs.Laws.{tested_more}
use Rattle.ancestors.specs.Walk.{walk_begun, top_location, next_location, next_ahead, skipped, kept, ended}
use Rattle.ancestors.proofs.uncovered.Goals as goal
use Rattle.ancestors.proofs.uncovered.Goals.{After-slice_known-in-tiles-1}

more : (c : After-slice_known-in-tiles-1) → c.tiles.i < length c.tiles.locations
more c = omega (arith, c.tiles.invariant.long)

location : (c : After-slice_known-in-tiles-1) → IsLocation (get_or c.tiles.locations c.tiles.i 0)
location c = let s = c.requires in next_location s.tile_numbers.0 s.tile_numbers.1 s.tops c.tiles.invariant (more c)

-- the front has room for one number more
front : (c : After-slice_known-in-tiles-1) → c.tiles.count < length c.tiles.locations
front c = omega (arith, c.tiles.invariant.order, more c)

pub tiles-init : goal.tiles-init
tiles-init c = walk_begun

pub top_of-top-requires : goal.top_of-top-requires
top_of-top-requires c = let s = c.requires in
    (s.tops.numbers, next_ahead s.tile_numbers.0 s.tile_numbers.1 s.tops c.tiles.invariant (more (goal.at.top_of-top-requires c).After-slice_known-in-tiles-1))

pub offset_bounds-tops-top : goal.offset_bounds-tops-top
offset_bounds-tops-top c = omega (arith, c.top_of-top.ensures.within)

pub bounds-tops-top : goal.bounds-tops-top
bounds-tops-top c = c.top_of-top.ensures.within

pub morton-highest-requires : goal.morton-highest-requires
morton-highest-requires c = top_location c.requires.tops c.top_of-top.result c.top_of-top.ensures.within

pub morton-morton-requires : goal.morton-morton-requires
morton-morton-requires c = location (goal.at.morton-morton-requires c).After-slice_known-in-tiles-1

pub steps_to_test-steps-requires : goal.steps_to_test-steps-requires
steps_to_test-steps-requires c = let l = location (goal.at.steps_to_test-steps-requires c).After-slice_known-in-tiles-1 in
    (l, rw c.morton-morton.ensures (morton_small _ l.of_map).0)

pub loop-steps-init : goal.loop-steps-init
loop-steps-init c = c.steps_to_test-steps.ensures

pub ancestor-requires : goal.ancestor-requires
ancestor-requires c = omega (arith, c.loop-steps.invariant.few, (location (goal.at.ancestor-requires c).After-slice_known-in-tiles-1).of_map.zoom, max_zoom_small)

pub tiles-preserved-then-ancestor-highest : goal.tiles-preserved-then-ancestor-highest
tiles-preserved-then-ancestor-highest c = let s = c.requires in
    let I = c.loop-steps in
    let deeper = c.loop-steps-test.true in
    skipped s.tile_numbers.0 s.tile_numbers.1 s.tops c.tiles.invariant (more (goal.at.tiles-preserved-then-ancestor-highest c).After-slice_known-in-tiles-1) c.top_of-top.ensures
    c.morton-morton.ensures c.morton-highest.ensures refl
    (I.steps - 1) (omega (arith, deeper)) (omega (arith, deeper, I.invariant.few)) (sym c.ancestor.ensures ∙ c.if-ancestor-highest.true)

pub loop-steps-preserved : goal.loop-steps-preserved
loop-steps-preserved c = tested_more c.loop-steps.invariant (omega (arith, c.loop-steps-test.true)) (λ e. c.if-ancestor-highest.false (c.ancestor.ensures ∙ e))

pub offset_bounds-locations-count : goal.offset_bounds-locations-count
offset_bounds-locations-count c = omega (arith, front (goal.at.offset_bounds-locations-count c).After-slice_known-in-tiles-1)

pub bounds-locations-count : goal.bounds-locations-count
bounds-locations-count c = front (goal.at.bounds-locations-count c).After-slice_known-in-tiles-1

pub overflow_add-count : goal.overflow_add-count
overflow_add-count c = omega (arith, front (goal.at.overflow_add-count c).After-slice_known-in-tiles-1)

pub tiles-preserved : goal.tiles-preserved
tiles-preserved c = let s = c.requires in
    let I = c.loop-steps in
    kept s.tile_numbers.0 s.tile_numbers.1 s.tops c.tiles.invariant (more (goal.at.tiles-preserved c).After-slice_known-in-tiles-1) c.top_of-top.ensures
    c.morton-morton.ensures c.morton-highest.ensures refl I.steps c.loop-steps-test.false I.invariant

pub shape_of-locations : goal.shape_of-locations
shape_of-locations c = c.tiles.invariant.long

pub returns : goal.returns
returns c = ended c.requires.tile_numbers.0 c.tiles.invariant (omega (arith, c.tiles.invariant.long))
