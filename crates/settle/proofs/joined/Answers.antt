-- `joined`: what joining leaves of the present stack is what it leaves of the first.
use mathlib.Core.Path.{sym, ◌∙◌}
use mathlib.Core.Bool.{true≢false}
use native.Mathlib.Omega.{arith}
use Rattle.quadtree.specs.Numbers.{location_tile}
use Rattle.tile.specs.declared.Tile.{Tile}
use Rattle.quadtree.specs.Locations.{room, tiles}
use Rattle.settle.specs.Settle.{Family, stop, join}
use Rattle.settle.specs.Siblings.{siblings_fit, parent, join_stand}
use Rattle.settle.proofs.joined.Goals as goal
use Rattle.settle.proofs.joined.Goals.{In-loop-top}

-- the family that the test found
found : (c : In-loop-top)
    → (p : Tile) × Family c.args.m (tiles c.args.locations.now)
    c.loop-top.left (location_tile c.loop-top.top) p
found c = c.family.ensures.0 c.loop-top-test.true

pub loop-top-init : goal.loop-top-init
loop-top-init c = (c.requires, λ c j r. r)

pub family-requires : goal.family-requires
family-requires c = c.loop-top.invariant.0

pub low_bit-requires : goal.low_bit-requires
low_bit-requires c = c.loop-top.invariant.0.top

pub overflow_mul-top : goal.overflow_mul-top
overflow_mul-top c = omega (arith, room c.loop-top.invariant.0.top c.low_bit.ensures)

pub overflow_sub-top : goal.overflow_sub-top
overflow_sub-top c = let s = c.loop-top.invariant.0 in
    let f = found (goal.at.overflow_sub-top c).In-loop-top in
    omega (arith, siblings_fit 0 _ _ _ c.low_bit.result s c.low_bit.ensures f.0 f.1.fourth)

pub overflow_sub-left : goal.overflow_sub-left
overflow_sub-left c = (found (goal.at.overflow_sub-left c).In-loop-top).1.three

pub loop-top-smaller : goal.loop-top-smaller
loop-top-smaller c = omega (arith, (found (goal.at.loop-top-smaller c).In-loop-top).1.three)

pub loop-top-preserved : goal.loop-top-preserved
loop-top-preserved c = let L = c.loop-top in
    let w = c.low_bit.result in
    let e = c.low_bit.ensures in
    let f = found (goal.at.loop-top-preserved c).In-loop-top in (
      join_stand _ _ _ _ w L.invariant.0 e f.0 f.1,
      λ i j r. L.invariant.1 i j (join f.0 f.1 (rw (parent 0 _ _ _ w L.invariant.0 e f.0 f.1.fourth) r)),
    )

pub returns : goal.returns
returns c = let L = c.loop-top in
    L.invariant.1 _ _ (stop (λ p f. true≢false (sym (c.family.ensures.1 (p, f)) ∙ c.loop-top-test.false)))
