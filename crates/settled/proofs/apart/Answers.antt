-- `apart`: the runs of the locations before i rise, and none of their tiles completes a family.
use mathlib.Core.Path.{sym, ◌∙◌}
use mathlib.Core.Bool.{true≢false}
use native.Mathlib.Omega.{arith}
use lib.ListN.{get_or}
use Rattle.quadtree.specs.Locations.{room}
use Rattle.settle.specs.Settle.{Stand}
use Rattle.settled.specs.Walk.{loose_none, stands, nested, family_found, loose_next, loose_all}
use Rattle.settled.proofs.apart.Goals as goal
use Rattle.settled.proofs.apart.Goals.{In-loop-i}

pub loop-i-init : goal.loop-i-init
loop-i-init c = loose_none c.args.locations.now

-- the location that is read, on top of those before it
stand : (c : In-loop-i)
    → Stand c.args.locations.now c.loop-i.i (get_or c.args.locations.now c.loop-i.i 0)
stand c = let L = c.loop-i in stands _ c.requires L.end L.i L.invariant c.loop-i-test.true

pub low_bit-low-requires : goal.low_bit-low-requires
low_bit-low-requires c = (stand (goal.at.low_bit-low-requires c).In-loop-i).top

pub overflow_sub-k : goal.overflow_sub-k
overflow_sub-k c = omega (arith, room (stand (goal.at.overflow_sub-k c).In-loop-i).top c.low_bit-low.ensures)

pub returns-then-k-low : goal.returns-then-k-low
returns-then-k-low c = let L = c.loop-i in
    nested _ c.requires L.end L.i L.invariant c.loop-i-test.true c.low_bit-low.result c.low_bit-low.ensures c.if-k-low.true

pub family-requires : goal.family-requires
family-requires c = stand (goal.at.family-requires c).In-loop-i

pub returns-then-family : goal.returns-then-family
returns-then-family c = let L = c.loop-i in
    let w = c.low_bit-low in
    family_found _ c.requires L.end L.i L.invariant c.loop-i-test.true w.result w.ensures (c.family.ensures.0 c.if-family.true)

pub overflow_add-end : goal.overflow_add-end
overflow_add-end c = omega (arith, (room (stand (goal.at.overflow_add-end c).In-loop-i).top c.low_bit-low.ensures).fits)

pub loop-i-preserved : goal.loop-i-preserved
loop-i-preserved c = let L = c.loop-i in
    let w = c.low_bit-low in
    loose_next _ c.requires L.end L.i L.invariant c.loop-i-test.true w.result w.ensures c.if-k-low.false
    (λ p f. true≢false (sym (c.family.ensures.1 (p, f)) ∙ c.if-family.false))

pub returns : goal.returns
returns c = let L = c.loop-i in loose_all _ c.requires L.end L.i L.invariant c.loop-i-test.false
