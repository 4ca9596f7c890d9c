-- `common` meets its contract.
use mathlib.Core.Path.{refl}
use mathlib.Core.Logic.{inl, inr}
use Prim.Native.Nat.{◌-◌, ◌<◌}
use native.Mathlib.Omega.{arith}
use lib.ListN.{length, get_or, length-set}
use borrow.Author.Tests.{ltb-true, ltb-false}
use Rattle.quadtree.specs.Locations.{IsLocation, room}
use Rattle.common.specs.Walk.{both_begun, turned, over, inside, nested, ended}
use Rattle.common.proofs.common.Goals as goal
use Rattle.common.proofs.common.Goals.{After-shared_slice_known-in-loop-i-2-1}

pub loop-i-init : goal.loop-i-init
loop-i-init c = let a = c.args in (refl, both_begun a.a.now a.b.now a.out.now)

-- the two locations that are read
in_a : (c : After-shared_slice_known-in-loop-i-2-1) → c.loop-i.i < length c.args.a.now
in_a c = c.loop-i-test.true

in_b : (c : After-shared_slice_known-in-loop-i-2-1) → c.loop-i.j < length c.args.b.now
in_b c = omega (arith, ltb-true)

location_a : (c : After-shared_slice_known-in-loop-i-2-1)
    → IsLocation (get_or c.args.a.now c.loop-i.i 0)
location_a c = c.requires.0.each _ (in_a c)

location_b : (c : After-shared_slice_known-in-loop-i-2-1)
    → IsLocation (get_or c.args.b.now c.loop-i.j 0)
location_b c = c.requires.1.each _ (in_b c)

pub low_bit-l-requires : goal.low_bit-l-requires
low_bit-l-requires c = location_a (goal.at.low_bit-l-requires c).After-shared_slice_known-in-loop-i-2-1

pub low_bit-m-requires : goal.low_bit-m-requires
low_bit-m-requires c = location_b (goal.at.low_bit-m-requires c).After-shared_slice_known-in-loop-i-2-1

pub overflow_add-p : goal.overflow_add-p
overflow_add-p c = omega (arith, (room (location_a (goal.at.overflow_add-p c).After-shared_slice_known-in-loop-i-2-1) c.low_bit-l.ensures).fits)

pub overflow_sub-q : goal.overflow_sub-q
overflow_sub-q c = (room (location_b (goal.at.overflow_sub-q c).After-shared_slice_known-in-loop-i-2-1) c.low_bit-m.ensures).below

pub loop-i-preserved-then-p-l : goal.loop-i-preserved-then-p-l
loop-i-preserved-then-p-l c = let w = c.loop-i.invariant in
    let runs = c.requires in
    let pa = location_a (goal.at.loop-i-preserved-then-p-l c).After-shared_slice_known-in-loop-i-2-1 in
    let pb = location_b (goal.at.loop-i-preserved-then-p-l c).After-shared_slice_known-in-loop-i-2-1 in
    let la = c.low_bit-l.ensures in
    let lb = c.low_bit-m.ensures in
    (w.0, over runs.0 runs.1 w.1 (in_a (goal.at.loop-i-preserved-then-p-l c).After-shared_slice_known-in-loop-i-2-1) (in_b (goal.at.loop-i-preserved-then-p-l c).After-shared_slice_known-in-loop-i-2-1) (omega (arith, c.if-p-l.true, pa.again, pb.again, la, lb)))

pub overflow_add-q : goal.overflow_add-q
overflow_add-q c = omega (arith, (room (location_b (goal.at.overflow_add-q c).After-shared_slice_known-in-loop-i-2-1) c.low_bit-m.ensures).fits)

pub overflow_sub-p : goal.overflow_sub-p
overflow_sub-p c = (room (location_a (goal.at.overflow_sub-p c).After-shared_slice_known-in-loop-i-2-1) c.low_bit-l.ensures).below

pub loop-i-preserved-then-q-m : goal.loop-i-preserved-then-q-m
loop-i-preserved-then-q-m c = let w = c.loop-i.invariant in
    let runs = c.requires in
    let pa = location_a (goal.at.loop-i-preserved-then-q-m c).After-shared_slice_known-in-loop-i-2-1 in
    let pb = location_b (goal.at.loop-i-preserved-then-q-m c).After-shared_slice_known-in-loop-i-2-1 in
    let la = c.low_bit-l.ensures in
    let lb = c.low_bit-m.ensures in
    (w.0, turned (over runs.1 runs.0 (turned w.1) (in_b (goal.at.loop-i-preserved-then-q-m c).After-shared_slice_known-in-loop-i-2-1) (in_a (goal.at.loop-i-preserved-then-q-m c).After-shared_slice_known-in-loop-i-2-1) (omega (arith, c.if-q-m.true, pa.again, pb.again, la, lb))))

pub loop-i-preserved-then-l-m : goal.loop-i-preserved-then-l-m
loop-i-preserved-then-l-m c = let w = c.loop-i.invariant in
    let runs = c.requires in
    let pa = location_a (goal.at.loop-i-preserved-then-l-m c).After-shared_slice_known-in-loop-i-2-1 in
    let pb = location_b (goal.at.loop-i-preserved-then-l-m c).After-shared_slice_known-in-loop-i-2-1 in
    let la = c.low_bit-l.ensures in
    let lb = c.low_bit-m.ensures in (
      rw length-set w.0,
      inside runs.0 runs.1 w.1 (in_a (goal.at.loop-i-preserved-then-l-m c).After-shared_slice_known-in-loop-i-2-1) (in_b (goal.at.loop-i-preserved-then-l-m c).After-shared_slice_known-in-loop-i-2-1) (omega (arith, w.0, w.1.room, in_a (goal.at.loop-i-preserved-then-l-m c).After-shared_slice_known-in-loop-i-2-1, in_b (goal.at.loop-i-preserved-then-l-m c).After-shared_slice_known-in-loop-i-2-1, runs.2))
          (nested pa pb la lb c.if-p-l.false c.if-q-m.false c.if-l-m.true),
    )

pub loop-i-preserved : goal.loop-i-preserved
loop-i-preserved c = let w = c.loop-i.invariant in
    let runs = c.requires in
    let pa = location_a (goal.at.loop-i-preserved c).After-shared_slice_known-in-loop-i-2-1 in
    let pb = location_b (goal.at.loop-i-preserved c).After-shared_slice_known-in-loop-i-2-1 in
    let la = c.low_bit-l.ensures in
    let lb = c.low_bit-m.ensures in (
      rw length-set w.0,
      turned (inside runs.1 runs.0 (turned w.1) (in_b (goal.at.loop-i-preserved c).After-shared_slice_known-in-loop-i-2-1) (in_a (goal.at.loop-i-preserved c).After-shared_slice_known-in-loop-i-2-1) (omega (arith, w.0, w.1.room, in_a (goal.at.loop-i-preserved c).After-shared_slice_known-in-loop-i-2-1, in_b (goal.at.loop-i-preserved c).After-shared_slice_known-in-loop-i-2-1, runs.2))
          (nested pb pa lb la c.if-q-m.false c.if-p-l.false (omega (arith, c.if-l-m.false)))),
    )

pub returns-else-j-b : goal.returns-else-j-b
returns-else-j-b c = let w = c.loop-i.invariant in
    ended c.requires.0 c.requires.1 w.1 (omega (arith, w.0, c.requires.2)) (inr (omega (arith, ltb-false)))

pub returns-after-loop-i : goal.returns-after-loop-i
returns-after-loop-i c = let w = c.loop-i.invariant in
    ended c.requires.0 c.requires.1 w.1 (omega (arith, w.0, c.requires.2)) (inl c.loop-i-test.false)
