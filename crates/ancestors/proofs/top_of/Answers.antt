-- `top_of`: the tops passed end at or before k, and the one that is known to end behind it is still ahead.
use Prim.Native.Nat.{◌≤◌}
use native.Mathlib.Omega.{arith}
use Rattle.settle.specs.Middle.{location_at}
use Rattle.quadtree.specs.Locations.{end_of, tiles}
use Rattle.ancestors.specs.Tops.{ahead_more, passed_one}
use Rattle.ancestors.proofs.top_of.Goals as goal
use Rattle.ancestors.proofs.top_of.Goals.{In-loop-top}

pub loop-top-init : goal.loop-top-init
loop-top-init c = (omega arith, c.requires.1, λ j a b. absurd (omega arith))

pub offset_bounds-tops-top : goal.offset_bounds-tops-top
offset_bounds-tops-top c = let a = c.loop-top.invariant.1 in omega (arith, a.later, a.within, c.well_formed)

pub bounds-tops-top : goal.bounds-tops-top
bounds-tops-top c = let a = c.loop-top.invariant.1 in omega (arith, a.later, a.within)

pub end-requires : goal.end-requires
end-requires c = let a = c.loop-top.invariant.1 in
    location_at c.args.tops.now c.requires.0 c.loop-top.top (omega (arith, a.later, a.within))

-- the run of the present top does not end behind k
near : (c : In-loop-top)
    → end_of (tiles c.args.tops.now c.loop-top.top)
    ≤ c.args.k
near c = omega (arith, c.end.ensures, c.loop-top-test.true)

pub overflow_add-top : goal.overflow_add-top
overflow_add-top c = let a = c.loop-top.invariant.1 in omega (arith, a.later, a.within)

pub loop-top-smaller : goal.loop-top-smaller
loop-top-smaller c = let a = c.loop-top.invariant.1 in omega (arith, a.later, a.within)

pub loop-top-preserved : goal.loop-top-preserved
loop-top-preserved c = let L = c.loop-top in
    let a = c.args in (
      omega (arith, L.invariant.0),
      ahead_more a.tops.now L.top a.k (near (goal.at.loop-top-preserved c).In-loop-top) L.invariant.1,
      passed_one a.tops.now L.top a.k (near (goal.at.loop-top-preserved c).In-loop-top) a.from L.invariant.2,
    )

pub returns : goal.returns
returns c = let L = c.loop-top in
    let a = L.invariant.1 in
    record {
      later = L.invariant.0;
      within = omega (arith, a.later, a.within);
      ends = omega (arith, c.end.ensures, c.loop-top-test.false);
      passed = L.invariant.2;
    }
