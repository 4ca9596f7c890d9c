-- `family` compares the three locations below k, and asks `parent` of the few that are left by which digit k is left.
use mathlib.Core.Path.{◌≡◌, refl, sym, ap, ◌∙◌}
use mathlib.Core.Bool.{true, false}
use mathlib.Core.Logic.{◌↔◌}
use Prim.Native.Nat.{ℕ, ◌-◌, ◌≤◌, ◌<◌, ◌^◌}
use native.Mathlib.Omega.{arith}
use mathlib.Core.List.{List}
use Rattle.std.proofs.lemmas.List.{get_or-take}
use lib.ListN.{length, take, get_or}
use lib.Seq.{length-take-le}
use borrow.Author.Tests.{eqb-true, eq-eqb}
use Rattle.child_digit.specs.Digit.{digit_of}
use Rattle.quadtree.specs.Numbers.{morton_tile, location_tile}
use Rattle.quadtree.specs.OneTile.{morton_tile_lem}
use Rattle.quadtree.specs.Tree.{morton_deeper}
use Rattle.quadtree.specs.Locations.{low_of, Room, room, tiles}
use Rattle.tile.specs.declared.Tile.{Tile}
use Rattle.settle.specs.Settle.{Family}
use Rattle.settle.specs.Siblings.{Siblings, family_siblings, siblings_family, no_family}
use Rattle.settle.proofs.family.Goals as goal
use Rattle.settle.proofs.family.Goals.{After-low_bit-step, After-morton, then-third-step-via-then-third-step, then-third-step-via-else-third-step+then-second-step}
use Rattle.settle.proofs.family.Goals.{then-third-step-via-else-third-step+else-second-step+then-first-step}

-- what stands at the end of the first `count`
at_end : (l : List ℕ) (count j : ℕ) → count ≤ length l → 0 < j → j ≤ count → get_or (take count l) (length (take count l) - j) 0 ≡ get_or l (count - j) 0
at_end l count j h g k = rw (length-take-le count l h) (get_or-take count l (count - j) 0 (omega arith))

three : (c : After-low_bit-step) → 3 ≤ c.args.count
three c = omega (arith, length-take-le c.args.count c.args.locations.now c.requires.within)

below : (c : After-low_bit-step) (j : ℕ) → 0 < j → j ≤ 3
    → let s = take c.args.count c.args.locations.now in get_or s (length s - j) 0 ≡ get_or c.args.locations.now (c.args.count - j) 0
below c j g k = at_end c.args.locations.now c.args.count j c.requires.within g (omega (arith, three c))

-- there is room for the sums: k's lowest set bit is small, and so is what stands below k
low : (c : After-low_bit-step) → Room c.args.k c.low_bit-step.result
low c = room c.requires.top c.low_bit-step.ensures

small : (c : After-low_bit-step) (j : ℕ) → 0 < j → j ≤ 3
    → let s = take c.args.count c.args.locations.now in get_or s (length s - j) 0 < 2 ^ 63
small c j g k = rw (below c j g k) (omega (arith, three c, (room (c.requires.each (c.args.count - j) (omega (arith, three c))) refl).fits))

-- no family, since one of the tests fails
none : (c : After-low_bit-step) → let a = c.args in
    (Siblings a.m a.locations.now a.count a.k c.low_bit-step.result → ⊥)
    → false ≡ true ↔ ((p : Tile) × Family a.m (tiles a.locations.now) a.count (location_tile a.k) p)
none c = no_family _ _ _ _ c.low_bit-step.result c.requires c.low_bit-step.ensures

pub returns-in_default : goal.returns-in_default
returns-in_default c = no_family _ _ _ _ (low_of (location_tile c.args.k)) c.requires refl
    (λ g. omega (arith, g.three, c.in_default.len_below, length-take-le c.args.count c.args.locations.now c.requires.within))

pub overflow_mul-step : goal.overflow_mul-step
overflow_mul-step c = omega (arith, (low (goal.at.overflow_mul-step c).After-low_bit-step).small)

pub overflow_add-third : goal.overflow_add-third
overflow_add-third c = let s = (goal.at.overflow_add-third c).After-low_bit-step in omega (arith, (low s).small, small s 1 (omega arith) (omega arith))

pub overflow_mul-step-else-third-step : goal.overflow_mul-step-else-third-step
overflow_mul-step-else-third-step c = omega (arith, (low (goal.at.overflow_mul-step-else-third-step c).After-low_bit-step).small)

pub overflow_add-second : goal.overflow_add-second
overflow_add-second c = let s = (goal.at.overflow_add-second c).After-low_bit-step in omega (arith, (low s).small, small s 2 (omega arith) (omega arith))

pub overflow_mul-step-else-second-step : goal.overflow_mul-step-else-second-step
overflow_mul-step-else-second-step c = omega (arith, (low (goal.at.overflow_mul-step-else-second-step c).After-low_bit-step).small)

pub overflow_add-first : goal.overflow_add-first
overflow_add-first c = let s = (goal.at.overflow_add-first c).After-low_bit-step in omega (arith, (low s).small, small s 3 (omega arith) (omega arith))

pub returns-then-third-step : goal.returns-then-third-step
returns-then-third-step c = let s = (goal.at.returns-then-third-step c).After-low_bit-step in
    let at = below s in
    none s
    (elim c.then-third-step.branch [
      | then-third-step-via-then-third-step w ↦ λ g. omega (arith, w.if-third-step.true, at 1 (omega arith) (omega arith), g.third)
      | then-third-step-via-else-third-step+then-second-step w ↦ λ g. omega (arith, w.if-second-step.true, at 2 (omega arith) (omega arith), g.second)
      | then-third-step-via-else-third-step+else-second-step+then-first-step w ↦ λ g. omega (arith, w.if-first-step.true, at 3 (omega arith) (omega arith), g.first)
    ])

pub returns-then-zoom-m : goal.returns-then-zoom-m
returns-then-zoom-m c = none (goal.at.returns-then-zoom-m c).After-low_bit-step
    (λ g. omega (arith, g.deep, c.zoom.ensures, c.if-zoom-m.true))

deeper : (c : After-morton) → let a = c.args in a.m < (location_tile a.k).z
deeper c = omega (arith, c.zoom.ensures, c.if-zoom-m.false)

pub of_morton-requires : goal.of_morton-requires
of_morton-requires c = let t = location_tile c.args.k in
    rw c.morton.ensures (record { tile = t; on_map = c.requires.top.of_map; number = refl }, omega (arith, morton_deeper t 0 (omega (arith, deeper (goal.at.of_morton-requires c).After-morton))))

pub returns : goal.returns
returns c = let a = c.args in
    let s = (goal.at.returns c).After-low_bit-step in
    let w = c.low_bit-step.result in
    let e = c.low_bit-step.ensures in
    let k = c.requires.top in
    let d : c.of_morton.result ≡ digit_of (location_tile a.k) =
    c.of_morton.ensures ∙ ap digit_of (ap morton_tile c.morton.ensures ∙ morton_tile_lem (location_tile a.k) k.of_map) in (
      λ q. siblings_family a.m a.locations.now a.count a.k w c.requires e (record {
        three = three s;
        deep = deeper (goal.at.returns c).After-morton;
        fourth = sym d ∙ eqb-true _ _ q;
        third = rw (below s 1 (omega arith) (omega arith)) at c.if-third-step.false;
        second = rw (below s 2 (omega arith) (omega arith)) at c.if-second-step.false;
        first = rw (below s 3 (omega arith) (omega arith)) at c.if-first-step.false;
      }),
      λ f. eq-eqb _ _ (d ∙ (family_siblings _ _ _ _ w c.requires e f.0 f.1).fourth),
    )
