-- `children::fill` meets its contract: the first k quarters hold the first k children's descendants. The depth falls at each call.
use mathlib.Core.Path.{◌≡◌, sym, ap, ◌∙◌}
use native.Mathlib.Numerals.{add-one}
use native.Mathlib.Omega.{arith}
use Prim.Native.Nat.{ℕ, suc, ◌≤◌, ◌<◌, ◌-◌, ◌/◌, ◌%◌}
use lib.ListN.{length, length-set, get_or}
use Rattle.constants.specs.Limits.{max_zoom_small}
use Rattle.tile.specs.OnMap.{on_map_small}
use Rattle.ids.specs.Entry.{entries_of}
use Rattle.children.specs.Children.{family_of, descendants}
use Rattle.children.specs.ByQuarters.{quarters_none, Quarter, in_quarters, quarters_kept, quarter_written, quarters_done, one_place, quarter_part}
use Rattle.children.specs.Family.{child_entries, family_four, digit_small, child_on_map}
use Rattle.children.proofs.+fill.Given.{Over}
use Rattle.children.proofs.+fill.Goals as goal
use Rattle.children.proofs.+fill.Goals.{At-loop-k, In-loop-k}

quarter : (g : Over) (t : ℕ) (c : At-loop-k g t) → Quarter c.args.depth (length c.args.out.now)
quarter g t c = in_quarters _ (omega arith) c.requires.out_len

-- the turn's child is one of four
turn : (g : Over) (t : ℕ) (c : In-loop-k g t) → (c.loop-k.k < 4) × (get_or c.digits.result c.loop-k.k 0 < 4)
turn g t c =
    let f = g.F.Family.order in
    let e = c.digits.ensures in
    (omega (arith, ap length e, family_four f, c.loop-k-test.true), rw e (digit_small f c.loop-k.k))

most : (g : Over) (t : ℕ) (c : At-loop-k g t) → c.loop-k.k ≤ 4
most g t c = omega (arith, ap length c.digits.ensures, family_four g.F.Family.order, c.loop-k.auto.k-end)

kept : (g : Over) (t : ℕ) (c : At-loop-k g t) → length c.loop-k.out ≡ length c.args.out.now
kept g t c =
    let a = c.args in
    let w = quarter g t c in
    quarters_kept g.F.Family.order (a.depth - 1) a.x a.y a.z a.out.now w.quarter w.whole (most g t c) c.loop-k.invariant

pub bounds-out-0 : goal.bounds-out-0
bounds-out-0 g t c = omega (arith, rw c.if-depth-eq0.true at c.requires.out_len)

pub shape_of-out-then-depth-eq0 : goal.shape_of-out-then-depth-eq0
shape_of-out-then-depth-eq0 g t c = simp length-set

pub returns-then-depth-eq0 : goal.returns-then-depth-eq0
unfolding descendants
returns-then-depth-eq0 g t c = let e = c.if-depth-eq0.true in
    rw (e, ← c.entry.ensures)
    (one_place c.args.out.now c.entry.result (rw e at c.requires.out_len))

pub loop-k-init : goal.loop-k-init
loop-k-init g t c = let a = c.args in
    sym (quarters_none (child_entries g.F.Family.order (a.depth - 1) a.x a.y a.z) (family_of g.F.Family.order) (length a.out.now / 4) a.out.now)

pub overflow_mul-start : goal.overflow_mul-start
overflow_mul-start g t c = let here = goal.at.overflow_mul-start g t c in
    omega (arith, (quarter g t here.At-loop-k).within (turn g t here.In-loop-k).0)

pub overflow_mul-x : goal.overflow_mul-x
overflow_mul-x g t c = omega (arith, (on_map_small c.requires.on_map).0)

pub overflow_add-x : goal.overflow_add-x
overflow_add-x g t c = omega (arith, (on_map_small c.requires.on_map).0)

pub overflow_mul-y : goal.overflow_mul-y
overflow_mul-y g t c = omega (arith, (on_map_small c.requires.on_map).1)

pub overflow_add-y : goal.overflow_add-y
overflow_add-y g t c = omega (arith, (on_map_small c.requires.on_map).1, turn g t (goal.at.overflow_add-y g t c).In-loop-k)

pub overflow_add-z : goal.overflow_add-z
overflow_add-z g t c = omega (arith, max_zoom_small)

pub fill-requires : goal.fill-requires
fill-requires g t c lifetimes within = let here = goal.at.fill-requires g t c in
    let d = (turn g t here.In-loop-k).1 in
    let w = quarter g t here.At-loop-k in
    let s = get_or c.digits.result c.loop-k.k 0 in
    let m = child_on_map (s % 2) (s / 2) c.requires.on_map (omega arith) (omega arith) (omega arith) in
    let h = w.within (turn g t here.In-loop-k).0 in
    (omega arith, (within, (m, (omega arith, quarter_part _ _ _ (omega (arith, kept g t here.At-loop-k)) ∙ w.quarter))))

pub loop-k-preserved : goal.loop-k-preserved
loop-k-preserved g t c = let here = goal.at.loop-k-preserved g t c in
    let a = c.args in
    let w = quarter g t here.At-loop-k in
    let part = c.fill.new.out in
    quarter_written g.F.Family.order (a.depth - 1) a.x a.y a.z a.out.now w.quarter w.whole (most g t here.At-loop-k) c.loop-k.invariant part
    (turn g t here.In-loop-k).0 (rw (← add-one a.z) (rw c.digits.ensures at c.fill.ensures))

pub returns : goal.returns
returns g t c = let here = goal.at.returns g t c in
    let a = c.args in
    let w = quarter g t here.At-loop-k in
    let s : suc (a.depth - 1) ≡ a.depth = omega arith in
    quarters_done g.F.Family.order (a.depth - 1) a.x a.y a.z a.out.now w.quarter w.whole (most g t here.At-loop-k) c.loop-k.invariant
    (omega (arith, most g t here.At-loop-k, ap length c.digits.ensures, family_four g.F.Family.order, c.loop-k-test.false))
    ∙ ap (λ (n : ℕ). entries_of (descendants (family_of g.F.Family.order) n a.x a.y a.z)) s
