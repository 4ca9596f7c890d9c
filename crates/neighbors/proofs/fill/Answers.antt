-- `neighbors::fill` meets its contract: after k turns the tiles of the first k squares stand at the front of the memory.
use mathlib.Core.Path.{◌≡◌, refl, sym, ap, ◌∙◌}
use mathlib.Core.List.{◌++◌}
use Prim.Native.Nat.{ℕ, ◌+◌, ◌<◌}
use native.Mathlib.Omega.{arith}
use lib.ListN.{length, drop, get_or}
use Rattle.children.specs.Children.{gather}
use Rattle.ids.specs.Entry.{entries_of}
use Rattle.neighbors.specs.MapEdge.{spot_on_map}
use Rattle.neighbors.specs.Memory.{fill_more, fill_length}
use Rattle.neighbors.specs.Neighbors.{near_of, order_of, spot_tiles}
use Rattle.neighbors.specs.Squares.{found, found_all, found_within, count_more, eight, one_of_nine}
use Rattle.neighbors.proofs.fill.Goals as goal
use Rattle.neighbors.proofs.fill.Goals.{At-loop-s, In-loop-s, After-spot_at}

pub loop-s-init : goal.loop-s-init
unfolding gather
loop-s-init c = (refl, refl)

-- the turn's square is one of the eight, and its tile is that of the square
inside : (c : In-loop-s) → c.loop-s.s-index < 8
inside c = omega (arith, ap length c.squares-s-items.ensures, eight c.args.seam, c.loop-s-test.true)

spot : (c : After-spot_at)
    → spot_tiles c.spot_at.result ≡ near_of c.args.seam c.args.x c.args.y c.args.z (get_or (order_of c.args.seam) c.loop-s.s-index 0)
spot c = rw c.squares-s-items.ensures at c.spot_at.ensures

pub spot_at-requires : goal.spot_at-requires
spot_at-requires c = let h = one_of_nine c.args.seam c.loop-s.s-index (inside (goal.at.spot_at-requires c).In-loop-s) in
    record { on_map = c.requires.on_map; end_value = c.requires.end_value; s_bound = rw c.squares-s-items.ensures h }

kept : (c : At-loop-s) → length c.loop-s.out ≡ length c.args.out.now
kept c =
    let a = c.args in
    let l = c.loop-s in
    let w = found_within a.seam a.x a.y a.z l.s-index in
    fill_length a.seam a.x a.y a.z l.s-index l.n a.out.now l.out l.invariant.0 (omega (arith, w)) l.invariant.1

pub put-n-requires : goal.put-n-requires
put-n-requires c = let a = c.args in
    let l = c.loop-s in
    let here = goal.at.put-n-requires c in
    let s = spot here.After-spot_at in
    let m = count_more a.seam a.x a.y a.z l.s-index l.n c.spot_at.result (inside here.In-loop-s) l.invariant.0 s in
    let w = found_within a.seam a.x a.y a.z (l.s-index + 1) in
    record { spot_on_map = spot_on_map a.seam a.x a.y a.z _ c.spot_at.result c.requires.on_map s; spot_in_bounds = omega (arith, m, w, kept here.At-loop-s) }

pub loop-s-preserved : goal.loop-s-preserved
loop-s-preserved c = let a = c.args in
    let l = c.loop-s in
    let here = goal.at.loop-s-preserved c in
    let h = inside here.In-loop-s in
    let s = spot here.After-spot_at in
    let p = c.put-n.ensures in
    let m = fill_more a.seam a.x a.y a.z l.s-index l.n c.spot_at.result a.out.now _ h l.invariant.0 l.invariant.1 s in
    let d = ap (λ (n : ℕ). entries_of (found a.seam a.x a.y a.z (l.s-index + 1)) ++ drop n a.out.now) (sym p.value) in
    (p.value ∙ count_more a.seam a.x a.y a.z l.s-index l.n c.spot_at.result h l.invariant.0 s, p.out_after ∙ (m ∙ d))

pub shape_of-out : goal.shape_of-out
shape_of-out c = kept (goal.at.shape_of-out c).At-loop-s

pub returns : goal.returns
returns c = let a = c.args in
    let e : c.loop-s.s-index ≡ 8 = omega (arith, ap length c.squares-s-items.ensures, eight a.seam, c.loop-s-test.false, c.loop-s.auto.s-index-end) in
    c.loop-s.invariant.1 ∙ rw (c.loop-s.invariant.0, e, found_all a.seam a.x a.y a.z)
