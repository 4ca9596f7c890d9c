-- `neighbors::count` meets its contract: after k turns n is how many tiles the first k squares have.
use mathlib.Core.Path.{◌≡◌, refl, ap, ◌∙◌}
use mathlib.Core.List.{List}
use Prim.Native.Nat.{ℕ, ◌+◌, ◌<◌}
use native.Mathlib.Omega.{arith}
use lib.ListN.{length, get_or}
use Rattle.children.specs.Children.{gather}
use Rattle.tile.specs.declared.Tile.{Tile}
use Rattle.neighbors.specs.Squares.{found, found_all, found_within, found_most, count_more, eight, one_of_nine}
use Rattle.neighbors.specs.Neighbors.{near_of, order_of, spot_tiles}
use Rattle.neighbors.proofs.count.Goals as goal
use Rattle.neighbors.proofs.count.Goals.{In-loop-s, After-spot_at}

pub loop-s-init : goal.loop-s-init
unfolding gather
loop-s-init c = refl

-- the turn's square is one of the eight, and its tile is that of the square
inside : (c : In-loop-s) → c.loop-s.s-index < 8
inside c = omega (arith, ap length c.squares-s-items.ensures, eight c.args.seam, c.loop-s-test.true)

spot : (c : After-spot_at)
    → spot_tiles c.spot_at.result ≡ near_of c.args.seam c.args.x c.args.y c.args.z (get_or (order_of c.args.seam) c.loop-s.s-index 0)
spot c = rw c.squares-s-items.ensures at c.spot_at.ensures

pub spot_at-requires : goal.spot_at-requires
spot_at-requires c = let h = one_of_nine c.args.seam c.loop-s.s-index (inside (goal.at.spot_at-requires c).In-loop-s) in
    record { on_map = c.requires.on_map; end_value = c.requires.end_value; s_bound = rw c.squares-s-items.ensures h }

more : (c : After-spot_at)
    → c.loop-s.s-index < 8
    → c.loop-s.n + length (spot_tiles c.spot_at.result) ≡ length (found c.args.seam c.args.x c.args.y c.args.z (c.loop-s.s-index + 1))
more c h = let a = c.args in
    count_more a.seam a.x a.y a.z c.loop-s.s-index c.loop-s.n c.spot_at.result h c.loop-s.invariant (spot c)

pub overflow_add-n : goal.overflow_add-n
overflow_add-n c = let a = c.args in
    let here = goal.at.overflow_add-n c in
    omega (arith, c.tiles-n.ensures, more here.After-spot_at (inside here.In-loop-s), found_within a.seam a.x a.y a.z (c.loop-s.s-index + 1), found_most a.seam a.x a.y a.z)

pub loop-s-preserved : goal.loop-s-preserved
loop-s-preserved c = let here = goal.at.loop-s-preserved c in
    ap (λ (n : ℕ). c.loop-s.n + n) c.tiles-n.ensures ∙ more here.After-spot_at (inside here.In-loop-s)

pub returns : goal.returns
returns c = let a = c.args in
    let e : c.loop-s.s-index ≡ 8 = omega (arith, ap length c.squares-s-items.ensures, eight a.seam, c.loop-s-test.false, c.loop-s.auto.s-index-end) in
    c.loop-s.invariant ∙ rw e (ap (λ (l : List Tile). length l) (found_all a.seam a.x a.y a.z))
