-- `quadtree::zoom_from` meets its contract: a number whose bits above 2z are 1 is of zoom z.
use mathlib.Core.Path.{◌≡◌, sym}
use Prim.Native.Nat.{◌*◌, ◌/◌, ◌^◌}
use native.Mathlib.Nat.{mod-lt}
use native.Mathlib.Omega.{arith}
use lib.Pow.{pow_pos, split}
use Rattle.ids.specs.Powers.{four_side}
use Rattle.quadtree.specs.Tree.{zoom_in_lem}
use Rattle.quadtree.proofs.zoom_from.Goals as goal

pub returns-then-n-expected-eq1 : goal.returns-then-n-expected-eq1
returns-then-n-expected-eq1 c = let n = c.args.n in
    let z = c.args.expected in
    let e : n / 2 ^ (2 * z) ≡ 1 = c.if-n-expected-eq1.true in
    let s = rw e at (split n (2 * z)) in
    let l = mod-lt n (pow_pos (2 * z)) in
    sym (zoom_in_lem n z (omega arith) (omega (arith, s, four_side z)) (omega (arith, s, l, four_side z)))
