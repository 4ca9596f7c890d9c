-- `tile_zbox_numbers::put` meets its contract: five writes side by side.
use native.Mathlib.Omega.{arith}
use lib.ListN.{length-set}
use Rattle.tile_zbox_numbers.specs.Fives.{five_sets}
use Rattle.tile_zbox_numbers.proofs.put.Goals as goal

pub bounds-out-at-2 : goal.bounds-out-at-2
bounds-out-at-2 c = simp length-set (omega arith)

pub bounds-out-at-3 : goal.bounds-out-at-3
bounds-out-at-3 c = simp length-set (omega arith)

pub bounds-out-at-4 : goal.bounds-out-at-4
bounds-out-at-4 c = simp length-set (omega arith)

pub bounds-out-at-5 : goal.bounds-out-at-5
bounds-out-at-5 c = simp length-set (omega arith)

pub shape_of-out : goal.shape_of-out
shape_of-out c = simp length-set

pub returns : goal.returns
returns c = rw c.from.ensures (five_sets c.args.out.now c.args.at _ _ _ _ _)
