-- `pass`: the tiles before `next` end at `start` or before it.
use lib.ListN.{get_or}
use native.Mathlib.Omega.{arith}
use Rattle.quadtree.specs.Locations.{IsLocation, room}
use Rattle.difference.proofs.Walk.pass.Goals as goal

pub overflow_add-g : goal.overflow_add-g
overflow_add-g c = let L = c.loop-next in
    let p : IsLocation (get_or L.self.gone.now L.next 0) = rw L.invariant.1 (c.requires.runs.each L.next c.loop-next-test.true) in
    omega (arith, (room p c.low_bit.ensures).fits)
