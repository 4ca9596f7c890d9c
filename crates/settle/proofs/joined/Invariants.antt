-- `joined`: what joining leaves of the present stack is what it leaves of the first.
use Prim.Native.Nat.{ℕ}
use Rattle.settle.specs.Settle.{Stand, Joins}
use Rattle.settle.proofs.joined.Given as goal

abbrev pub invariant-loop-top : goal.invariant-loop-top
invariant-loop-top l = Stand l.locations l.left l.top × ((c j : ℕ) → Joins l.m l.locations c j l.left l.top → Joins l.m l.locations c j l.count l.k)

abbrev pub decreases-loop-top : goal.decreases-loop-top
decreases-loop-top l = l.left
