-- `popped`: the locations from `left` on are above `start`.
use mathlib.Core.List.{List}
use Prim.Native.Nat.{ℕ, ◌-◌, ◌≤◌, ◌<◌}
use native.Mathlib.Decide.{dec_lt}
use native.Mathlib.Omega.{arith}
use mathlib.Core.Path.{◌≡◌}
use lib.ListN.{get_or}
use Rattle.settle.proofs.popped.Goals as goal

one_more : (l : List ℕ) (start count left : ℕ) → ((i : ℕ) → left ≤ i → i < count → start < get_or l i 0) → start < get_or l (left - 1) 0
    → (i : ℕ) → left - 1 ≤ i → i < count → start < get_or l i 0
one_more l start count left f h i k j = pick (dec_lt i left)
  where
    pick : Dec (i < left) → start < get_or l i 0
    pick (yes g) = let e : i ≡ left - 1 = omega arith in rw e h
    pick (no g) = f i (omega arith) j

pub loop-left-init : goal.loop-left-init
loop-left-init c = (omega arith, λ i h k. absurd (omega arith))

pub returns-else-start-locations : goal.returns-else-start-locations
returns-else-start-locations c = let L = c.loop-left in
    record { within = L.invariant.0; off = L.invariant.1; last = λ h. c.if-start-locations.false }

pub loop-left-preserved : goal.loop-left-preserved
loop-left-preserved c = let L = c.loop-left in
    let a = c.args in
    (omega arith, one_more a.locations.now a.start a.count L.left L.invariant.1 c.if-start-locations.true)

pub returns-after-loop-left : goal.returns-after-loop-left
returns-after-loop-left c = let L = c.loop-left in record { within = L.invariant.0; off = L.invariant.1; last = λ h. absurd (omega arith) }
