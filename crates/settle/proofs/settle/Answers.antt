-- `settle`: after i numbers the stack is what the pass makes of them.
use mathlib.Core.List.{List}
use Prim.Native.Nat.{ℕ, ◌≤◌, ◌<◌}
use native.Mathlib.Omega.{arith}
use lib.ListN.{length, get_or}
use Rattle.quadtree.specs.Locations.{IsLocation, room}
use Rattle.settle.specs.Middle.{mid_begun, next_location, joins_less, dropped, kept_top, ended}
use Rattle.settle.proofs.settle.Goals as goal
use Rattle.settle.proofs.settle.Goals.{After-joined-top, Then-end-k, else-end-k, then-end-k}

pub loop-i-init : goal.loop-i-init
loop-i-init c = mid_begun c.args.m c.args.locations.now

-- the number that is read
next : (c : Then-end-k) → IsLocation (get_or c.loop-i.locations c.loop-i.i 0)
next c =
    let L = c.loop-i in
    next_location c.args.m c.args.locations.now L.locations L.count L.end L.i c.requires.0 L.invariant (omega (arith, L.invariant.long))

pub low_bit-low-requires : goal.low_bit-low-requires
low_bit-low-requires c = next (goal.at.low_bit-low-requires c).Then-end-k

pub overflow_sub-k : goal.overflow_sub-k
overflow_sub-k c = (room (next (goal.at.overflow_sub-k c).Then-end-k) c.low_bit-low.ensures).below

pub popped-kept-requires : goal.popped-kept-requires
popped-kept-requires c = let i = c.loop-i.invariant in
    omega (arith, i.order, i.within)

pub joined-top-requires : goal.joined-top-requires
joined-top-requires c = let i = c.loop-i.invariant in
    let q = c.popped-kept.ensures in
    record { within = omega (arith, i.order, i.within, q.within); each = λ n h. i.each n (omega (arith, q.within)); top = next (goal.at.joined-top-requires c).Then-end-k }

top_less : (c : After-joined-top) → c.joined-top.result.count ≤ c.loop-i.i
top_less c =
    let i = c.loop-i.invariant in
    omega (arith, i.order, c.popped-kept.ensures.within, joins_less c.joined-top.ensures)

pub offset_bounds-locations-top : goal.offset_bounds-locations-top
offset_bounds-locations-top c = omega (arith, top_less (goal.at.offset_bounds-locations-top c).After-joined-top)

pub bounds-locations-top : goal.bounds-locations-top
bounds-locations-top c = omega (arith, top_less (goal.at.bounds-locations-top c).After-joined-top)

pub overflow_add-count : goal.overflow_add-count
overflow_add-count c = omega (arith, top_less (goal.at.overflow_add-count c).After-joined-top)

pub overflow_add-end : goal.overflow_add-end
overflow_add-end c = omega (arith, (room (next (goal.at.overflow_add-end c).Then-end-k) c.low_bit-low.ensures).fits)

pub loop-i-preserved : goal.loop-i-preserved
loop-i-preserved c = let L = c.loop-i in
    let m = c.args.m in
    let s₀ : List ℕ = c.args.locations.now in
    let h : L.i < length L.locations = omega (arith, L.invariant.long) in
    elim c.if-end-k.branch [
      | then-end-k w ↦ rw (w.locations-is, w.count-is, w.end-is) (kept_top m s₀ L.locations L.count L.end L.i c.requires.0 c.requires.1 L.invariant h w.low_bit-low.result w.popped-kept.result
          w.joined-top.result.count w.joined-top.result.location w.low_bit-low.ensures w.if-end-k.true w.popped-kept.ensures w.joined-top.ensures)
      | else-end-k w ↦ rw (w.locations-is, w.count-is, w.end-is) (dropped m s₀ L.locations L.count L.end L.i c.requires.0 L.invariant h w.if-end-k.false)
    ]

pub returns : goal.returns
returns c = let L = c.loop-i in
    let a = c.args in
    ended a.m a.locations.now L.locations L.count L.end L.i L.invariant (omega (arith, L.invariant.long))
