-- `children::fill` meets its contract: the first k quarters hold the first k children's descendants. The depth falls at each call.
use mathlib.Core.Path.{◌≡◌}
use Prim.Native.Nat.{◌-◌}
use Rattle.children.specs.Children.{family_of}
use Rattle.children.specs.ByQuarters.{quarters}
use Rattle.children.specs.Family.{child_entries}
use Rattle.children.proofs.+fill.Given as goal

abbrev pub decreases-fill : goal.decreases-fill
decreases-fill g l = l.depth

abbrev pub invariant-loop-k : goal.invariant-loop-k
invariant-loop-k g l = l.out ≡ quarters (child_entries g.F.Family.order (l.depth - 1) l.x l.y l.z) (family_of g.F.Family.order) l.quarter l.k l.initial.out
