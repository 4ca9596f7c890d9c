-- `fns::bbox2zoom` meets its contract: the zoom is the first one from z on.
use Rattle.std.proofs.Common.{◌≡◌, true, false, ◌+◌, ◌-◌, sym, ap, ◌∙◌, arith}
use Rattle.fns.specs.Fns.{first_zoom}
use Rattle.fns.specs.Laws.{first_here, first_later}
use Rattle.fns.proofs.bbox2zoom.Invariants.{parts}
use Rattle.fns.proofs.bbox2zoom.Goals as goal
use Rattle.fns.proofs.bbox2zoom.Goals.{then-apart-via-then-apart, then-apart-via-else-apart+then-apart-2}

pub returns-then-apart : goal.returns-then-apart
returns-then-apart c = let a = c.args in
    let p = parts a.west a.south a.east a.north in
    let e : p c.loop-z.z ≡ true = elim c.then-apart.branch [
      | then-apart-via-then-apart w ↦ rw (← c.apart.ensures, w.if-apart.true)
      | then-apart-via-else-apart+then-apart-2 w ↦ rw (← c.apart.ensures, ← w.apart-else-apart.ensures, w.if-apart.false, w.if-apart-2.true)
    ] in
    sym (c.loop-z.invariant ∙ first_here p _ _ (omega arith) e)

pub loop-z-preserved : goal.loop-z-preserved
loop-z-preserved c = let a = c.args in
    let p = parts a.west a.south a.east a.north in
    let e : p c.loop-z.z ≡ false = rw (← c.apart.ensures, ← c.apart-else-apart.ensures, c.if-apart.false, c.if-apart-2.false) in
    let f : 28 - c.loop-z.z - 1 ≡ 28 - (c.loop-z.z + 1) = omega arith in
    c.loop-z.invariant ∙ (first_later p _ _ (omega arith) e ∙ ap (first_zoom p (c.loop-z.z + 1)) f)

pub returns : goal.returns
unfolding first_zoom
returns c = let e : c.loop-z.z ≡ 28 = omega arith in
    sym (c.loop-z.invariant ∙ rw e)
