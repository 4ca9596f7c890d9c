-- `fns::steps::parent` meets its contract: each call writes the digit of its step and goes on with one level fewer. The steps that are left fall.
use mathlib.Core.Path.{sym, ◌∙◌}
use native.Mathlib.Omega.{arith}
use lib.ListN.{length-set}
use Rattle.constants.specs.Limits.{max_zoom, a_digit_a_zoom}
use Rattle.tile.specs.OnMap.{OnMap, accepted_on_map}
use Rattle.fns.specs.Steps.{refused_first, parent_refused, written_refused, written_last, written_step}
use Prim.Native.Nat.{ℕ}
use Rattle.fns.proofs.steps.+parent.Goals as goal
use Rattle.fns.proofs.steps.+parent.Goals.{Else-why-ne0}

-- the tile of a call that is not refused
on_map : (t : ℕ) (c : Else-why-ne0 t) → OnMap c.args.x c.args.y c.args.z
on_map t c = accepted_on_map _ _ _ (sym c.check.ensures ∙ (sym c.check_number-why.ensures ∙ c.if-why-ne0.false))

pub check-requires : goal.check-requires
check-requires t c = tt

pub check_number-why-requires : goal.check_number-why-requires
check_number-why-requires t c = tt

pub returns-then-why-ne0 : goal.returns-then-why-ne0
returns-then-why-ne0 t c = let a = c.args in
    let e = c.check_number-why.ensures ∙ c.check.ensures in
    refused_first a.x a.y a.z a.n _ a.digits.now _ (sym e) c.if-why-ne0.true

pub number-requires : goal.number-requires
number-requires t c = tt

pub returns-then-z-n : goal.returns-then-z-n
returns-then-z-n t c = let a = c.args in
    rw c.number.ensures (written_refused a.x a.y a.z a.n _ a.digits.now (parent_refused (on_map t (goal.at.returns-then-z-n t c).Else-why-ne0) c.if-z-n.true))

pub digit-requires : goal.digit-requires
digit-requires t c = tt

pub bounds-digits-at : goal.bounds-digits-at
unfolding max_zoom
bounds-digits-at t c = omega (arith, (on_map t (goal.at.bounds-digits-at t c).Else-why-ne0).zoom)

pub overflow_sub-tz : goal.overflow_sub-tz
overflow_sub-tz t c = omega arith

pub returns-then-n-eq0 : goal.returns-then-n-eq0
returns-then-n-eq0 t c = rw (c.if-n-eq0.true, c.digit.ensures)
    (written_last _ c.args.digits.now (on_map t (goal.at.returns-then-n-eq0 t c).Else-why-ne0) (omega arith) (omega (arith, c.requires, a_digit_a_zoom, (on_map t (goal.at.returns-then-n-eq0 t c).Else-why-ne0).zoom)))

pub overflow_sub-z : goal.overflow_sub-z
overflow_sub-z t c = omega arith

pub overflow_sub-n : goal.overflow_sub-n
overflow_sub-n t c = omega arith

pub parent-requires : goal.parent-requires
parent-requires t c = (omega arith, simp length-set c.requires)

pub returns : goal.returns
returns t c = let m = on_map t (goal.at.returns t c).Else-why-ne0 in
    c.parent.ensures
    ∙ rw c.digit.ensures (written_step _ c.args.digits.now m (omega arith) (omega arith) (omega (arith, c.requires, a_digit_a_zoom, m.zoom)))
