-- `zoom_bits::fill` meets its contract: the zooms below this one stand in the front, and the rest is as it came.
use mathlib.Core.Path.{◌≡◌, refl, sym, ap, ◌∙◌}
use mathlib.Core.Bool.{true}
use mathlib.Core.List.{[], ◌∷◌, ◌++◌}
use Prim.Native.Nat.{ℕ, suc, ◌<◌}
use native.Mathlib.Numerals.{add-one}
use native.Mathlib.Omega.{arith}
use lib.ListN.{length, drop, length-append}
use Rattle.zoom_bits.specs.Bits.{has_bit, those, last_zoom}
use Rattle.zoom_bits.specs.Passing.{those_with, those_without, those_room, front_with}
use Rattle.zoom_bits.proofs.fill.Goals as goal
use Rattle.zoom_bits.proofs.fill.Goals.{then-has, else-has}
use Rattle.zoom_bits.proofs.fill.Goals.{After-has}

pub loop-z-init : goal.loop-z-init
unfolding those
loop-z-init c = (refl, refl)

-- a zoom of the set has a place
room : (c : After-has) → c.has.result ≡ true → c.loop-z.k < length c.args.out.now
room c h =
    let z = c.loop-z.z in
    omega (arith, those_room (has_bit c.args.set) z (suc last_zoom) (sym c.has.ensures ∙ h) (omega arith))

pub bounds-out-k : goal.bounds-out-k
bounds-out-k c = omega (arith, room (goal.at.bounds-out-k c).After-has c.if-has.true)

pub loop-z-preserved : goal.loop-z-preserved
loop-z-preserved c = let has = has_bit c.args.set in
    let z = c.loop-z.z in
    let k = c.loop-z.k in
    let memory = c.args.out.now in
    let inv = c.loop-z.invariant in
    rw add-one
    (elim c.if-has.branch [
      | then-has w ↦
          let h : has z ≡ true = sym c.has.ensures ∙ w.if-has.true in (
            omega (arith, w.k-is, inv.0, ap length (those_with has z h), length-append (those has z) (z ∷ [])),
            w.out-is ∙ (front_with has z k _ memory h inv.0 inv.1 (room (goal.at.loop-z-preserved c).After-has w.if-has.true)
                ∙ ap (λ (n : ℕ). those has (suc z) ++ drop n memory) (sym (w.k-is ∙ add-one k))),
          )
      | else-has w ↦ rw (those_without has z (sym c.has.ensures ∙ w.if-has.false), w.out-is, w.k-is) inv
    ])
