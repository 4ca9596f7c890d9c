-- `zoom_bits::reversed` meets its contract: the number has the lower bits of its set.
use mathlib.Core.Path.{◌≡◌, refl, sym, ap, ◌∙◌}
use Prim.Native.Nat.{ℕ, suc, ◌^◌, ◌≤◌}
use native.Mathlib.Numerals.{add-one}
use native.Mathlib.Omega.{arith}
use lib.Pow.{pow_mono}
use native.Mathlib.Nat.{pow-suc}
use Rattle.bits.specs.Powers.{pow_within}
use Rattle.zoom_bits.specs.Bits.{set_of, down_from}
use Rattle.zoom_bits.specs.Sets.{set_below, set_more, set_no_more}
use Rattle.zoom_bits.proofs.reversed.Goals as goal
use Rattle.zoom_bits.proofs.reversed.Goals.{then-has, else-has}
use Rattle.zoom_bits.proofs.reversed.Goals.{After-pow2-r}

pub loop-i-init : goal.loop-i-init
unfolding set_of
loop-i-init c = refl

-- the next bit's power, and the number below it
power : (c : After-pow2-r) → c.pow2-r.result ≡ 2 ^ c.loop-i.i
power c = c.pow2-r.ensures ∙ pow_within c.loop-i.i 32 (omega arith)

pub overflow_add-r : goal.overflow_add-r
overflow_add-r c = let i = c.loop-i.i in
    let p : 2 ^ suc i ≤ 2 ^ 32 = pow_mono {i = suc i} {j = 32} (omega arith) in
    omega (arith, power (goal.at.overflow_add-r c).After-pow2-r, pow-suc 2 i, set_below (down_from c.args.top c.args.set) i)

pub loop-i-preserved : goal.loop-i-preserved
loop-i-preserved c = let a = c.args in
    let i = c.loop-i.i in
    let inv = c.loop-i.invariant in
    let now-has = c.has.ensures in
    rw add-one
    (elim c.if-has.branch [
      | then-has w ↦ w.r-is ∙ (rw (inv, w.pow2-r.ensures, pow_within i 32 (omega arith)) (sym (set_more (down_from a.top a.set) i (sym now-has ∙ w.if-has.true))))
      | else-has w ↦ w.r-is ∙ (inv ∙ sym (set_no_more (down_from a.top a.set) i (sym now-has ∙ w.if-has.false)))
    ])

pub returns-after-has : goal.returns-after-has
returns-after-has c = let a = c.args in
    let i = c.loop-i.i in
    let inv = c.loop-i.invariant in
    let now-has = c.has.ensures in
    let e : i ≡ a.top = omega arith in
    let more : c.if-has.r ≡ set_of (down_from a.top a.set) (suc i) =
    elim c.if-has.branch [
      | then-has w ↦ w.r-is ∙ (rw (inv, w.pow2-r.ensures, pow_within i 32 (omega arith)) (sym (set_more (down_from a.top a.set) i (sym now-has ∙ w.if-has.true))))
      | else-has w ↦ w.r-is ∙ (inv ∙ sym (set_no_more (down_from a.top a.set) i (sym now-has ∙ w.if-has.false)))
    ] in
    more ∙ ap (λ (n : ℕ). set_of (down_from a.top a.set) (suc n)) e
