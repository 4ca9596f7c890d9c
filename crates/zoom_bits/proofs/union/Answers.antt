-- `zoom_bits::union` meets its contract: the set holds the zooms before this one.
use mathlib.Core.Path.{refl, sym}
use mathlib.Core.Bool.{false}
use Prim.Native.Nat.{suc}
use native.Mathlib.Omega.{arith}
use lib.ListN.{get_or}
use Rattle.bits.specs.Powers.{pow_within}
use Rattle.zoom_bits.specs.Bits.{last_zoom, zooms_in}
use Rattle.zoom_bits.specs.Listed.{set_of_next, none_deeper}
use Rattle.zoom_bits.specs.Sets.{set_none}
use native.Mathlib.Numerals.{add-one}
use Rattle.zoom_bits.proofs.union.Goals as goal

pub loop-z-init : goal.loop-z-init
unfolding zooms_in
loop-z-init c = sym (set_none (λ z. false) (suc last_zoom) (λ z h. refl))

pub loop-z-preserved : goal.loop-z-preserved
loop-z-preserved c = let zvec = c.args.zvec.now in
    let i = c.loop-z.z-index in
    let h = c.loop-z-test.true in
    let e = c.requires in
    rw (c.loop-z.invariant, c.pow2-set.ensures, pow_within (get_or zvec i 0) 32 (omega (arith, none_deeper zvec i e h)), add-one) (set_of_next zvec i e h)
