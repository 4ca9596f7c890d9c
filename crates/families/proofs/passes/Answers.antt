-- `passes`: after each turn the front holds the set after one pass more.
use mathlib.Core.Path.{refl, sym, ◌∙◌}
use Prim.Native.Nat.{◌≤◌}
use native.Mathlib.Omega.{arith}
use borrow.Author.Rules.{rules}
use lib.ListN.{length, take}
use lib.Seq.{length-take-le}
use Rattle.bits.specs.Tests.{not_true}
use Rattle.constants.specs.Limits.{max_zoom}
use Rattle.families.specs.Turns.{first_turn, next_turn, last_turn, turned_all}
use Rattle.families.proofs.passes.Goals as goal

pub loop-init : goal.loop-init
unfolding max_zoom
loop-init c = let a = c.args in (first_turn a.m (take a.count a.codes.now) a.codes.now a.count c.requires.count_in_bounds.0 c.requires.tile_numbers refl, refl, refl)

pub slice_bounds-sorted_pass-end-in-loop : goal.slice_bounds-sorted_pass-end-in-loop
slice_bounds-sorted_pass-end-in-loop c = let L = c.loop in sym (length-take-le L.left L.codes L.invariant.0.within)

pub slice_bounds-sorted_pass-end-in-loop-3 : goal.slice_bounds-sorted_pass-end-in-loop-3
slice_bounds-sorted_pass-end-in-loop-3 c = let L = c.loop in
    let h : L.left ≤ length L.scratch = omega (arith, c.requires.count_in_bounds.1, L.invariant.0.within, L.invariant.1, L.invariant.2) in
    sym (length-take-le L.left L.scratch h)

pub sorted_pass-joined-requires : goal.sorted_pass-joined-requires
sorted_pass-joined-requires c = let L = c.loop in
    let h : L.left ≤ length L.scratch = omega (arith, c.requires.count_in_bounds.1, L.invariant.0.within, L.invariant.1, L.invariant.2) in
    (L.invariant.0.numbers, length-take-le L.left L.codes L.invariant.0.within ∙ sym (length-take-le L.left L.scratch h))

pub returns-then-not-joined : goal.returns-then-not-joined
unfolding max_zoom
returns-then-not-joined c = let a = c.args in
    let L = c.loop in
    let P = c.sorted_pass-joined in
    last_turn a.m (take a.count a.codes.now) L.codes L.left L.counter L.invariant.0 (omega arith) P.new.codes _ P.result P.ensures (not_true _ c.if-not-joined.true)

pub loop-preserved : goal.loop-preserved
unfolding max_zoom
loop-preserved c = let a = c.args in
    let L = c.loop in
    let P = c.sorted_pass-joined in
    (next_turn a.m (take a.count a.codes.now) L.codes L.left L.counter L.invariant.0 (omega arith) P.new.codes _ P.result P.ensures, search rules, search rules)

pub returns : goal.returns
unfolding max_zoom
returns c = let L = c.loop in let a = c.args in
    turned_all a.m (take a.count a.codes.now) L.codes L.left L.counter L.invariant.0 (omega arith)
