-- `enter` meets its contract: the keys are entered one by one, from the left.
use Rattle.std.specs.Prelude.{Ok, Err, Some}
use mathlib.Core.Path.{◌≡◌, refl, sym, ap, subst, ◌∙◌}
use Prim.Native.Nat.{◌+◌, ◌<◌}
use native.Mathlib.Omega.{arith}
use lib.ListN.{length, drop}
use Rattle.std.proofs.lemmas.Result.{err_from_is_err_and}
use Rattle.form.specs.Words.{key_length}
use Rattle.form_area.specs.Entries.{none_entered, coming, coming_length, key_begun, key_refused, all_entered, whichever}
use Rattle.form_area.specs.Promised.{AllEntered}
use Rattle.form_area.proofs.enter.Goals as goal
use Rattle.form_area.proofs.enter.Goals.{In-Some}

pub loop-length-init : goal.loop-length-init
loop-length-init c = ((c.requires.0, c.requires.1, none_entered c.args.entries.now c.args.body.now c.requires.0 c.requires.1), refl)

told : (c : In-Some) → key_length (drop c.loop-length.at c.args.body.now) ≡ Some c.in-Some.length
told c = sym c.key_length.ensures ∙ c.in-Some.is

next : (c : In-Some) → (0 < c.in-Some.length) × (c.loop-length.at + c.in-Some.length < length c.args.body.now)
next c =
    let L = c.loop-length in
    let k = coming L.at L.n L.entries c.args.body.now L.invariant.0 c.in-Some.length (told c) in
    let l = coming_length L.at L.n L.entries c.args.body.now L.invariant.0 c.in-Some.length (told c) in
    (omega (arith, l), omega (arith, l, k.within))

pub overflow_add-next : goal.overflow_add-next
overflow_add-next c = let k = next (goal.at.overflow_add-next c).In-Some in omega (arith, k.1, k.0, c.well_formed)

pub slice_bounds-keep-count : goal.slice_bounds-keep-count
slice_bounds-keep-count c = omega (arith, (next (goal.at.slice_bounds-keep-count c).In-Some).0)

pub slice_bounds-keep-start : goal.slice_bounds-keep-start
slice_bounds-keep-start c = omega (arith, (next (goal.at.slice_bounds-keep-start c).In-Some).0)

pub slice_bounds-keep-end : goal.slice_bounds-keep-end
slice_bounds-keep-end c = let k = next (goal.at.slice_bounds-keep-end c).In-Some in omega (arith, k.0, k.1)

pub returns-in_err-keep : goal.returns-in_err-keep
returns-in_err-keep c = let L = c.loop-length in
    let p = err_from_is_err_and c.from_residual.result c.from_residual.ensures.1 in
    subst (λ r. AllEntered c.args.body.now r c.keep.new.entries) (sym (p.1 ∙ ap (λ w. Err w) p.2))
    (key_refused L.at L.n L.entries c.args.body.now L.invariant.0 c.in-Some.length (told (goal.at.returns-in_err-keep c).In-Some) c.keep.result
    c.in_err-keep.field-0.0 c.keep.new.entries c.keep.ensures c.in_err-keep.was)

pub loop-length-smaller : goal.loop-length-smaller
loop-length-smaller c = let k = next (goal.at.loop-length-smaller c).In-Some in omega (arith, k.0, k.1)

pub loop-length-preserved : goal.loop-length-preserved
loop-length-preserved c = let L = c.loop-length in (
  key_begun L.at L.n L.entries c.args.body.now L.invariant.0 c.in-Some.length (told (goal.at.loop-length-preserved c).In-Some) c.keep.result
      c.keep.new.entries c.keep.ensures c.in_ok-keep.was,
  c.keep.auto.entries ∙ L.invariant.1,
)

pub returns : goal.returns
returns c = let L = c.loop-length in let b = L.invariant.0 in
    whichever (Ok L.n) L.entries c.args.body.now b.0 b.1
    (all_entered L.at L.n L.entries c.args.body.now b.0 b.2 (sym c.key_length.ensures ∙ c.in_default.is))
