-- `keys_length` meets its contract: after i turns the length of the first i keys is counted.
use mathlib.Core.Path.{refl, ap, ◌∙◌}
use mathlib.Core.List.{List}
use Prim.Native.Nat.{ℕ}
use native.Mathlib.Omega.{arith}
use lib.ListN.{length}
use lib.Seq.{take_all}
use Rattle.constants.specs.Limits.{form_places}
use Rattle.form.specs.Form.{spaced}
use Rattle.form_line.specs.Line.{keys_text}
use Rattle.form_line.specs.Text.{fits_entry, keys_length_more, keys_within, keys_short}
use Rattle.form_line.proofs.keys_length.Goals as goal

pub loop-entry-init : goal.loop-entry-init
unfolding spaced
loop-entry-init c = refl

pub key_length-requires : goal.key_length-requires
key_length-requires c = fits_entry _ _ c.requires c.loop-entry-test.true

pub overflow_add-n : goal.overflow_add-n
unfolding form_places
overflow_add-n c = let list = c.args.list.now in
    let f = c.requires in
    let i = c.loop-entry.entry-index in
    omega (arith, c.key_length.ensures, keys_within list i c.loop-entry-test.true, keys_short list f)

pub overflow_add-n-in-loop-entry : goal.overflow_add-n-in-loop-entry
unfolding form_places
overflow_add-n-in-loop-entry c = let list = c.args.list.now in
    let f = c.requires in
    let i = c.loop-entry.entry-index in
    omega (arith, c.key_length.ensures, c.loop-entry.invariant, keys_within list i c.loop-entry-test.true, keys_short list f)

pub loop-entry-preserved : goal.loop-entry-preserved
loop-entry-preserved c = let list = c.args.list.now in
    omega (arith, c.key_length.ensures, c.loop-entry.invariant, keys_length_more list c.loop-entry.entry-index c.loop-entry-test.true)

pub returns : goal.returns
returns c = let list = c.args.list.now in
    c.loop-entry.invariant ∙ ap (λ (l : List ℕ). length (keys_text l)) (take_all _ list c.loop-entry-test.false)
