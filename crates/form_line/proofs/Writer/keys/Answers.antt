-- `keys` meets its contract: after i turns the first i keys are stored.
use mathlib.Core.Path.{refl, ◌∙◌}
use native.Mathlib.Omega.{arith}
use lib.ListN.{length}
use Rattle.form.specs.Form.{spaced}
use Rattle.form_line.specs.Stores.{stored_length, nothing_stored}
use Rattle.form_line.specs.Text.{fits_entry, keys_within, key_stored}
use Rattle.form_line.proofs.Writer.keys.Goals as goal

pub loop-entry-init : goal.loop-entry-init
unfolding spaced
loop-entry-init c = (refl, nothing_stored _ _)

pub byte-requires : goal.byte-requires
byte-requires c = let s = c.loop-entry.invariant.1 in
    omega (arith, stored_length s, s.behind, keys_within c.args.list.now c.loop-entry.entry-index c.loop-entry-test.true, c.requires.list_in_bounds)

pub key-requires-clause-entry : goal.key-requires-clause-entry
key-requires-clause-entry c = fits_entry _ _ c.requires.fits c.loop-entry-test.true

pub key-requires-clause-in_bounds : goal.key-requires-clause-in_bounds
key-requires-clause-in_bounds c = let s = c.loop-entry.invariant.1 in
    let t = c.byte.ensures.stored in
    omega (
      arith,
      stored_length s,
      s.behind,
      stored_length t,
      t.behind,
      keys_within c.args.list.now c.loop-entry.entry-index c.loop-entry-test.true,
      c.requires.list_in_bounds,
    )

pub loop-entry-preserved : goal.loop-entry-preserved
loop-entry-preserved c = (
  c.key.ensures.same_reference ∙ (c.byte.ensures.same_reference ∙ c.loop-entry.invariant.0),
  key_stored
      c.args.list.now
      c.loop-entry.entry-index
      c.loop-entry-test.true
      c.loop-entry.invariant.1
      c.byte.ensures.stored
      c.key.ensures.stored,
)
