-- `KeyReader::after` meets its contract: too many bytes are too many for ever, and a bad one stays bad; the rest is `spell`'s.
use mathlib.Core.Path.{sym, ◌∙◌}
use native.Mathlib.Omega.{arith}
use Rattle.constants.specs.Limits.{max_zoom}
use Rattle.key_reader.specs.Left.{left_many, passes_left, passes_on_map}
use Rattle.key_reader.specs.Steps.{after_left_bad, after_left_many}
use Rattle.key_reader.proofs.KeyReader.after.Goals as goal

pub returns-then-count-gt-MAX_ZOOM : goal.returns-then-count-gt-MAX_ZOOM
unfolding max_zoom
returns-then-count-gt-MAX_ZOOM c = left_many (passes_left _ c.requires) c.if-count-gt-MAX_ZOOM.true ∙ sym (after_left_many _ _ (omega (arith, c.if-count-gt-MAX_ZOOM.true)))

pub returns-then-bytes-count : goal.returns-then-bytes-count
unfolding max_zoom
returns-then-bytes-count c = c.blank.ensures ∙ sym (after_left_many _ _ (omega (arith, c.if-bytes-count.true, c.if-count-gt-MAX_ZOOM.false)))

pub returns-then-self : goal.returns-then-self
unfolding max_zoom
returns-then-self c = c.blank-then-self.ensures
    ∙ sym (after_left_bad _ (passes_left _ c.requires) c.if-self.true (omega (arith, c.if-bytes-count.false, c.if-count-gt-MAX_ZOOM.false)))

pub spell-requires : goal.spell-requires
unfolding max_zoom
spell-requires c = let first = c.if-count-gt-MAX_ZOOM.false in
    record { on_map = passes_on_map (passes_left _ c.requires) c.if-self.false first; bad_value = c.if-self.false; bytes_bound = omega (arith, c.if-bytes-count.false, first) }
