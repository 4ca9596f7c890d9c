-- `KeyReader::is_reader` meets its contract: its tests are those of `is_reader`, kind by kind.
use Rattle.std.specs.Prelude.{◌≡◌, false, ◌≤◌, Result, Ok, Err, is_ok, ⊤}
use Rattle.std.proofs.Common.{sym, ◌∙◌}
use borrow.Author.Tests.{eq-eqb, ne_eqb, lt-ltb, le-ltb}
use Rattle.constants.specs.Limits.{max_zoom}
use Rattle.errors.specs.Cases.{check_number}
use Rattle.errors.specs.Laws.{never_zero}
use Rattle.errors.specs.declared.Refusal.{Refusal}
use Rattle.tile.specs.OnMap.{accepted_on_map, on_map_accepted, tile_refusal}
use Rattle.key_reader.specs.Left.{bad_and_many_fails, bad_passes, many_passes, off_map_fails, on_map_passes}
use Rattle.key_reader.specs.Reader.{is_reader}
use Rattle.key_reader.specs.declared.KeyReader.{KeyReader}
use Rattle.key_reader.proofs.KeyReader.is_reader.Goals as goal

pub returns-then-count-gt-MAX_ZOOM : goal.returns-then-count-gt-MAX_ZOOM
unfolding max_zoom
returns-then-count-gt-MAX_ZOOM c = sym (bad_and_many_fails _ c.if-self.true c.if-count-gt-MAX_ZOOM.true)

pub returns-then-count-gt0 : goal.returns-then-count-gt0
unfolding max_zoom
returns-then-count-gt0 c = c.is_blank.ensures ∙ sym (bad_passes _ c.if-self.true c.if-count-gt-MAX_ZOOM.false ∙ rw (lt-ltb _ _ c.if-count-gt0.true))

pub returns-else-count-gt0 : goal.returns-else-count-gt0
unfolding max_zoom
returns-else-count-gt0 c = sym (bad_passes _ c.if-self.true c.if-count-gt-MAX_ZOOM.false ∙ rw (le-ltb _ _ c.if-count-gt0.false))

pub returns-then-count : goal.returns-then-count
unfolding max_zoom
returns-then-count c = c.is_blank-then-count.ensures ∙ sym (many_passes _ c.if-self.false c.if-count-gt-MAX_ZOOM-2.true ∙ rw (eq-eqb _ _ c.if-count.true))

pub returns-else-count : goal.returns-else-count
unfolding max_zoom
returns-else-count c = sym (many_passes _ c.if-self.false c.if-count-gt-MAX_ZOOM-2.true ∙ rw (ne_eqb _ _ c.if-count.false))

-- what `check` says of the column, the row and the count decides
decided : (reader : KeyReader) (r : Result ⊤ Refusal) → reader.bad ≡ false → reader.count ≤ max_zoom
    → check_number r ≡ tile_refusal reader.x reader.y reader.count → is_ok r ≡ is_reader reader
decided reader (Ok v) good few e = sym (on_map_passes reader good (accepted_on_map _ _ _ (sym e)))
decided reader (Err why) good few e = sym (off_map_fails reader good few (λ m. never_zero why (e ∙ on_map_accepted m)))

pub returns : goal.returns
unfolding max_zoom
returns c = c.is_ok.ensures.value ∙ decided c.args.self c.check.result c.if-self.false c.if-count-gt-MAX_ZOOM-2.false c.check.ensures
