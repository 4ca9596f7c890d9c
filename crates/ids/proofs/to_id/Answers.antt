-- `ids::to_id` meets its contract: the zoom decides, then what `check` says.
use borrow.Author.Tests.{lt-ltb}
use Rattle.constants.specs.Limits.{max_id_zoom}
use Rattle.std.proofs.Common.{rules}
use Rattle.errors.specs.Laws.{check_fine}
use Rattle.tile.specs.OnMap.{accepted_on_map}
use Rattle.ids.specs.Id.{id_tile_refusal}
use Rattle.ids.specs.IdBits.{shallow_refusal}
use Rattle.ids.proofs.to_id.Goals as goal

pub returns-then-z-gt-MAX_ID_ZOOM : goal.returns-then-z-gt-MAX_ID_ZOOM
unfolding id_tile_refusal max_id_zoom
returns-then-z-gt-MAX_ID_ZOOM c = rw (lt-ltb _ _ c.if-z-gt-MAX_ID_ZOOM.true)

pub id-requires : goal.id-requires
unfolding max_id_zoom
id-requires c = record { on_map = accepted_on_map _ _ _ (check_fine c.in_ok-check.was c.check.ensures); zoom = c.if-z-gt-MAX_ID_ZOOM.false }

pub returns : goal.returns
unfolding max_id_zoom
returns c = rw (shallow_refusal _ _ _ c.if-z-gt-MAX_ID_ZOOM.false, check_fine c.in_ok-check.was c.check.ensures, c.id.ensures)

pub returns-in_err-check : goal.returns-in_err-check
unfolding max_id_zoom
returns-in_err-check c = rw (shallow_refusal _ _ _ c.if-z-gt-MAX_ID_ZOOM.false) (search rules)
