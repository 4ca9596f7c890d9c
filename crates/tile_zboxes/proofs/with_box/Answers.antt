-- `tile_zboxes::with_box` meets its contract: two lengths are added, and of the refusals the one that is tested first stands.
use mathlib.Core.Path.{refl, sym}
use Rattle.errors.specs.Laws.{refused_answer}
use Rattle.errors.specs.Turn.{first_of, first_alone}
use Rattle.tile_zboxes.specs.SoFar.{◌plus◌}
use Rattle.tile_zboxes.proofs.with_box.Goals as goal

pub returns-in-Ok-Ok : goal.returns-in-Ok-Ok
unfolding ◌plus◌ first_of
returns-in-Ok-Ok c = rw (← c.length.ensures, c.in-Ok-Ok.is-0, c.in-Ok-Ok.is-1)

pub returns-in-Ok-Err : goal.returns-in-Ok-Err
unfolding ◌plus◌ first_of
returns-in-Ok-Err c = rw (← c.length.ensures, c.in-Ok-Err.is-0, c.in-Ok-Err.is-1) (refused_answer c.in-Ok-Err.why 0 _ refl)

pub returns-in-Err-Ok : goal.returns-in-Err-Ok
unfolding ◌plus◌
returns-in-Err-Ok c = rw (← c.length.ensures, c.in-Err-Ok.is-0, c.in-Err-Ok.is-1, first_alone) (refused_answer c.in-Err-Ok.before 0 _ refl)

pub returns-in-Err-Err : goal.returns-in-Err-Err
unfolding ◌plus◌
returns-in-Err-Err c = rw (← c.length.ensures, c.in-Err-Err.is-0, c.in-Err-Err.is-1) (refused_answer c.first.result 0 _ (sym c.first.ensures))
