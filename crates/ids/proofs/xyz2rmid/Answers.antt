-- `ids::xyz2rmid` meets its contract: what `check` says decides.
use Rattle.errors.specs.Laws.{check_fine}
use Rattle.tile.specs.OnMap.{accepted_on_map}
use Rattle.ids.proofs.xyz2rmid.Goals as goal

pub rmid-requires : goal.rmid-requires
rmid-requires c = accepted_on_map _ _ _ (check_fine c.in_ok-check.was c.check.ensures)

pub returns : goal.returns
returns c = rw (check_fine c.in_ok-check.was c.check.ensures, c.rmid.ensures)
