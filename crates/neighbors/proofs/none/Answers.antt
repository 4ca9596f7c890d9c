-- `neighbors::none` meets its contract: what `check` says decides.
use Rattle.errors.specs.Laws.{check_fine}
use Rattle.neighbors.proofs.none.Goals as goal

pub returns : goal.returns
returns c = rw (check_fine c.in_ok-check.was c.check.ensures)
