-- `parent::Parents::next` meets its contract: what `check` lets through is a tile of the map.
use Rattle.errors.specs.Laws.{check_fine}
use Rattle.tile.specs.OnMap.{accepted_on_map}
use Rattle.parent.proofs.Parents.next.Goals as goal

pub above-current-requires : goal.above-current-requires
above-current-requires c = accepted_on_map _ _ _ (check_fine c.in_ok-check.was c.check.ensures)
