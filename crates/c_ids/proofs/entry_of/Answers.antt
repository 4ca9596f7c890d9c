-- `c_ids::entry_of` meets its contract: what `check` lets through is a tile of the map.
use Rattle.errors.specs.Laws.{check_fine}
use Rattle.tile.specs.OnMap.{accepted_on_map}
use Rattle.c_ids.proofs.entry_of.Goals as goal

pub entry-requires : goal.entry-requires
entry-requires c = accepted_on_map _ _ _ (check_fine c.in_ok-check.was c.check.ensures)
