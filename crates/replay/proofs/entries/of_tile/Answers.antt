-- `replay::entries::of_tile` is safe: the tile was checked.
use Rattle.errors.specs.Laws.{check_fine}
use Rattle.tile.specs.OnMap.{accepted_on_map}
use Rattle.replay.proofs.entries.of_tile.Goals as goal

pub entry-requires : goal.entry-requires
entry-requires c = accepted_on_map _ _ _ (check_fine c.in-Ok.is c.check.ensures)
