-- `tile::Tile::flip` meets its contract: on the map the row is below 2 ^ z, so nothing wraps.
use Rattle.std.proofs.Common.{arith}
use Rattle.tile.specs.OnMap.{side_found}
use Rattle.tile.proofs.Tile.flip.Goals as goal

pub overflow_sub-result-2 : goal.overflow_sub-result-2
overflow_sub-result-2 c = let k = side_found _ _ _ c.side.ensures c.in_ok-end.was in omega (arith, k.1, k.0.row)
