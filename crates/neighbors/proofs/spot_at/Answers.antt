-- `neighbors::spot_at` meets its contract: its tests are those of `step_on_map`, for the row and then the column.
use native.Mathlib.Omega.{arith}
use Rattle.tile.specs.OnMap.{on_map_small, side_small}
use Rattle.neighbors.proofs.spot_at.Goals as goal

pub overflow_add-across : goal.overflow_add-across
overflow_add-across c = omega (arith, c.from.ensures, (on_map_small c.requires.on_map).0)

pub overflow_add-along : goal.overflow_add-along
overflow_add-along c = omega (arith, c.from-2.ensures, (on_map_small c.requires.on_map).1)

pub overflow_add-result : goal.overflow_add-result
overflow_add-result c = omega (arith, c.from.ensures, (on_map_small c.requires.on_map).0, side_small c.requires.on_map.zoom, c.requires.end_value)
