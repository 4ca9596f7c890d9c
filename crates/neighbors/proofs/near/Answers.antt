-- `neighbors::near` meets its contract: zoom 0 has none, zoom 1 the siblings, and every other zoom those of the block of nine.
use Rattle.errors.specs.Laws.{else_none}
use Rattle.tile.specs.OnMap.{tile_refusal}
use Rattle.neighbors.specs.Memory.{none_written}
use Rattle.neighbors.specs.Squares.{neighbors_deep}
use Rattle.neighbors.proofs.near.Goals as goal

pub returns-in-0 : goal.returns-in-0
returns-in-0 c = rw c.in-0.is
    (none_written (tile_refusal c.args.x c.args.y 0) c.none.result _
    (rw c.in-0.is at c.none.ensures))

pub returns-in-1 : goal.returns-in-1
returns-in-1 c = let a = c.args in
    rw (← else_none (tile_refusal a.x a.y a.z), c.in-1.is)
    (rw c.in-1.is at c.siblings.ensures)

pub returns-in_default : goal.returns-in_default
returns-in_default c = let a = c.args in
    rw (neighbors_deep a.seam a.x a.y a.z c.in_default.in_default-own.rest.0.1 c.in_default.in_default-own.rest.1) c.around.ensures
