-- `tile::Tile::step` meets its contract: two steps that are taken one by one, each on the axis, lead to the tile that `step_of` names.
use Rattle.std.proofs.Common.{sym, ap, ◌∙◌, arith}
use Rattle.std.specs.Result.{result_ok}
use Rattle.tile.specs.OnMap.{on_map_accepted, side_found}
use Rattle.tile.specs.Steps.{stepped_inside}
use Rattle.tile.proofs.Tile.step.Goals as goal

pub stepped-requires : goal.stepped-requires
stepped-requires c = let k = side_found _ _ _ c.side.ensures c.in_ok-end.was in omega (arith, k.1, k.0.column)

pub stepped-requires-2 : goal.stepped-requires-2
stepped-requires-2 c = let k = side_found _ _ _ c.side.ensures c.in_ok-end.was in omega (arith, k.1, k.0.row)

pub returns : goal.returns
returns c =
    let a = c.args in
    let k = side_found _ _ _ c.side.ensures c.in_ok-end.was in
    let x = stepped_inside a.across a.self.x _ (sym c.stepped.ensures ∙ c.ok_or.ensures.ok_part ∙ ap result_ok c.in_ok-x.was) in
    let y = stepped_inside a.along a.self.y _ (sym c.stepped-2.ensures ∙ c.ok_or-2.ensures.ok_part ∙ ap result_ok c.in_ok-y.was) in
    rw (on_map_accepted k.0, ← k.1, x.0, y.0, x.1, y.1)
