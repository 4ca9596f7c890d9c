-- `fns::flipy` meets its contract: on the map the row is below 2 ^ z, so nothing wraps.
use Rattle.std.proofs.Common.{rules, arith}
use Rattle.tile.specs.OnMap.{on_map_accepted, column_zero, side_found}
use Rattle.fns.proofs.flipy.Goals as goal

pub overflow_sub-result-2 : goal.overflow_sub-result-2
overflow_sub-result-2 c = let k = side_found 0 _ _ c.side.ensures c.in_ok-end.was in omega (arith, k.1, k.0.row)

pub returns : goal.returns
returns c = let k = side_found 0 _ _ c.side.ensures c.in_ok-end.was in
    rw (← column_zero c.args.y c.args.z, on_map_accepted k.0, k.1)

pub returns-in_err-end : goal.returns-in_err-end
returns-in_err-end c = rw (← column_zero c.args.y c.args.z) (search rules)
