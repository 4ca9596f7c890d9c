-- `fns::minmax` meets its contract: column 0 and row 0 are on every zoom.
use Rattle.std.proofs.Common.{rules, arith, pow_pos}
use Rattle.tile.specs.OnMap.{on_map_accepted, corner_zero, side_found}
use Rattle.fns.proofs.minmax.Goals as goal

pub overflow_sub-result : goal.overflow_sub-result
overflow_sub-result c = let k = side_found 0 0 _ c.side.ensures c.in_ok-end.was in omega (arith, k.1, pow_pos c.args.zoom)

pub returns : goal.returns
returns c = let k = side_found 0 0 _ c.side.ensures c.in_ok-end.was in
    rw (← corner_zero c.args.zoom, on_map_accepted k.0, k.1)

pub returns-in_err-end : goal.returns-in_err-end
returns-in_err-end c = rw (← corner_zero c.args.zoom) (search rules)
