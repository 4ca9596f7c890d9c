-- `settled`: the list is in order, and its locations, in theirs, lie apart.
use Rattle.settled.specs.ByLocations.{not_in_order, sorted_locations, tested}
use Rattle.std.proofs.Common.{ap, not}
use Rattle.settled.proofs.settled.Goals as goal

pub returns-then-not-strictly_in_order : goal.returns-then-not-strictly_in_order
returns-then-not-strictly_in_order c = let s = c.strictly_in_order in
    not_in_order c.args.list.now _ s.result s.ensures (ap not c.if-not-strictly_in_order.true)

pub apart-requires : goal.apart-requires
apart-requires c = sorted_locations c.args.list.now c.args.locations.now _ c.requires.0 c.requires.1 c.sort.ensures

pub returns : goal.returns
returns c = let s = c.strictly_in_order in
    tested c.args.list.now c.args.locations.now _ c.requires.0 c.requires.1 c.sort.ensures s.result s.ensures (ap not c.if-not-strictly_in_order.false) c.apart.result
    c.apart.ensures
