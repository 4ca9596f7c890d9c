-- `both_settled`: each list is tested in its part.
use mathlib.Core.Path.{sym, ◌∙◌}
use native.Mathlib.Omega.{arith}
use lib.ListN.{length}
use lib.Seq.{length-take-le}
use Rattle.exchange.specs.Laws.{second_part}
use Rattle.work.specs.Pairs.{both_entries, first_keys, second_keys, first_not_settled, settled_both}
use Rattle.std.proofs.Common.{ap, not}
use Rattle.work.proofs.both_settled.Goals as goal

pub slice_bounds-settled-end-2 : goal.slice_bounds-settled-end-2
slice_bounds-settled-end-2 c = sym (length-take-le (length c.args.a.now) c.args.keys.now (omega (arith, c.requires.0)))

pub settled-requires : goal.settled-requires
settled-requires c = let k = c.requires.1 in ((both_entries k).0, first_keys k)

pub returns-then-not-settled : goal.returns-then-not-settled
returns-then-not-settled c = first_not_settled c.settled.ensures (ap not c.if-not-settled.true)

pub settled-requires-2 : goal.settled-requires-2
settled-requires-2 c = (
  (both_entries c.requires.1).1,
  second_part c.args.keys.now c.settled.new.locations (length c.args.a.now) (omega (arith, c.requires.0)) c.settled.auto.locations
      ∙ second_keys c.requires.1,
)

pub returns : goal.returns
returns c = settled_both c.args.a.now c.args.b.now c.args.keys.now c.settled.new.locations c.requires.0 c.settled.auto.locations c.settled.ensures
    (ap not c.if-not-settled.false) c.settled-2.ensures
