-- `tested` decides the last refusal, and tests the list by the keys that this left.
use mathlib.Core.Path.{sym}
use Rattle.bits.specs.Tests.{not_false}
use Rattle.quadtree.specs.Lists.{keys_refused, keys_fine}
use Rattle.work.specs.One.{test_no_tile, test_told}
use Rattle.std.proofs.Common.{ap, not}
use Rattle.work.proofs.tested.Goals as goal

pub returns-then-not-keys : goal.returns-then-not-keys
returns-then-not-keys c = test_no_tile c.args.a.now
    (keys_refused _ _ _ _ c.keys.ensures (ap not c.if-not-keys.true))

pub settled-requires : goal.settled-requires
settled-requires c = let f = (ap not c.if-not-keys.false) in
    (sym (keys_fine _ _ _ _ c.keys.ensures f), c.keys.ensures.keys (not_false _ f))

pub returns : goal.returns
returns c = test_told c.args.a.now c.settled.result
    (keys_fine _ _ _ _ c.keys.ensures (ap not c.if-not-keys.false)) c.settled.ensures.answer
