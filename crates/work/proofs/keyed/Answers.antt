-- `keyed`: the keys of each list in its part.
use mathlib.Core.Path.{sym}
use native.Mathlib.Omega.{arith}
use lib.ListN.{length}
use lib.Seq.{length-take-le}
use Rattle.work.specs.Pairs.{first_no_tile, keyed_both}
use Rattle.std.proofs.Common.{ap, not}
use Rattle.work.proofs.keyed.Goals as goal

pub slice_bounds-keys-end-2 : goal.slice_bounds-keys-end-2
slice_bounds-keys-end-2 c = sym (length-take-le (length c.args.a.now) c.args.keys.now (omega (arith, c.requires)))

pub keys-requires : goal.keys-requires
keys-requires c = sym (length-take-le (length c.args.a.now) c.args.keys.now (omega (arith, c.requires)))

pub returns-then-not-keys : goal.returns-then-not-keys
returns-then-not-keys c = first_no_tile c.keys.ensures (ap not c.if-not-keys.true)

pub returns : goal.returns
returns c = keyed_both c.args.a.now c.args.b.now c.args.keys.now c.keys.new.keys c.requires c.keys.auto.keys c.keys.ensures
    (ap not c.if-not-keys.false) c.keys-2.ensures
