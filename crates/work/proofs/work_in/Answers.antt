-- `work_in` hands the lists to what is done with them.
use mathlib.Core.Path.{sym}
use native.Mathlib.Omega.{arith}
use lib.ListN.{length}
use lib.Seq.{length-take-le}
use Rattle.work.specs.One.{test_in_memory}
use Rattle.work.specs.Told.{known_whole}
use Rattle.work.specs.declared.Work.TheVariants.{Simplified, Tested, Overlaid}
use Rattle.work.proofs.work_in.Goals as goal

pub slice_bounds-simplified-end-in-Simplified : goal.slice_bounds-simplified-end-in-Simplified
slice_bounds-simplified-end-in-Simplified c = sym (length-take-le (length c.args.a.now) c.args.keys.now (omega (arith, c.requires.room)))

pub simplified-requires : goal.simplified-requires
simplified-requires c = (sym (length-take-le (length c.args.a.now) c.args.keys.now (omega (arith, c.requires.room))), c.requires.first_few)

pub slice_bounds-tested-end-in-Tested : goal.slice_bounds-tested-end-in-Tested
slice_bounds-tested-end-in-Tested c = sym (length-take-le (length c.args.a.now) c.args.keys.now (omega (arith, c.requires.room)))

pub tested-requires : goal.tested-requires
tested-requires c = sym (length-take-le (length c.args.a.now) c.args.keys.now (omega (arith, c.requires.room)))

pub returns-in-Simplified : goal.returns-in-Simplified
returns-in-Simplified c = known_whole (Simplified c.in-Simplified.which) c.args.m c.simplified.result c.args.a.now c.args.b.now _ c.args.out.now
    c.in-Simplified.is c.requires c.simplified.ensures

pub returns-in-Tested : goal.returns-in-Tested
returns-in-Tested c = known_whole Tested c.args.m c.tested.result c.args.a.now c.args.b.now _ c.args.out.now c.in-Tested.is c.requires
    (test_in_memory c.tested.result c.args.m c.args.a.now c.args.b.now c.args.out.now c.tested.ensures)

pub returns-in-Overlaid : goal.returns-in-Overlaid
returns-in-Overlaid c = known_whole (Overlaid c.in-Overlaid.which) c.args.m c.overlaid.result c.args.a.now c.args.b.now _ c.args.out.now
    c.in-Overlaid.is c.requires c.overlaid.ensures
