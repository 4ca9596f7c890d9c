-- `boxes_length`: there is room for each box's length, and after the last box the answer is the one for all.
use Rattle.std.proofs.Common.{◌∙◌, length}
use Rattle.tile_zboxes.specs.SoFar.{with_next, room_for_next}
use Rattle.tile_zboxes.proofs.boxes_length.Goals as goal

pub with_box-sum-requires : goal.with_box-sum-requires
with_box-sum-requires c = rw c.loop-b.invariant (room_for_next c.loop-b.b-index c.args.boxes.now c.loop-b-test.true)

pub loop-b-preserved : goal.loop-b-preserved
loop-b-preserved c = c.with_box-sum.ensures ∙ rw c.loop-b.invariant (with_next (length c.args.boxes.now) c.loop-b.b-index c.args.boxes.now c.loop-b-test.true)
