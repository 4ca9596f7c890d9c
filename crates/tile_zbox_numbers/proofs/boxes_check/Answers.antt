-- `tile_zbox_numbers::boxes_check` meets its contract: each branch's test is the one that `numbers_refusal` makes there.
use mathlib.Core.Path.{◌≡◌, sym, ◌∙◌}
use mathlib.Core.Bool.{false}
use native.Mathlib.Omega.{arith}
use Rattle.bits.specs.Tests.{any_of}
use Rattle.constants.specs.Limits.{max_boxes}
use Rattle.tile_zbox_numbers.specs.Accepted.{boxes_deep, boxes_many, boxes_over, boxes_wrong, all_boxes_accepted}
use Rattle.tile_zbox_numbers.specs.Arrays.{deep_fives}
use Rattle.tile_zbox_numbers.specs.Boxes.{deep, boxes_of}
use Rattle.tile_zbox_numbers.proofs.boxes_check.Goals as goal
use Rattle.tile_zbox_numbers.proofs.boxes_check.Goals.{Else-any_deep}

pub returns-then-any_deep : goal.returns-then-any_deep
returns-then-any_deep c = sym (boxes_deep _ (sym (deep_fives _ _) ∙ rw c.fives.ensures at (sym c.any_deep.ensures ∙ c.if-any_deep.true)))

shallow : (c : Else-any_deep) → any_of deep (boxes_of c.args.boxes.now) ≡ false
shallow c = sym (deep_fives _ _) ∙ rw c.fives.ensures at (sym c.any_deep.ensures ∙ c.if-any_deep.false)

pub returns-then-boxes-gt-MAX_BOXES : goal.returns-then-boxes-gt-MAX_BOXES
unfolding max_boxes
returns-then-boxes-gt-MAX_BOXES c = sym (boxes_many _ (shallow (goal.at.returns-then-boxes-gt-MAX_BOXES c).Else-any_deep) (omega (arith, c.if-boxes-gt-MAX_BOXES.true)))

pub returns-then-boxes-ne0 : goal.returns-then-boxes-ne0
unfolding max_boxes
returns-then-boxes-ne0 c = sym (boxes_over _ (shallow (goal.at.returns-then-boxes-ne0 c).Else-any_deep) (omega (arith, c.if-boxes-gt-MAX_BOXES.false)) c.if-boxes-ne0.true)

pub any_wrong-requires : goal.any_wrong-requires
any_wrong-requires c = shallow (goal.at.any_wrong-requires c).Else-any_deep

pub returns-then-any_wrong : goal.returns-then-any_wrong
unfolding max_boxes
returns-then-any_wrong c = sym (boxes_wrong _ (shallow (goal.at.returns-then-any_wrong c).Else-any_deep) c.if-boxes-gt-MAX_BOXES.false (sym c.any_wrong.ensures ∙ c.if-any_wrong.true))

pub returns : goal.returns
unfolding max_boxes
returns c = sym (all_boxes_accepted
    (record {
      fine = record { shallow = shallow (goal.at.returns c).Else-any_deep; edges = sym c.any_wrong.ensures ∙ c.if-any_wrong.false };
      few =
          c.if-boxes-gt-MAX_BOXES.false;
      whole = c.if-boxes-ne0.false;
    }))
