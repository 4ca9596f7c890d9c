-- `tile_zboxes_iter::TileZBoxesIterator::next` meets its contract: what the sum of the boxes answers decides, and it counts the tiles.
use mathlib.Core.Path.{◌≡◌, sym, ap, ◌∙◌}
use Rattle.errors.specs.Cases.{number_case}
use Rattle.errors.specs.Laws.{answer_found}
use Rattle.tile_zbox_numbers.specs.Boxes.{boxes_of, sum_lengths, numbers_refusal}
use Rattle.tile_zboxes_iter.specs.Laws.{as_many_as_the_sum}
use Rattle.tile_zboxes_iter.proofs.TileZBoxesIterator.next.Goals as goal
use Rattle.tile_zboxes_iter.proofs.TileZBoxesIterator.next.Goals.{In_ok-total}

-- nothing is refused, and the sum is known
summed : (c : In_ok-total)
    → (numbers_refusal c.args.boxes.now ≡ 0)
    × (c.in_ok-total.total ≡ sum_lengths (boxes_of c.args.boxes.now))
summed c =
    let l = c.args.boxes.now in
    answer_found (numbers_refusal l) 0 (sum_lengths (boxes_of l)) _ (sym (ap number_case c.in_ok-total.was) ∙ c.boxes_length.ensures)

pub step-requires : goal.step-requires
step-requires c = let p = summed (goal.at.step-requires c).In_ok-total in
    record { boxes_value = p.0; total_value = p.1 ∙ sym (as_many_as_the_sum _) }

pub returns : goal.returns
returns c = rw (summed (goal.at.returns c).In_ok-total).0 c.step.ensures
