-- What the definitions of this crate come to, in document 01's words. Nothing is assumed.
use Rattle.std.specs.Prelude.{◌≡◌, refl, true, false, ℕ, ◌/◌, ◌%◌, ◌≤◌, ◌<◌, length}
use Rattle.std.proofs.Common.{ap, ◌∙◌, arith, lt-ltb, le-ltb}
use mathlib.Core.List.{List, [], ◌∷◌, Memᴰ}
use Rattle.bits.specs.Tests.{any_of, in_any}
use Rattle.constants.specs.Limits.{max_zoom, max_boxes}
use Rattle.tile_zbox.specs.Box.{wrong_edges}
use Rattle.tile_zbox.specs.declared.TileZBox.{TileZBox}
use Rattle.tile_zbox_numbers.specs.Accepted.{any_of_empty, Fine, over_accepted, whole_refusal_lem}
use Rattle.tile_zbox_numbers.specs.Boxes.{deep, refusal_over, sum_lengths, boxes_length_of, boxes_from, boxes_of, numbers_length_of}
use Rattle.tile_zbox_numbers.specs.Boxes.{numbers_of}
use Rattle.tile_zbox_numbers.specs.Fives.{numbers_length}

-- five numbers for each box lead back to the boxes
pub the_numbers_lead_back : (bs : List TileZBox) → boxes_from (length bs) (numbers_of bs) ≡ bs
unfolding boxes_from numbers_of
the_numbers_lead_back [] = refl
the_numbers_lead_back (b ∷ bs) = ap (λ (l : List TileZBox). b ∷ l) (the_numbers_lead_back bs)

-- five numbers for each box are answered as the boxes are, refused or not
pub numbers_as_boxes : (l : List ℕ) → length l % 5 ≡ 0 → numbers_length_of l ≡ boxes_length_of (boxes_of l)
numbers_as_boxes l e = rw (whole_refusal_lem l e)

pub boxes_as_numbers : (bs : List TileZBox) → numbers_length_of (numbers_of bs) ≡ boxes_length_of bs
boxes_as_numbers bs =
    let n : length (numbers_of bs) / 5 ≡ length bs = omega (arith, numbers_length bs) in
    let e : boxes_of (numbers_of bs) ≡ bs = ap (λ (k : ℕ). boxes_from k (numbers_of bs)) n ∙ the_numbers_lead_back bs in
    numbers_as_boxes (numbers_of bs) (omega (arith, numbers_length bs)) ∙ ap boxes_length_of e

-- the sum of the lengths, overlaps counted twice, of boxes of the map that are not too many
pub boxes_length_is_the_sum : (bs : List TileZBox) → Fine bs → length bs ≤ max_boxes
    → boxes_length_of bs ≡ record { number = 0; value = sum_lengths bs }
boxes_length_is_the_sum bs f h = let a = over_accepted f h in rw a

-- one box of a zoom above the deepest is 1, however many there are; without one, too many are 6, whatever their edges; and a wrong one
-- among a few is 10
pub a_deep_box_is_1 : (bs : List TileZBox) (b : TileZBox) → Memᴰ b bs → max_zoom < b.zoom
    → boxes_length_of bs ≡ record { number = 1; value = 0 }
unfolding refusal_over
a_deep_box_is_1 bs b m h = rw (in_any deep bs m (lt-ltb _ _ h))

pub too_many_boxes_are_6 : (bs : List TileZBox) → any_of deep bs ≡ false → max_boxes < length bs
    → boxes_length_of bs ≡ record { number = 6; value = 0 }
unfolding refusal_over
too_many_boxes_are_6 bs e h = rw (e, lt-ltb _ _ h)

pub a_wrong_box_is_10 : (bs : List TileZBox) (b : TileZBox) → any_of deep bs ≡ false → length bs ≤ max_boxes → Memᴰ b bs
    → wrong_edges b ≡ true → boxes_length_of bs ≡ record { number = 10; value = 0 }
unfolding refusal_over
a_wrong_box_is_10 bs b e h m w = rw (e, le-ltb _ _ h, in_any wrong_edges bs m w)

-- document 03: "No box: 0"
pub no_box_is_0 : boxes_length_of [] ≡ record { number = 0; value = 0 }
unfolding sum_lengths
no_box_is_0 = boxes_length_is_the_sum [] none (omega arith)
  where
    none : Fine []
    none = record { shallow = any_of_empty deep; edges = any_of_empty wrong_edges }
