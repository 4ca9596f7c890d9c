-- The lengths of several boxes together: one box after the other, and that the sum fits 64 bits.
use Rattle.std.specs.Prelude.{◌≡◌, refl, List, [], ◌∷◌, ℕ, ◌+◌, ◌*◌, ◌/◌, ◌^◌, ◌≤◌, ◌<◌, length}
use Rattle.std.proofs.Common.{mul-le-mul, mul-le-mul_right, arith, pow_mono}
use Rattle.constants.specs.Limits.{max_zoom, max_boxes}
use Rattle.tile_zbox.specs.Box.{box_length}
use Rattle.tile_zbox.specs.Laws.{length_within}
use Rattle.tile_zbox.specs.declared.TileZBox.{TileZBox}
use Rattle.tile_zbox_numbers.specs.Accepted.{Fine, fine_first, accepted_all_boxes}
use Rattle.tile_zbox_numbers.specs.Boxes.{sum_lengths, boxes_of, numbers_refusal}
use Rattle.tile_zbox_numbers.specs.Fives.{boxes_count}

-- the sum of as many boxes as are taken fits 64 bits, whatever their zoom
boxes_limit : max_boxes * (2 ^ max_zoom * 2 ^ max_zoom) < 2 ^ 64
unfolding max_boxes max_zoom
boxes_limit = omega arith

pub sum_within : (bs : List TileZBox) → Fine bs → sum_lengths bs ≤ length bs * (2 ^ max_zoom * 2 ^ max_zoom)
unfolding sum_lengths
sum_within [] f = omega arith
sum_within (b ∷ bs) f =
    let k = fine_first b bs f in
    let s : 2 ^ b.zoom ≤ 2 ^ max_zoom = pow_mono k.0.zoom in
    let m : 2 ^ b.zoom * 2 ^ b.zoom ≤ 2 ^ max_zoom * 2 ^ max_zoom = mul-le-mul s s in
    let i = sum_within bs k.1 in
    omega (arith, length_within k.0)

pub fine_fits : (bs : List TileZBox) → Fine bs → length bs ≤ max_boxes → sum_lengths bs < 2 ^ 64
fine_fits bs f h =
    let w = sum_within bs f in
    let m : length bs * (2 ^ max_zoom * 2 ^ max_zoom) ≤ max_boxes * (2 ^ max_zoom * 2 ^ max_zoom) =
    mul-le-mul_right (2 ^ max_zoom * 2 ^ max_zoom) h in
    omega (arith, boxes_limit)

pub sum_fits : (l : List ℕ) → numbers_refusal l ≡ 0 → sum_lengths (boxes_of l) < 2 ^ 64
sum_fits l e = let k = accepted_all_boxes l e in fine_fits (boxes_of l) k.fine (rw (boxes_count (length l / 5) l) k.few)

pub sum_step : (b : TileZBox) (bs : List TileZBox) → sum_lengths (b ∷ bs) ≡ box_length b + sum_lengths bs
unfolding sum_lengths
sum_step b bs = refl

pub sum_none : sum_lengths [] ≡ 0
unfolding sum_lengths
sum_none = refl
