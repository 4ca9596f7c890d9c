-- Boxes as arrays of five numbers: each array is a box, and what holds of all boxes holds of each.
use Rattle.std.specs.Prelude.{◌≡◌, refl, Bool, true, false, List, [], ◌∷◌, ◌++◌, map, ℕ, zero, suc, ◌+◌, ◌*◌, ◌/◌, ◌%◌, ◌≤◌, ◌<◌, ltb, length, take, drop, get_or}
use Rattle.std.specs.List.{list_any}
use Rattle.std.specs.Simd.{first_chunks}
use Rattle.std.proofs.Common.{sym, ap, ◌∙◌, arith, add-one, drop_of_length-le, drop-cons, ltb-false}
use Rattle.std.proofs.lemmas.List.Edits.{sets}
use Rattle.bits.specs.Tests.{any_of}
use Rattle.constants.specs.Limits.{max_zoom}
use Rattle.errors.specs.Memory.{front}
use Rattle.tile_zbox.specs.Box.{IsBox, no_box, wrong_edges, flipped, box_length}
use Rattle.tile_zbox.specs.Laws.{edges_fine}
use Rattle.tile_zbox.specs.declared.TileZBox.{TileZBox}
use Rattle.tile_zbox_numbers.specs.Accepted.{Fine, any_here, any_later, none_of}
use Rattle.tile_zbox_numbers.specs.Boxes.{deep, sum_lengths, box_from, boxes_from, boxes_of, numbers, numbers_of, flipped_numbers}
use Rattle.tile_zbox_numbers.specs.Fives.{boxes_count, flipped_length, front_on}
use Rattle.tile_zbox_numbers.specs.Lengths.{sum_step}

-- the first n fives of numbers
abbrev pub fives : ℕ → List ℕ → List (List ℕ)
fives n list = first_chunks 5 n list

abbrev pub five_deep : List ℕ → Bool
five_deep five = ltb max_zoom (get_or five 0 0)

-- the box of five numbers is that of the list that starts with them
pub box_of_five : (l : List ℕ) → box_from (take 5 l) ≡ box_from l
box_of_five [] = refl
box_of_five (a ∷ []) = refl
box_of_five (a ∷ (b ∷ [])) = refl
box_of_five (a ∷ (b ∷ (c ∷ []))) = refl
box_of_five (a ∷ (b ∷ (c ∷ (d ∷ [])))) = refl
box_of_five (a ∷ (b ∷ (c ∷ (d ∷ (e ∷ l))))) = refl

first_of_five : (l : List ℕ) → get_or (take 5 l) 0 0 ≡ get_or l 0 0
first_of_five [] = refl
first_of_five (a ∷ l) = refl

pub deep_fives : (n : ℕ) (l : List ℕ) → list_any five_deep (fives n l) ≡ any_of deep (boxes_from n l)
unfolding any_of boxes_from
deep_fives zero l = refl
deep_fives (suc n) l = rw (first_of_five l, deep_fives n (drop 5 l))

pub fives_count : (n : ℕ) (l : List ℕ) → length (fives n l) ≡ n
fives_count zero l = refl
fives_count (suc n) l = ap suc (fives_count n (drop 5 l))

pub five_at : (n k : ℕ) (l d : List ℕ) → k < n → box_from (get_or (fives n l) k d) ≡ get_or (boxes_from n l) k no_box
unfolding boxes_from
five_at zero k l d h = absurd (omega arith)
five_at (suc n) zero l d h = box_of_five l
five_at (suc n) (suc k) l d h = five_at n k (drop 5 l) d (omega arith)

-- the array at a place is the box at that place; past the last array there is no box
pub turn_of : (l : List ℕ) (r : List (List ℕ)) (k : ℕ) → r ≡ fives (length l / 5) l → k < length r
    → (k < length (boxes_of l)) × (box_from (get_or r k []) ≡ get_or (boxes_of l) k no_box)
turn_of l r k e h =
    let n = length l / 5 in
    let g : k < n = omega (arith, ap (λ (x : List (List ℕ)). length x) e, fives_count n l) in
    (omega (arith, boxes_count n l), rw e (five_at n k l [] g))

pub past_of : (l : List ℕ) (r : List (List ℕ)) (k : ℕ) → r ≡ fives (length l / 5) l → length r ≤ k → drop k (boxes_of l) ≡ []
past_of l r k e h =
    let n = length l / 5 in
    drop_of_length-le (boxes_of l) {i = k} (omega (arith, ap (λ (x : List (List ℕ)). length x) e, fives_count n l, boxes_count n l))

-- what no box is, none at a place is
pub none_at : (p : TileZBox → Bool) (bs : List TileZBox) (k : ℕ) → any_of p bs ≡ false → k < length bs → p (get_or bs k no_box) ≡ false
none_at p [] k e h = absurd (omega arith)
none_at p (b ∷ bs) zero e h = (none_of p b bs e).0
none_at p (b ∷ bs) (suc k) e h = none_at p bs k (none_of p b bs e).1 (omega arith)

pub shallow_at : (bs : List TileZBox) (k : ℕ) → any_of deep bs ≡ false → k < length bs → (get_or bs k no_box).zoom ≤ max_zoom
shallow_at bs k e h = ltb-false _ _ (none_at deep bs k e h)

pub fine_at : (bs : List TileZBox) (k : ℕ) → Fine bs → k < length bs → IsBox (get_or bs k no_box)
fine_at bs k f h = edges_fine _ (shallow_at bs k f.shallow h) (none_at wrong_edges bs k f.edges h)

-- the boxes from a place on, one box on
pub any_from : (p : TileZBox → Bool) (bs : List TileZBox) (k : ℕ) → k < length bs → p (get_or bs k no_box) ≡ false
    → any_of p (drop k bs) ≡ any_of p (drop (k + 1) bs)
any_from p bs k h e = rw (drop-cons bs k no_box h, add-one k) (any_later p (get_or bs k no_box) (drop (suc k) bs) e)

pub any_found : (p : TileZBox → Bool) (bs : List TileZBox) (k : ℕ) → k < length bs → p (get_or bs k no_box) ≡ true
    → any_of p (drop k bs) ≡ true
any_found p bs k h e = rw (drop-cons bs k no_box h) (any_here p (get_or bs k no_box) (drop (suc k) bs) e)

pub sum_from : (bs : List TileZBox) (k : ℕ) → k < length bs
    → sum_lengths (drop k bs) ≡ box_length (get_or bs k no_box) + sum_lengths (drop (k + 1) bs)
sum_from bs k h = rw (drop-cons bs k no_box h, add-one k) (sum_step (get_or bs k no_box) (drop (suc k) bs))

-- the numbers of the boxes from a place on
numbers_from : (bs : List TileZBox) (k : ℕ) → k < length bs
    → drop (5 * k) (numbers_of (map flipped bs)) ≡ numbers (flipped (get_or bs k no_box)) ++ drop (5 * (k + 1)) (numbers_of (map flipped bs))
unfolding numbers_of
numbers_from [] k h = absurd (omega arith)
numbers_from (b ∷ bs) zero h = refl
numbers_from (b ∷ bs) (suc k) h =
    let e : 5 * suc k ≡ suc (suc (suc (suc (suc (5 * k))))) = omega arith in
    let f : 5 * (suc k + 1) ≡ suc (suc (suc (suc (suc (5 * (k + 1)))))) = omega arith in
    rw (e, f) (numbers_from bs k (omega arith))

-- one box more of those that are flipped
pub flip_at : (l memory : List ℕ) (k : ℕ) → k < length (boxes_of l) → length l % 5 ≡ 0 → length l ≤ length memory
    → sets (front (5 * k) (flipped_numbers l) memory) (5 * k) (numbers (flipped (get_or (boxes_of l) k no_box)))
    ≡ front (5 * (k + 1)) (flipped_numbers l) memory
flip_at l memory k h w m =
    let bs = boxes_of l in
    let n : 5 * (k + 1) ≡ 5 * k + 5 = omega arith in
    let r = drop (5 * (k + 1)) (flipped_numbers l) in
    let g = flipped_length l w in
    let c = boxes_count (length l / 5) l in
    front_on (flipped_numbers l) memory (numbers (flipped (get_or bs k no_box))) r (5 * k) (omega arith) (numbers_from bs k h) (omega arith)
    ∙ ap (λ (i : ℕ). front i (flipped_numbers l) memory) (sym n)
