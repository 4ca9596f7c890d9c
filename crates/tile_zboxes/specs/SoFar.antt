-- The answer for the boxes read so far: how it starts, what one box more adds to it, and that there is room for its length.
use Rattle.std.specs.Prelude.{◌≡◌, refl, Bool, true, false, ◌||◌, List, [], ◌∷◌, ◌++◌, ℕ, zero, suc, ◌+◌, ◌^◌, ◌≤◌, ◌<◌, ltb, length, take, get_or}
use Rattle.std.proofs.Common.{sym, ap, ◌∙◌, add_assoc, add-one, arith, take-suc, take_all, length-take-le, lt-ltb, le-ltb}
use Rattle.bits.specs.Tests.{any_of, any_append}
use Rattle.constants.specs.Limits.{max_boxes}
use Rattle.errors.specs.Answer.{Answer, answer, ◌when◌, ◌else◌}
use Rattle.errors.specs.Turn.{first_of, test_order, place_in, turn_of}
use Rattle.tile_zbox.specs.Box.{no_box, wrong_edges, box_refusal, box_length, length_of}
use Rattle.tile_zbox_numbers.specs.Boxes.{deep, refusal_over, sum_lengths, boxes_length_of}
use Rattle.tile_zbox.specs.Laws.{accepted_box, length_small}
use Rattle.tile_zbox_numbers.specs.Accepted.{any_of_empty, accepted_over, fine_more}
use Rattle.tile_zbox_numbers.specs.Lengths.{fine_fits, sum_step, sum_none}
use Rattle.tile_zbox.specs.declared.TileZBox.{TileZBox}

infixl 20 ◌plus◌
-- of n boxes in all, those read so far
abbrev pub boxes_so_far : ℕ → List TileZBox → Answer ℕ
boxes_so_far n bs = answer (refusal_over bs n) 0 (sum_lengths bs)

-- two answers as one: the refusal that is tested first, or else the sum
unfoldable pub ◌plus◌ : Answer ℕ → Answer ℕ → Answer ℕ
a plus b = answer (first_of a.number b.number) 0 (a.value + b.value)

pub none_of_many : (n : ℕ) → max_boxes < n → boxes_so_far n [] ≡ record { number = 6; value = 0 }
unfolding refusal_over
none_of_many n h = rw (any_of_empty deep, lt-ltb _ _ h)

pub none_of_few : (n : ℕ) → n ≤ max_boxes → boxes_so_far n [] ≡ record { number = 0; value = 0 }
unfolding refusal_over
none_of_few n h = rw (any_of_empty deep, le-ltb _ _ h, any_of_empty wrong_edges, sum_none)

-- one box more: the first refusal over the boxes and the count, and that of the box
first_more : (deeper many wrong d w : Bool) (s l : ℕ)
    → answer (1 when (deeper || d) else 6 when many else 10 when (wrong || w)) 0 (s + l)
    ≡ answer (1 when deeper else 6 when many else 10 when wrong) 0 s plus answer (1 when d else 10 when w) 0 l
unfolding ◌plus◌ first_of turn_of place_in test_order
first_more true many wrong true w s l = refl
first_more true many wrong false true s l = refl
first_more true many wrong false false s l = refl
first_more false true wrong true w s l = refl
first_more false true wrong false true s l = refl
first_more false true wrong false false s l = refl
first_more false false true true w s l = refl
first_more false false true false true s l = refl
first_more false false true false false s l = refl
first_more false false false true w s l = refl
first_more false false false false true s l = refl
first_more false false false false false s l = refl

any_last : (p : TileZBox → Bool) (bs : List TileZBox) (b : TileZBox) → any_of p (bs ++ (b ∷ [])) ≡ any_of p bs || p b
unfolding any_of
any_last p bs b = any_append p bs (b ∷ []) ∙ ap (λ (c : Bool). any_of p bs || c) (alone (p b))
  where
    alone : (c : Bool) → c || false ≡ c
    alone true = refl
    alone false = refl

sum_last : (bs : List TileZBox) (b : TileZBox) → sum_lengths (bs ++ (b ∷ [])) ≡ sum_lengths bs + box_length b
unfolding sum_lengths
sum_last [] b = omega arith
sum_last (a ∷ bs) b = rw (sum_last bs b) (sym (add_assoc (box_length a) (sum_lengths bs) (box_length b)))

one_more : (n : ℕ) (bs : List TileZBox) (b : TileZBox) → boxes_so_far n (bs ++ (b ∷ [])) ≡ boxes_so_far n bs plus length_of b
unfolding refusal_over box_refusal
one_more n bs b = rw (any_last deep bs b, any_last wrong_edges bs b, sum_last bs b)
    (first_more (any_of deep bs) (ltb max_boxes n) (any_of wrong_edges bs) (deep b) (wrong_edges b) (sum_lengths bs) (box_length b))

-- the box at place i of the list, where the first i are read
pub with_next : (n i : ℕ) (bs : List TileZBox) → i < length bs
    → boxes_so_far n (take i bs) plus length_of (get_or bs i no_box) ≡ boxes_so_far n (take (i + 1) bs)
with_next n i bs h = sym (one_more n (take i bs) (get_or bs i no_box))
    ∙ ap (boxes_so_far n) (sym (ap (λ (k : ℕ). take k bs) (add-one i) ∙ take-suc bs i no_box h))

-- where a box is still to come, its length can be added
room_for_one : (n : ℕ) (bs : List TileZBox) (b : TileZBox) → length bs < n → (boxes_so_far n bs).value + (length_of b).value < 2 ^ 64
room_for_one n bs b h = pick (refusal_over bs n) refl (box_refusal b) refl
  where
    pick : (r : ℕ) → refusal_over bs n ≡ r → (t : ℕ) → box_refusal b ≡ t
        → (answer r 0 (sum_lengths bs)).value + (answer t 0 (box_length b)).value < 2 ^ 64
    pick (suc r) p (suc t) q = omega arith
    pick (suc r) p zero q = omega (arith, length_small (accepted_box b q))
    pick zero p (suc t) q = let k = accepted_over bs n p in let f = fine_fits bs k.0 (omega (arith, k.1)) in omega arith
    pick zero p zero q =
        let k = accepted_over bs n p in
        let f = fine_fits (b ∷ bs) (fine_more (accepted_box b q) k.0) (omega (arith, k.1)) in
        let e = sum_step b bs in
        omega arith

pub room_for_next : (i : ℕ) (bs : List TileZBox) → i < length bs
    → (boxes_so_far (length bs) (take i bs)).value + (length_of (get_or bs i no_box)).value < 2 ^ 64
room_for_next i bs h = room_for_one (length bs) (take i bs) (get_or bs i no_box) (omega (arith, length-take-le i bs (omega arith)))

pub all_read : (i : ℕ) (bs : List TileZBox) → length bs ≤ i → boxes_so_far (length bs) (take i bs) ≡ boxes_length_of bs
all_read i bs h = ap (boxes_so_far (length bs)) (take_all i bs h)
