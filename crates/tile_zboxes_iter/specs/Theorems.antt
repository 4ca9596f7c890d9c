-- What the definitions of this crate come to, in document 01's words. Nothing is assumed.
use Rattle.std.specs.Prelude.{◌≡◌, refl, List, [], ◌∷◌, ◌++◌, ℕ, zero, suc, ◌+◌, ◌≤◌, ◌<◌, length, drop, get_or}
use Rattle.std.proofs.Common.{sym, ap, ◌∙◌, append_assoc, add-one, arith, drop_of_length-le, get_or-append-add, drop-cons, lt-ltb, le-ltb}
use Rattle.errors.specs.Answer.{Answer, answer}
use Rattle.tile.specs.Cursor.{step_given, step_ended}
use Rattle.tile.specs.OnMap.{no_tile_of}
use Rattle.tile.specs.declared.Tile.{Tile}
use Rattle.tile_zbox.specs.Box.{IsBox, box_length}
use Rattle.tile_zbox.specs.declared.TileZBox.{TileZBox}
use Rattle.tile_zbox_iter.specs.Cursor as one
use Rattle.tile_zbox_iter.specs.Tiles.{box_tiles, next_gives}
use Rattle.tile_zbox_numbers.specs.Accepted.{Fine, fine_first, accepted_all_boxes}
use Rattle.tile_zbox_numbers.specs.Boxes.{sum_lengths, boxes_of, numbers_refusal, numbers_length_of}
use Rattle.tile_zboxes_iter.specs.Cursor.{no_boxes_step, boxes_cursor_at, tiles_of_all, boxes_next_of}
use Rattle.tile_zboxes_iter.specs.Laws.{as_many_as_the_sum, in_the_first}
use Rattle.tile_zboxes_iter.specs.declared.TileZBoxesIterator.{TileZBoxesIterator}

-- calls of `next` on the same numbers, from a cursor on: the tiles that they give one by one, and the cursor that they leave
pub data BoxesCursorGives (list : List ℕ) : TileZBoxesIterator → List Tile → TileZBoxesIterator → Type 0 where
  none : {c : TileZBoxesIterator} → BoxesCursorGives list c [] c
  more : {c d e : TileZBoxesIterator} {t : Tile} {ts : List Tile} → boxes_next_of c list ≡ record { number = 0; value = step_given t d }
      → BoxesCursorGives list d ts e → BoxesCursorGives list c (t ∷ ts) e

-- before the end the tile at its place is given
gives_the_next : (l : List ℕ) (n : ℕ) → numbers_refusal l ≡ 0 → n < length (tiles_of_all (boxes_of l))
    → boxes_next_of (boxes_cursor_at n) l
    ≡ record { number = 0; value = step_given (get_or (tiles_of_all (boxes_of l)) n no_tile_of) (boxes_cursor_at (n + 1)) }
gives_the_next l n e h = let k : n ≤ length (tiles_of_all (boxes_of l)) = omega arith in rw (e, le-ltb _ _ k, lt-ltb _ _ h)

gives_the_rest : (l : List ℕ) (m n : ℕ) → numbers_refusal l ≡ 0 → n + m ≡ length (tiles_of_all (boxes_of l))
    → BoxesCursorGives l (boxes_cursor_at n) (drop n (tiles_of_all (boxes_of l))) (boxes_cursor_at (length (tiles_of_all (boxes_of l))))
gives_the_rest l zero n e h =
    let ts = tiles_of_all (boxes_of l) in
    let k : length ts ≡ n = omega arith in
    rw (k, drop_of_length-le ts {i = n} (omega arith)) none
gives_the_rest l (suc m) n e h =
    let ts = tiles_of_all (boxes_of l) in
    let k : n < length ts = omega arith in
    let g : boxes_next_of (boxes_cursor_at n) l ≡ record { number = 0; value = step_given (get_or ts n no_tile_of) (boxes_cursor_at (suc n)) } =
    gives_the_next l n e k
    ∙ ap (λ (j : ℕ). record { number = 0; value = step_given (get_or ts n no_tile_of) (boxes_cursor_at j) }) (add-one n) in
    rw (drop-cons ts n no_tile_of k) (more g (gives_the_rest l m (suc n) e (omega arith)))

-- run from the start it gives all tiles of the first box, then those of the second, and so on, as many as the sum says
pub every_box_in_its_turn : (l : List ℕ) → numbers_refusal l ≡ 0
    → BoxesCursorGives l (boxes_cursor_at 0) (tiles_of_all (boxes_of l)) (boxes_cursor_at (sum_lengths (boxes_of l)))
every_box_in_its_turn l e = rw (← as_many_as_the_sum (boxes_of l)) (gives_the_rest l (length (tiles_of_all (boxes_of l))) 0 e (omega arith))

-- and then nothing for ever
pub then_nothing_for_ever : (l : List ℕ) → numbers_refusal l ≡ 0
    → boxes_next_of (boxes_cursor_at (sum_lengths (boxes_of l))) l
    ≡ record { number = 0; value = step_ended (boxes_cursor_at (sum_lengths (boxes_of l))) }
then_nothing_for_ever l e =
    let s = as_many_as_the_sum (boxes_of l) in
    let h : length (tiles_of_all (boxes_of l)) ≤ length (tiles_of_all (boxes_of l)) = omega arith in
    rw (← s, e, le-ltb _ _ h)

-- one more given than they hold together is 10
pub past_the_last_is_10 : (l : List ℕ) (n : ℕ) → numbers_refusal l ≡ 0 → sum_lengths (boxes_of l) < n
    → boxes_next_of (boxes_cursor_at n) l ≡ record { number = 10; value = no_boxes_step }
past_the_last_is_10 l n e h = let k : length (tiles_of_all (boxes_of l)) < n = omega (arith, as_many_as_the_sum (boxes_of l)) in
    rw (e, lt-ltb _ _ k)

-- boxes that the sum refuses are refused by the same number, wherever the cursor stands
pub refused_as_the_sum : (l : List ℕ) (c : TileZBoxesIterator) (n : ℕ) → numbers_length_of l ≡ record { number = suc n; value = 0 }
    → boxes_next_of c l ≡ record { number = suc n; value = no_boxes_step }
refused_as_the_sum l c n e = rw (number (numbers_refusal l) e)
  where
    number : (r : ℕ) → answer r 0 (sum_lengths (boxes_of l)) ≡ record { number = suc n; value = 0 } → r ≡ suc n
    number zero f = let z : 0 ≡ suc n = ap (λ (a : Answer ℕ). a.number) f in absurd (omega arith)
    number (suc r) f = ap (λ (a : Answer ℕ). a.number) f

-- the tiles of some boxes and then of others
all_append : (front bs : List TileZBox) → tiles_of_all (front ++ bs) ≡ tiles_of_all front ++ tiles_of_all bs
unfolding tiles_of_all
all_append [] bs = refl
all_append (a ∷ front) bs =
    ap (λ (ts : List Tile). box_tiles a ++ ts) (all_append front bs) ∙ sym (append_assoc (box_tiles a) (tiles_of_all front) (tiles_of_all bs))

fine_at : (front : List TileZBox) (b : TileZBox) (bs : List TileZBox) → Fine (front ++ (b ∷ bs)) → IsBox b
fine_at [] b bs f = (fine_first b bs f).0
fine_at (a ∷ front) b bs f = fine_at front b bs (fine_first a (front ++ (b ∷ bs)) f).1

sum_at : (front : List TileZBox) (b : TileZBox) (bs : List TileZBox) → sum_lengths front + box_length b ≤ sum_lengths (front ++ (b ∷ bs))
unfolding sum_lengths
sum_at [] b bs = omega arith
sum_at (a ∷ front) b bs = omega (arith, sum_at front b bs)

-- each box's tiles are given as its own cursor gives them, behind those of the boxes before it
pub each_as_its_own_cursor_gives_it : (l : List ℕ) (front : List TileZBox) (b : TileZBox) (bs : List TileZBox) (k : ℕ)
    → numbers_refusal l ≡ 0 → boxes_of l ≡ front ++ (b ∷ bs) → k < box_length b
    → (t : Tile) × (one.next_of (one.cursor_at b k) ≡ record { number = 0; value = step_given t (one.cursor_at b (k + 1)) })
    × (boxes_next_of (boxes_cursor_at (sum_lengths front + k)) l
    ≡ record { number = 0; value = step_given t (boxes_cursor_at (sum_lengths front + k + 1)) })
each_as_its_own_cursor_gives_it l front b bs k e s h =
    let i : IsBox b = fine_at front b bs (rw s at (accepted_all_boxes l e).fine) in
    let n : length (tiles_of_all front) ≡ sum_lengths front = as_many_as_the_sum front in
    let w : get_or (tiles_of_all (boxes_of l)) (sum_lengths front + k) no_tile_of ≡ one.kth_tile b k =
    rw (s, all_append front (b ∷ bs), ← n) (get_or-append-add (tiles_of_all front) (tiles_of_all (b ∷ bs)) k no_tile_of ∙ in_the_first b bs k h) in
    let m : sum_lengths front + k < length (tiles_of_all (boxes_of l)) =
    rw (as_many_as_the_sum (boxes_of l), s) (omega (arith, sum_at front b bs)) in
    let c = boxes_cursor_at (sum_lengths front + k + 1) in (
      one.kth_tile b k,
      next_gives b k i h,
      gives_the_next l (sum_lengths front + k) e m
          ∙ ap (λ (t : Tile). record { number = 0; value = step_given t c }) w,
    )
