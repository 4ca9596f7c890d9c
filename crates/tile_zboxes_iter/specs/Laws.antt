-- Laws of the tiles of several boxes: how many there are, and where each box's tiles stand.
use Rattle.std.specs.Prelude.{◌≡◌, refl, List, [], ◌∷◌, ◌++◌, ℕ, zero, suc, ◌+◌, ◌-◌, ◌/◌, ◌≤◌, ◌<◌, length, drop, get_or}
use Rattle.std.proofs.Common.{sym, ap, ◌∙◌, arith, length-drop, length-append, drop-drop, get_or-append-add}
use Rattle.std.proofs.Math.ListN.{get_or-append}
use Rattle.constants.specs.Limits.{max_zoom}
use Rattle.tile.specs.OnMap.{no_tile_of}
use Rattle.tile_zbox.specs.Box.{IsBox, box_length}
use Rattle.tile_zbox.specs.declared.TileZBox.{TileZBox}
use Rattle.tile_zbox_iter.specs.Cursor.{kth_tile}
use Rattle.tile_zbox_iter.specs.Theorems.{length_counts_the_tiles}
use Rattle.tile_zbox_iter.specs.Tiles.{box_tiles, tile_of_box_at}
use Rattle.tile_zbox_numbers.specs.Accepted.{Fine, fine_first, all_boxes_accepted, accepted_all_boxes}
use Rattle.tile_zbox_numbers.specs.Boxes.{sum_lengths, box_from, boxes_from, boxes_of, numbers_refusal}
use Rattle.tile_zbox_numbers.specs.Fives.{boxes_step, boxes_end, next_box_zoom}
use Rattle.tile_zbox_numbers.specs.Lengths.{sum_step, sum_none}
use Rattle.tile_zboxes_iter.specs.Cursor.{tiles_of_all}

-- there are as many as the sum says
pub as_many_as_the_sum : (bs : List TileZBox) → length (tiles_of_all bs) ≡ sum_lengths bs
unfolding tiles_of_all sum_lengths
as_many_as_the_sum [] = refl
as_many_as_the_sum (b ∷ bs) = rw (length-append (box_tiles b) (tiles_of_all bs), length_counts_the_tiles b, as_many_as_the_sum bs)

-- a place among the first box's tiles, and one behind them
pub in_the_first : (b : TileZBox) (bs : List TileZBox) (k : ℕ) → k < box_length b → get_or (tiles_of_all (b ∷ bs)) k no_tile_of ≡ kth_tile b k
unfolding tiles_of_all
in_the_first b bs k h = get_or-append (box_tiles b) (tiles_of_all bs) no_tile_of k (rw (length_counts_the_tiles b) h) ∙ tile_of_box_at b k h

pub behind_the_first : (b : TileZBox) (bs : List TileZBox) (k : ℕ)
    → get_or (tiles_of_all (b ∷ bs)) (box_length b + k) no_tile_of ≡ get_or (tiles_of_all bs) k no_tile_of
unfolding tiles_of_all
behind_the_first b bs k =
    ap (λ (n : ℕ). get_or (box_tiles b ++ tiles_of_all bs) (n + k) no_tile_of) (sym (length_counts_the_tiles b))
    ∙ get_or-append-add (box_tiles b) (tiles_of_all bs) k no_tile_of

-- numbers that are boxes, and a place among the tiles of these
pub record AmongTiles (l : List ℕ) (k : ℕ) : Type 0 where
  pub boxes : numbers_refusal l ≡ 0
  pub place : k < length (tiles_of_all (boxes_of l))

-- then there is a first box, and the numbers behind its five are boxes too
pub record FirstBox (l : List ℕ) : Type 0 where
  pub five : 5 ≤ length l
  pub box : IsBox (box_from l)
  pub split : boxes_of l ≡ box_from l ∷ boxes_of (drop 5 l)
  pub rest : numbers_refusal (drop 5 l) ≡ 0

boxes_split : (l : List ℕ) → 5 ≤ length l → boxes_of l ≡ box_from l ∷ boxes_of (drop 5 l)
boxes_split l h =
    let n : 0 < length l / 5 = omega arith in
    let e : length l / 5 - 1 ≡ length (drop 5 l) / 5 = rw (length-drop 5 l) (omega arith) in
    boxes_step (length l / 5) 0 l n ∙ ap (λ (m : ℕ). box_from l ∷ boxes_from m (drop 5 l)) e

-- a place among the tiles is one of some box
some_box : (l : List ℕ) (k : ℕ) → k < length (tiles_of_all (boxes_of l)) → 0 < length l / 5
some_box l k h = pick (length l / 5) refl
  where
    pick : (n : ℕ) → length l / 5 ≡ n → 0 < length l / 5
    pick zero e =
        let s : sum_lengths (boxes_of l) ≡ 0 = ap sum_lengths (boxes_end (length l / 5) 0 l e) ∙ sum_none in
        let t = as_many_as_the_sum (boxes_of l) in
        absurd (omega arith)
    pick (suc n) e = omega arith

pub first_box : {l : List ℕ} {k : ℕ} → AmongTiles l k → FirstBox l
first_box {l} {k} a =
    let w = accepted_all_boxes l a.boxes in
    let n = some_box l k a.place in
    let h : 5 ≤ length l = omega arith in
    let s : boxes_of l ≡ box_from l ∷ boxes_of (drop 5 l) = boxes_split l h in
    let f : IsBox (box_from l) × Fine (boxes_of (drop 5 l)) = fine_first (box_from l) (boxes_of (drop 5 l)) (rw s at w.fine) in
    let d = length-drop 5 l in
    record {
      five = h;
      box = f.0;
      split = s;
      rest =
          all_boxes_accepted (record { fine = f.1; few = omega (arith, w.few); whole = omega (arith, w.whole) });
    }

-- the five numbers of the box at a place can be read, and its zoom is one of the map's
pub box_readable : (l : List ℕ) (at : ℕ) {k : ℕ} → AmongTiles (drop at l) k → (at + 5 ≤ length l) × (get_or l at 0 ≤ max_zoom)
box_readable l at a = let f = first_box a in (omega (arith, length-drop at l, f.five), rw (next_box_zoom l at) at f.box.zoom)

-- the tile is the first box's, or stands so many places nearer among the tiles of the others
pub tile_here : {l : List ℕ} {k : ℕ} → AmongTiles l k → k < box_length (box_from l)
    → get_or (tiles_of_all (boxes_of l)) k no_tile_of ≡ kth_tile (box_from l) k
tile_here {l} {k} a h =
    ap (λ (bs : List TileZBox). get_or (tiles_of_all bs) k no_tile_of) (first_box a).split ∙ in_the_first (box_from l) (boxes_of (drop 5 l)) k h

pub tile_later : {l : List ℕ} {k : ℕ} → AmongTiles l k → box_length (box_from l) ≤ k
    → get_or (tiles_of_all (boxes_of l)) k no_tile_of ≡ get_or (tiles_of_all (boxes_of (drop 5 l))) (k - box_length (box_from l)) no_tile_of
tile_later {l} {k} a h =
    let n = box_length (box_from l) in
    let e : n + (k - n) ≡ k = omega arith in
    ap (λ (bs : List TileZBox). get_or (tiles_of_all bs) k no_tile_of) (first_box a).split
    ∙ (ap (λ (m : ℕ). get_or (tiles_of_all (box_from l ∷ boxes_of (drop 5 l))) m no_tile_of) (sym e)
    ∙ behind_the_first (box_from l) (boxes_of (drop 5 l)) (k - n))

pub ahead_later : {l : List ℕ} {k : ℕ} → AmongTiles l k → box_length (box_from l) ≤ k → AmongTiles (drop 5 l) (k - box_length (box_from l))
ahead_later {l} {k} a h =
    let f = first_box a in
    let p = as_many_as_the_sum (boxes_of l) in
    let q : sum_lengths (boxes_of l) ≡ box_length (box_from l) + sum_lengths (boxes_of (drop 5 l)) =
    ap sum_lengths f.split ∙ sum_step (box_from l) (boxes_of (drop 5 l)) in
    let r = as_many_as_the_sum (boxes_of (drop 5 l)) in
    record { boxes = f.rest; place = omega (arith, a.place) }

-- past the first box of the numbers from a place on
pub ahead_on : (l : List ℕ) (at : ℕ) {k : ℕ} → AmongTiles (drop at l) k → box_length (box_from (drop at l)) ≤ k
    → AmongTiles (drop (at + 5) l) (k - box_length (box_from (drop at l)))
    × (get_or (tiles_of_all (boxes_of (drop at l))) k no_tile_of
    ≡ get_or (tiles_of_all (boxes_of (drop (at + 5) l))) (k - box_length (box_from (drop at l))) no_tile_of)
ahead_on l at a h = rw (← drop-drop 5 at l) (ahead_later a h, tile_later a h)
