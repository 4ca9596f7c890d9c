-- Boxes five numbers by five numbers: as the code reads them one after the other, and as it writes them flipped.
use Rattle.std.specs.Prelude.{◌≡◌, refl, List, [], ◌∷◌, ◌++◌, map, ℕ, zero, suc, ◌+◌, ◌-◌, ◌*◌, ◌/◌, ◌%◌, ◌≤◌, ◌<◌, length, take, drop, get_or, set}
use Rattle.std.proofs.Common.{sym, ap, ◌∙◌, append_assoc, add-zero, arith, length-drop, length-append, drop-drop, get_or-drop, take-add, take_at, drop_at, length-take-le}
use Rattle.std.proofs.lemmas.List.{length-map}
use Rattle.std.proofs.lemmas.List.Edits.{sets, sets-eq}
use Rattle.errors.specs.Memory.{front}
use Rattle.tile_zbox.specs.Box.{box_at, flipped}
use Rattle.tile_zbox.specs.declared.TileZBox.{TileZBox}
use Rattle.tile_zbox_numbers.specs.Boxes.{box_from, boxes_from, boxes_of, numbers_of, flipped_numbers}

-- boxes five numbers by five numbers: the box at a place, as the code reads and writes it
pub box_at_lem : (l : List ℕ) (at : ℕ)
    → box_at (get_or l at 0) (get_or l (at + 1) 0) (get_or l (at + 2) 0) (get_or l (at + 3) 0) (get_or l (at + 4) 0) ≡ box_from (drop at l)
box_at_lem l at = rw (get_or-drop at l 0 0, get_or-drop at l 1 0, get_or-drop at l 2 0, get_or-drop at l 3 0, get_or-drop at l 4 0, add-zero at)

pub five_sets : (l : List ℕ) (at a b c d e : ℕ)
    → set (set (set (set (set l at a) (at + 1) b) (at + 2) c) (at + 3) d) (at + 4) e ≡ sets l at (a ∷ b ∷ c ∷ d ∷ e ∷ [])
five_sets l at a b c d e =
    let p : at + 1 ≡ suc at = omega arith in
    let q : at + 2 ≡ suc (suc at) = omega arith in
    let r : at + 3 ≡ suc (suc (suc at)) = omega arith in
    let s : at + 4 ≡ suc (suc (suc (suc at))) = omega arith in
    rw (p, q, r, s)

pub boxes_step : (n at : ℕ) (l : List ℕ) → 0 < n → boxes_from n (drop at l) ≡ box_from (drop at l) ∷ boxes_from (n - 1) (drop (at + 5) l)
unfolding boxes_from
boxes_step zero at l h = absurd (omega arith)
boxes_step (suc n) at l h = let e : suc n - 1 ≡ n = omega arith in rw (e, drop-drop 5 at l)

pub boxes_end : (n at : ℕ) (l : List ℕ) → n ≡ 0 → boxes_from n (drop at l) ≡ []
unfolding boxes_from
boxes_end n at l e = rw e

pub boxes_count : (n : ℕ) (l : List ℕ) → length (boxes_from n l) ≡ n
unfolding boxes_from
boxes_count zero l = refl
boxes_count (suc n) l = ap suc (boxes_count n (drop 5 l))

-- the zoom of the next box, as the code reads it
pub next_box_zoom : (l : List ℕ) (at : ℕ) → get_or (drop at l) 0 0 ≡ get_or l at 0
next_box_zoom l at = get_or-drop at l 0 0 ∙ rw (add-zero at)

-- boxes as numbers
pub numbers_length : (bs : List TileZBox) → length (numbers_of bs) ≡ length bs * 5
unfolding numbers_of
numbers_length [] = refl
numbers_length (b ∷ bs) = omega (arith, numbers_length bs)

pub flipped_length : (l : List ℕ) → length l % 5 ≡ 0 → length (flipped_numbers l) ≡ length l
flipped_length l e = rw (numbers_length (map flipped (boxes_of l)), length-map (boxes_of l) flipped, boxes_count (length l / 5) l)
    (omega arith)

-- a few numbers more at the front of the memory
pub front_on : (items memory vs rest : List ℕ) (at : ℕ) → at ≤ length items → drop at items ≡ vs ++ rest → at + length vs ≤ length memory
    → sets (front at items memory) at vs ≡ front (at + length vs) items memory
front_on items memory vs rest at g e h =
    let p : length (take at items) ≡ at = length-take-le at items g in
    let k : at + length vs ≤ length (front at items memory) = rw (length-append, p, length-drop) (omega arith) in
    let t : take at (front at items memory) ≡ take at items = take_at (take at items) (drop at memory) at p in
    let d : drop (at + length vs) (front at items memory) ≡ drop (at + length vs) memory =
    sym (drop-drop (length vs) at (front at items memory))
    ∙ (ap (drop (length vs)) (drop_at (take at items) (drop at memory) at p) ∙ drop-drop (length vs) at memory) in
    let n : take (at + length vs) items ≡ take at items ++ vs =
    take-add at (length vs) items ∙ ap (λ (x : List ℕ). take at items ++ x) (ap (take (length vs)) e ∙ take_at vs rest (length vs) refl) in
    sets-eq vs (front at items memory) at k ∙ rw (t, d, n, append_assoc)
