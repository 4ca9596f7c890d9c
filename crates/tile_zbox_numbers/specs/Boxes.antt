-- Several boxes: the refusals of whoever sends them, and the sum of their lengths. The same of boxes as plain numbers, five for each:
-- zoom, minx, maxx, miny, maxy, and the flipped boxes.
use Rattle.std.specs.Prelude.{Bool, not, List, [], ◌∷◌, map, ℕ, zero, suc, ◌+◌, ◌/◌, ◌%◌, ltb, eqb, length, drop, get_or}
use Rattle.bits.specs.Tests.{any_of}
use Rattle.constants.specs.Limits.{max_zoom, max_boxes}
use Rattle.errors.specs.Answer.{Answer, answer, ◌when◌, ◌else◌, Lent, written}
use Rattle.tile_zbox.specs.Box.{box_at, wrong_edges, flipped, box_length}
use Rattle.tile_zbox.specs.declared.TileZBox.{TileZBox}

abbrev pub deep : TileZBox → Bool
deep b = ltb max_zoom b.zoom

-- the refusal that is tested first over boxes and a count: a zoom, the count, then a box upside down or off the map
unfoldable pub refusal_over : List TileZBox → ℕ → ℕ
refusal_over bs n = 1 when any_of deep bs else 6 when ltb max_boxes n else 10 when any_of wrong_edges bs

abbrev pub boxes_refusal : List TileZBox → ℕ
boxes_refusal bs = refusal_over bs (length bs)

unfoldable pub sum_lengths : List TileZBox → ℕ
sum_lengths [] = 0
sum_lengths (b ∷ bs) = box_length b + sum_lengths bs

abbrev pub boxes_length_of : List TileZBox → Answer ℕ
boxes_length_of bs = answer (boxes_refusal bs) 0 (sum_lengths bs)

-- the box of the first five numbers
abbrev pub box_from : List ℕ → TileZBox
box_from list = box_at (get_or list 0 0) (get_or list 1 0) (get_or list 2 0) (get_or list 3 0) (get_or list 4 0)

unfoldable pub boxes_from : ℕ → List ℕ → List TileZBox
boxes_from zero list = []
boxes_from (suc n) list = box_from list ∷ boxes_from n (drop 5 list)

-- the boxes of all whole fives
abbrev pub boxes_of : List ℕ → List TileZBox
boxes_of list = boxes_from (length list / 5) list

-- the refusal of the boxes; numbers left over are no box
unfoldable pub numbers_refusal : List ℕ → ℕ
numbers_refusal list = boxes_refusal (boxes_of list) else 10 when not (eqb (length list % 5) 0)

abbrev pub numbers_length_of : List ℕ → Answer ℕ
numbers_length_of list = answer (numbers_refusal list) 0 (sum_lengths (boxes_of list))

abbrev pub numbers : TileZBox → List ℕ
numbers b = b.zoom ∷ b.minx ∷ b.maxx ∷ b.miny ∷ b.maxy ∷ []

unfoldable pub numbers_of : List TileZBox → List ℕ
numbers_of [] = []
numbers_of (b ∷ bs) = b.zoom ∷ b.minx ∷ b.maxx ∷ b.miny ∷ b.maxy ∷ numbers_of bs

abbrev pub flipped_numbers : List ℕ → List ℕ
flipped_numbers list = numbers_of (map flipped (boxes_of list))

abbrev pub boxes_flip_of : List ℕ → List ℕ → Lent ℕ
boxes_flip_of list memory = written (numbers_refusal list) (flipped_numbers list) memory
