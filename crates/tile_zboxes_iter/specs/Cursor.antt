-- The cursor over several boxes: the tiles of the first, then those of the second, and so on, each box row by row.
use Rattle.std.specs.Prelude.{cond, List, [], ◌∷◌, ◌++◌, ℕ, ◌+◌, ltb, length, get_or, Result}
use Rattle.errors.specs.Answer.{Answer, answer, ◌when◌, ◌else◌}
use Rattle.errors.specs.declared.Refusal.{Refusal}
use Rattle.tile.specs.Cursor.{CursorStep, step_given, step_ended, next_case}
use Rattle.tile.specs.OnMap.{no_tile_of}
use Rattle.tile.specs.declared.Next.{Next}
use Rattle.tile.specs.declared.Tile.{Tile}
use Rattle.tile_zbox.specs.declared.TileZBox.{TileZBox}
use Rattle.tile_zbox_iter.specs.Tiles.{box_tiles}
use Rattle.tile_zbox_numbers.specs.Boxes.{boxes_of, numbers_refusal}
use Rattle.tile_zboxes_iter.specs.declared.TileZBoxesIterator.{TileZBoxesIterator}

abbrev pub boxes_cursor_at : ℕ → TileZBoxesIterator
boxes_cursor_at n = record { given = n }

-- the tiles of all boxes, one box after the other
unfoldable pub tiles_of_all : List TileZBox → List Tile
tiles_of_all [] = []
tiles_of_all (b ∷ bs) = box_tiles b ++ tiles_of_all bs

-- the zero of the type
abbrev pub no_boxes_step : CursorStep TileZBoxesIterator
no_boxes_step = step_ended (boxes_cursor_at 0)

abbrev pub boxes_next_case : Result (Next TileZBoxesIterator) Refusal → Answer (CursorStep TileZBoxesIterator)
boxes_next_case r = next_case (boxes_cursor_at 0) r

-- the tile at place n and the cursor after it; all of them given, the cursor as it was
abbrev pub boxes_step_on : List Tile → ℕ → CursorStep TileZBoxesIterator
boxes_step_on ts n = cond (ltb n (length ts)) (step_given (get_or ts n no_tile_of) (boxes_cursor_at (n + 1))) (step_ended (boxes_cursor_at n))

-- 10 for a cursor that has given more tiles than there are
abbrev pub boxes_step_from : List Tile → ℕ → Answer (CursorStep TileZBoxesIterator)
boxes_step_from ts n = answer (10 when ltb (length ts) n) no_boxes_step (boxes_step_on ts n)

-- the boxes' refusal, as for their sum, then the cursor's
abbrev pub boxes_next_of : TileZBoxesIterator → List ℕ → Answer (CursorStep TileZBoxesIterator)
boxes_next_of c list =
    let ts = tiles_of_all (boxes_of list) in
    answer (numbers_refusal list else 10 when ltb (length ts) c.given) no_boxes_step (boxes_step_on ts c.given)
