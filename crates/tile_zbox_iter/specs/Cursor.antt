-- The cursor over a box's tiles: x first, then y, from the box and how many tiles were given; and its size hint.
use Rattle.std.specs.Prelude.{cond, ℕ, ◌+◌, ◌/◌, ◌%◌, ltb, Result}
use Rattle.errors.specs.Answer.{Answer, answer, ◌when◌, ◌else◌}
use Rattle.errors.specs.declared.Refusal.{Refusal}
use Rattle.tile.specs.Cursor as cursor
use Rattle.tile.specs.Cursor.{CursorStep, step_given, step_ended}
use Rattle.tile.specs.OnMap.{tile_at}
use Rattle.tile.specs.declared.Next.{Next}
use Rattle.tile.specs.declared.Tile.{Tile}
use Rattle.tile_zbox.specs.Box.{no_box, box_refusal, columns_of, box_length}
use Rattle.tile_zbox.specs.declared.TileZBox.{TileZBox}
use Rattle.tile_zbox_iter.specs.declared.TileZBoxIterator.{TileZBoxIterator}

abbrev pub cursor_at : TileZBox → ℕ → TileZBoxIterator
cursor_at b n = record { range = b; given = n }

-- the box's tile number k, from 0 on
unfoldable pub kth_tile : TileZBox → ℕ → Tile
kth_tile b k = tile_at (b.minx + k % columns_of b) (b.miny + k / columns_of b) b.zoom

-- the zero of the type
abbrev pub no_step : CursorStep TileZBoxIterator
no_step = step_ended (cursor_at no_box 0)

abbrev pub next_case : Result (Next TileZBoxIterator) Refusal → Answer (CursorStep TileZBoxIterator)
next_case r = cursor.next_case (cursor_at no_box 0) r

-- tile number n and the cursor after it; all of the box given, the cursor as it was
abbrev pub step_on : TileZBox → ℕ → CursorStep TileZBoxIterator
step_on b n = cond (ltb n (box_length b)) (step_given (kth_tile b n) (cursor_at b (n + 1))) (step_ended (cursor_at b n))

-- 10 for a cursor that has given more tiles than its box holds
abbrev pub step_from : TileZBox → ℕ → Answer (CursorStep TileZBoxIterator)
step_from b n = answer (10 when ltb (box_length b) n) no_step (step_on b n)

abbrev pub next_refusal : TileZBoxIterator → ℕ
next_refusal c = box_refusal c.range else 10 when ltb (box_length c.range) c.given

abbrev pub next_of : TileZBoxIterator → Answer (CursorStep TileZBoxIterator)
next_of c = answer (next_refusal c) no_step (step_on c.range c.given)

-- the Rust's hint takes no notice of how many tiles were given
abbrev pub size_hint_of : TileZBoxIterator → Answer ℕ
size_hint_of c = answer (next_refusal c) 0 (box_length c.range)
