-- A cursor's step in numbers: how many tiles it gave, 1 or 0, the tile, all zeros where there is none, and how many were given by then.
use Rattle.std.specs.Prelude.{ℕ, Result, Option, Some, None}
use Rattle.c_give.specs.Exported.{answered}
use Rattle.errors.specs.Answer.{Answer}
use Rattle.tile.specs.declared.Tile.{Tile}
use Rattle.errors.specs.Cases.{case_of, check_number}
use Rattle.errors.specs.declared.Refusal.{Refusal}
use Rattle.tile.specs.Cursor.{CursorStep}
use Rattle.tile.specs.OnMap.{no_tile_of}
use Rattle.tile_zbox_iter.specs.declared.TileZBoxIterator.{TileZBoxIterator}
use Rattle.tile_zboxes_iter.specs.declared.TileZBoxesIterator.{TileZBoxesIterator}

-- of a cursor over a box or several, the tile and how many were given: the boxes are the caller's
pub record StepGiven : Type 0 where
  pub count : ℕ
  pub tile : Tile
  pub after : ℕ

abbrev pub step_at : ℕ → Tile → ℕ → StepGiven
step_at count tile after = record { count = count; tile = tile; after = after }

abbrev pub step_numbers : Answer (CursorStep TileZBoxIterator) → Answer StepGiven
step_numbers a = answered a.number (step_at a.value.count a.value.tile a.value.cursor.given)

abbrev pub boxes_step_numbers : Answer (CursorStep TileZBoxesIterator) → Answer StepGiven
boxes_step_numbers a = answered a.number (step_at a.value.count a.value.tile a.value.cursor.given)

-- the tile, if there is one, and how many were given
abbrev pub step_of : Option Tile → ℕ → StepGiven
step_of (Some t) given = step_at 1 t given
step_of None given = step_at 0 no_tile_of given

abbrev pub step_case : Result (Option Tile × ℕ) Refusal → Answer StepGiven
step_case r = answered (check_number r) (let value = (case_of (None, 0) r).value in step_of value.0 value.1)
