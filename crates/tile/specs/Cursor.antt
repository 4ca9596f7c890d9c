-- What a call of a cursor's `next` gives, in numbers: how many tiles, 1 or past the last one 0, that tile, and the cursor for the call after
-- it. C is the cursor's type.
--   step_given t c     a tile, and the cursor that gives the next one
--   step_ended c       all tiles were given: the cursor as it was
--   next_case none r   the answer r of `next`, where `none` is the zero of the cursor's type
use Rattle.std.specs.Prelude.{ℕ, Result, Ok, Err, Option, Some, None}
use Rattle.errors.specs.Answer.{Answer}
use Rattle.errors.specs.Cases.{refused_as}
use Rattle.errors.specs.declared.Refusal.{Refusal}
use Rattle.tile.specs.OnMap.{no_tile_of}
use Rattle.tile.specs.declared.Next.{Next}
use Rattle.tile.specs.declared.Tile.{Tile}

pub record CursorStep (C : Type 0) : Type 0 where
  pub count : ℕ
  pub tile : Tile
  pub cursor : C

abbrev pub step_given : {C : Type 0} → Tile → C → CursorStep C
step_given t c = record { count = 1; tile = t; cursor = c }

abbrev pub step_ended : {C : Type 0} → C → CursorStep C
step_ended c = record { count = 0; tile = no_tile_of; cursor = c }

abbrev pub step_taken : {C : Type 0} → Option Tile → C → CursorStep C
step_taken (Some t) c = step_given t c
step_taken None c = step_ended c

abbrev pub next_case : {C : Type 0} → C → Result (Next C) Refusal → Answer (CursorStep C)
next_case none (Ok n) = record { number = 0; value = step_taken n.tile n.rest }
next_case none (Err why) = refused_as why (step_ended none)
