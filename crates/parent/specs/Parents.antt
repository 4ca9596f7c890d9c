-- The cursor over a tile's ancestors: what it starts at, and what it gives next.
use Rattle.errors.specs.declared.Refusal.{Refusal}
use Rattle.std.specs.Prelude.{ℕ, zero, suc, ◌/◌, Result, Option, Some, None}
use Rattle.errors.specs.Answer.{Answer, answer}
use Rattle.errors.specs.Cases.{case_of}
use Rattle.tile.specs.OnMap.{tile_at, tile_refusal}
use Rattle.tile.specs.declared.Next.{Next}
use Rattle.tile.specs.declared.Tile.{Tile}
use Rattle.parent.specs.declared.Parents.{Parents}

-- the tile one zoom up, which the root does not have
abbrev pub above_of : ℕ → ℕ → ℕ → Option Tile
above_of x y zero = None
above_of x y (suc z) = Some (tile_at (x / 2) (y / 2) z)

abbrev pub parents_at : Option Tile → Parents
parents_at t = record { current = t }

abbrev pub parents_case : Result Parents Refusal → Answer Parents
parents_case r = case_of (parents_at None) r

abbrev pub iter_of : ℕ → ℕ → ℕ → Answer Parents
iter_of x y z = answer (tile_refusal x y z) (parents_at None) (parents_at (above_of x y z))

abbrev pub next_given : Option Tile → Option Tile → Next Parents
next_given t rest = record { tile = t; rest = parents_at rest }

abbrev pub parents_next_case : Result (Next Parents) Refusal → Answer (Next Parents)
parents_next_case r = case_of (next_given None None) r

-- a cursor at its end gives nothing and stays there
abbrev pub parents_next_of : Option Tile → Answer (Next Parents)
parents_next_of None = answer 0 (next_given None None) (next_given None None)
parents_next_of (Some t) = answer (tile_refusal t.x t.y t.z) (next_given None None) (next_given (Some t) (above_of t.x t.y t.z))
