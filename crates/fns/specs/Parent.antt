-- What `parent` hands back, from document 02's request K9: "with the tile, the digits of the steps taken, deepest last, as key bytes in
-- room for the longest key, with their count and zeros after them".
--   Ancestor              the tile, the room with the digits, and their count: the code's own struct
--   parent_given x y z n   what the call answers
--   parent_written         the same where the room is lent
use Rattle.std.specs.Prelude.{List, ◌++◌, ℕ, ◌+◌, ◌-◌, replicate, Result}
use Rattle.constants.specs.Limits.{max_digits}
use Rattle.errors.specs.Answer.{Answer, Lent, answer, lent}
use Rattle.errors.specs.Cases.{case_of}
use Rattle.errors.specs.declared.Refusal.{Refusal}
use Rattle.quadkey.specs.Key.{key_of}
use Rattle.tile.specs.OnMap.{no_tile_of}
use Rattle.tile.specs.declared.Tile.{Tile}
use Rattle.fns.specs.Fns.{parent_refusal, parent_of}
use Rattle.fns.specs.declared.Ancestor.{Ancestor}

-- the digits of the 1 + n steps taken: what the last 1 + n zooms add to a key
abbrev pub step_digits : ℕ → ℕ → ℕ → List ℕ
step_digits x y n = key_of x y (1 + n)

-- the zero of the type
abbrev pub no_ancestor : Ancestor
no_ancestor = record { tile = no_tile_of; digits = replicate max_digits 0; count = 0 }

-- the tile is document 01's; a refused call's value is all zeros
abbrev pub parent_given : ℕ → ℕ → ℕ → ℕ → Answer Ancestor
parent_given x y z n =
    answer (parent_refusal x y z n)
    no_ancestor
    (record { tile = (parent_of x y z n).value; digits = step_digits x y n ++ replicate (max_digits - (1 + n)) 0; count = 1 + n })

abbrev pub parent_case : Result Ancestor Refusal → Answer Ancestor
parent_case r = case_of no_ancestor r

-- the number that comes back, beside the tile and the room for digits that were lent
abbrev pub ancestor_lent : ℕ → Tile → List ℕ → Lent Tile
ancestor_lent number tile room = record { number = number; value = tile; memory = room }

-- the ancestor goes where the tile stands, and the digits to the front of the room; a refused call leaves both as they were
abbrev pub parent_written : ℕ → ℕ → ℕ → ℕ → Tile → List ℕ → Lent Tile
parent_written x y z n tile room =
    ancestor_lent (parent_refusal x y z n)
    (answer (parent_refusal x y z n) tile (parent_of x y z n).value).value
    (lent (parent_refusal x y z n) (step_digits x y n) room).memory
