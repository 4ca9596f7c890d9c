-- The siblings of a tile, in the Rust's order, as document 01 states them.
use Rattle.std.specs.Prelude.{List, [], ◌∷◌, ℕ, ◌+◌, ◌-◌, ◌*◌, ◌/◌, ◌%◌, eqb}
use Rattle.errors.specs.Answer.{Lent, written, ◌when◌, ◌else◌}
use Rattle.ids.specs.Entry.{entries_of}
use Rattle.tile.specs.OnMap.{tile_at, tile_refusal}
use Rattle.tile.specs.declared.Tile.{Tile}

-- the other column, or row, of a family: 2k and 2k + 1 stand for each other
abbrev pub other : ℕ → ℕ
other n = 2 * (n / 2) + (1 - n % 2)

-- beside it, above or below it, and across
abbrev pub siblings_of : ℕ → ℕ → ℕ → List Tile
siblings_of x y z = tile_at (other x) y z ∷ tile_at x (other y) z ∷ tile_at (other x) (other y) z ∷ []

abbrev pub siblings_written : ℕ → ℕ → ℕ → List ℕ → Lent ℕ
siblings_written x y z memory = written (tile_refusal x y z else 3 when eqb z 0) (entries_of (siblings_of x y z)) memory
