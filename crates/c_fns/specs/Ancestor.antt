-- An ancestor by its tile, the room with the digits of the steps to it, and their count.
use Rattle.std.specs.Prelude.{List, ℕ}
use Rattle.fns.specs.declared.Ancestor.{Ancestor}
use Rattle.tile.specs.declared.Tile.{Tile}

abbrev pub ancestor_at : Tile → List ℕ → ℕ → Ancestor
ancestor_at tile digits count = record { tile = tile; digits = digits; count = count }
