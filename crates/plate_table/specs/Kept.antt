-- The tiles of the list plates: the first tile of zoom 1, and its first child.
use mathlib.Core.List.{List, [], ◌∷◌}
use Rattle.tile.specs.OnMap.{tile_at}
use Rattle.tile.specs.declared.Tile.{Tile}

abbrev pub tile : Tile
tile = tile_at 0 0 1

abbrev pub first_child : Tile
first_child = tile_at 0 0 2

abbrev pub both : List Tile
both = tile ∷ first_child ∷ []

abbrev pub one : List Tile
one = tile ∷ []
