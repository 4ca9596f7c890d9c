-- The one settled list of a ground above a floor m, over any deepest zoom D: it is there for every set, only one is, no list of tiles of
-- zoom m or more with that ground is shorter, `simplify` at m gives it, and it is the settled list with each tile above the floor cut down
-- to its descendants there.
use Rattle.std.specs.Prelude.{◌≡◌, ℕ, ◌+◌, ◌-◌}
use Rattle.tile.specs.declared.Tile.{Tile}
use Rattle.tile_set.specs.Holds.{Holds}

-- t is s, or s lies above the floor and t is one of its descendants there: s's own zoom or m, whichever is deeper
pub record CutTo (m : ℕ) (s t : Tile) : Type 0 where
  pub held : Holds s t
  pub level : t.z ≡ s.z + (m - s.z)
