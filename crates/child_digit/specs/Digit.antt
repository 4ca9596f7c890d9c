-- The digit by which the step from a tile to its parent is left.
use Rattle.std.specs.Prelude.{ℕ, get_or}
use Rattle.fns.specs.Parent.{parent_given}
use Rattle.tile.specs.declared.Tile.{Tile}

-- the one digit that `parent` hands back where no extra steps are asked for
unfoldable pub digit_of : Tile → ℕ
digit_of t = get_or (parent_given t.x t.y t.z 0).value.digits 0 0
