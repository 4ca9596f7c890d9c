-- `to_id` and `from_id`: (2^(z+1)·y + x)·32 + z, for tiles of the zooms where this fits 64 bits.
use Rattle.std.specs.Prelude.{not, ℕ, ◌+◌, ◌*◌, ◌/◌, ◌%◌, ◌^◌, ◌≤◌, eqb, ltb}
use Rattle.constants.specs.Limits.{max_id_zoom}
use Rattle.errors.specs.Answer.{Answer, answer, ◌when◌, ◌else◌}
use Rattle.tile.specs.OnMap.{OnMap, tile_at, no_tile_of, tile_refusal}
use Rattle.tile.specs.declared.Tile.{Tile}

unfoldable pub id_of : ℕ → ℕ → ℕ → ℕ
id_of x y z = (2 ^ (z + 1) * y + x) * 32 + z

-- a tile that has such a number
pub record HasId (x y z : ℕ) : Type 0 where
  pub on_map : OnMap x y z
  pub zoom : z ≤ max_id_zoom

unfoldable pub id_tile_refusal : ℕ → ℕ → ℕ → ℕ
id_tile_refusal x y z = 1 when ltb max_id_zoom z else tile_refusal x y z

abbrev pub to_id_of : ℕ → ℕ → ℕ → Answer ℕ
to_id_of x y z = answer (id_tile_refusal x y z) 0 (id_of x y z)

-- the only tile that a number can be of
unfoldable pub id_tile : ℕ → Tile
id_tile n = tile_at (n / 32 % 2 ^ (n % 32 + 1)) (n / 32 / 2 ^ (n % 32 + 1)) (n % 32)

-- 7 where that has no such number
unfoldable pub id_refusal : ℕ → ℕ
id_refusal n = 7 when not (eqb (id_tile_refusal (id_tile n).x (id_tile n).y (id_tile n).z) 0)

abbrev pub from_id_of : ℕ → Answer Tile
from_id_of n = answer (id_refusal n) no_tile_of (id_tile n)
