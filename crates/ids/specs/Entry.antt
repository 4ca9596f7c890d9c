-- The number that stands for a tile in a list, by this one name: the one of `xyz2rmid`. Callers use the laws below, and not which
-- number it is.
use Rattle.std.specs.Prelude.{Bool, List, map, ℕ, eqb}
use Rattle.errors.specs.Answer.{Answer, answer}
use Rattle.tile.specs.OnMap.{no_tile_of}
use Rattle.tile.specs.declared.Tile.{Tile}
use Rattle.ids.specs.Rmid.{rmid, rmid_tile, rmid_refusal}

unfoldable pub entry_of : ℕ → ℕ → ℕ → ℕ
entry_of x y z = rmid x y z

-- tiles as a list holds them
abbrev pub entries_of : List Tile → List ℕ
entries_of ts = map (λ t. entry_of t.x t.y t.z) ts

unfoldable pub entry_tile : ℕ → Tile
entry_tile n = rmid_tile n

unfoldable pub entry_refusal : ℕ → ℕ
entry_refusal n = rmid_refusal n

abbrev pub is_entry : ℕ → Bool
is_entry n = eqb (entry_refusal n) 0

abbrev pub entry_tile_of : ℕ → Answer Tile
entry_tile_of n = answer (entry_refusal n) no_tile_of (entry_tile n)
