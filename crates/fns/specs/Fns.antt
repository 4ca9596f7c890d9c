-- What the functions of this crate answer, from document 01.
use Rattle.errors.specs.declared.Refusal.{Refusal}
use Rattle.std.specs.Prelude.{Bool, cond, not, ◌||◌, ℕ, zero, suc, ◌+◌, ◌-◌, ◌/◌, ◌^◌, eqb, leb, ltb, Result, Ok, Err}
use Rattle.bits.specs.Bits.{bit}
use Rattle.constants.specs.Limits.{max_zoom}
use Rattle.errors.specs.Answer.{Answer, answer, ◌when◌, ◌else◌}
use Rattle.errors.specs.Cases.{refused_as}
use Rattle.tile.specs.OnMap.{tile_at, no_tile_of, tile_refusal}
use Rattle.tile.specs.declared.Tile.{Tile}
use Rattle.fns.specs.declared.Limits.{Limits}

abbrev pub min_max_case : Result Limits Refusal → Answer Limits
min_max_case (Ok m) = record { number = 0; value = m }
min_max_case (Err why) = refused_as why (record { min = 0; max = 0 })

abbrev pub min_max_of : ℕ → Answer Limits
min_max_of z = answer (1 when ltb max_zoom z) (record { min = 0; max = 0 }) (record { min = 0; max = 2 ^ z - 1 })

abbrev pub is_tile : ℕ → ℕ → ℕ → Bool
is_tile x y z = eqb (tile_refusal x y z) 0

abbrev pub flipy_of : ℕ → ℕ → Answer ℕ
flipy_of y z = answer (1 when ltb max_zoom z else 2 when leb (2 ^ z) y) 0 (2 ^ z - 1 - y)

-- zoom z − 1 − n, and x, y shifted by 1 + n; 3 where there is no such ancestor
unfoldable pub parent_refusal : ℕ → ℕ → ℕ → ℕ → ℕ
parent_refusal x y z n = tile_refusal x y z else 3 when leb z n

abbrev pub parent_of : ℕ → ℕ → ℕ → ℕ → Answer Tile
parent_of x y z n = answer (parent_refusal x y z n) no_tile_of (tile_at (x / 2 ^ (1 + n)) (y / 2 ^ (1 + n)) (z - 1 - n))

abbrev pub differ : ℕ → ℕ → ℕ → Bool
differ a b i = not (eqb (bit a i) (bit b i))

-- the first of the zooms z, z + 1, .. at which p holds, and the one after `zooms` of them where it holds at none
unfoldable pub first_zoom : (ℕ → Bool) → ℕ → ℕ → ℕ
first_zoom p z zero = z
first_zoom p z (suc zooms) = cond (p z) z (first_zoom p (suc z) zooms)

-- the first bit from the top, counted from 0, where west and east or south and north differ, at most 28
abbrev pub bbox2zoom_of : ℕ → ℕ → ℕ → ℕ → ℕ
bbox2zoom_of west south east north = first_zoom (λ z. differ west east (31 - z) || differ south north (31 - z)) 0 28
