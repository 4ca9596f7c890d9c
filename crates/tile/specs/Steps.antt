-- The flipped tile, and the steps to a side.
use Rattle.std.specs.Prelude.{◌≡◌, refl, Bool, true, false, cond, ◌||◌, ℕ, ◌+◌, ◌-◌, ◌^◌, eqb, Option, Some, None}
use Rattle.errors.specs.Answer.{Answer, answer, ◌when◌, ◌else◌}
use Rattle.tile.specs.OnMap.{tile_at, no_tile_of, tile_refusal}
use Rattle.tile.specs.declared.Tile.{Tile}
use Rattle.tile.specs.declared.Step.{Step}
use Rattle.tile.specs.declared.Step.TheVariants.{Back, Stay, On}

-- rows counted from the other side of the map
abbrev pub flip_of : Tile → Answer Tile
flip_of t = answer (tile_refusal t.x t.y t.z) no_tile_of (tile_at t.x (2 ^ t.z - 1 - t.y) t.z)

-- the number that a step along an axis leads to, and whether it leaves an axis of that many numbers
abbrev pub stepped : Step → ℕ → ℕ
stepped Back n = n - 1
stepped Stay n = n
stepped On n = n + 1

abbrev pub leaves : Step → ℕ → ℕ → Bool
leaves Back n end = eqb n 0
leaves Stay n end = false
leaves On n end = eqb (n + 1) end

-- the tile a step away in x and a step away in y; 2 where that leaves the map
abbrev pub step_of : Step → Step → Tile → Answer Tile
step_of a b t =
    answer (tile_refusal t.x t.y t.z else 2 when (leaves a t.x (2 ^ t.z) || leaves b t.y (2 ^ t.z)))
    no_tile_of (tile_at (stepped a t.x) (stepped b t.y) t.z)

-- the eight steps by the Rust's names, in which `up` moves x
abbrev pub up_of : Tile → Answer Tile
up_of t = step_of On Stay t

abbrev pub down_of : Tile → Answer Tile
down_of t = step_of Back Stay t

abbrev pub left_tile_of : Tile → Answer Tile
left_tile_of t = step_of Stay Back t

abbrev pub right_of : Tile → Answer Tile
right_of t = step_of Stay On t

abbrev pub up_left_of : Tile → Answer Tile
up_left_of t = step_of On Back t

abbrev pub up_right_of : Tile → Answer Tile
up_right_of t = step_of On On t

abbrev pub down_left_of : Tile → Answer Tile
down_left_of t = step_of Back Back t

abbrev pub down_right_of : Tile → Answer Tile
down_right_of t = step_of Back On t

-- where a step along an axis of `end` numbers leads, if it does not leave the axis
abbrev pub stepped_to : Step → ℕ → ℕ → Option ℕ
stepped_to s n end = cond (leaves s n end) None (Some (stepped s n))

-- a step that leads to a number does not leave the axis, and that is the number
pub stepped_inside : (s : Step) (n end : ℕ) {m : ℕ} → stepped_to s n end ≡ Some m → (leaves s n end ≡ false) × (stepped s n ≡ m)
stepped_inside s n end {m} e = pick (leaves s n end) e
  where
    pick : (b : Bool) → cond b None (Some (stepped s n)) ≡ Some m → (b ≡ false) × (stepped s n ≡ m)
    pick true e = absurd (cc)
    pick false e = (refl, cc)
