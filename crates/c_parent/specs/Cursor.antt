-- The cursor over a tile's ancestors in numbers: a tile or none is a count, 1 or 0, and a tile, all zeros where there is none.
use Rattle.std.specs.Prelude.{◌≡◌, refl, ℕ, zero, suc, Option, Some, None}
use Rattle.c_give.specs.Exported.{answered}
use Rattle.errors.specs.Answer.{Answer}
use Rattle.tile.specs.declared.Next.{Next}
use Rattle.parent.specs.declared.Parents.{Parents}
use Rattle.tile.specs.OnMap.{tile_at}
use Rattle.tile.specs.declared.Tile.{Tile}

pub record Held : Type 0 where
  pub count : ℕ
  pub tile : Tile

abbrev pub held_at : ℕ → ℕ → ℕ → ℕ → Held
held_at count x y z = record { count = count; tile = tile_at x y z }

abbrev pub held_of : Option Tile → Held
held_of None = held_at 0 0 0 0
held_of (Some t) = record { count = 1; tile = t }

-- what a caller's numbers hold: a count that is not 0 is a tile
abbrev pub holding : ℕ → ℕ → ℕ → ℕ → Option Tile
holding zero x y z = None
holding (suc n) x y z = Some (tile_at x y z)

abbrev pub parents_numbers : Answer Parents → Answer Held
parents_numbers a = answered a.number (held_of a.value.current)

-- what `next` gives, and what the cursor holds after it
pub record NextHeld : Type 0 where
  pub tile : Held
  pub rest : Held

abbrev pub next_at : Held → Held → NextHeld
next_at tile rest = record { tile = tile; rest = rest }

abbrev pub next_numbers : Answer (Next Parents) → Answer NextHeld
next_numbers a = answered a.number (next_at (held_of a.value.tile) (held_of a.value.rest.current))

pub a_count_holds_a_tile : (n x y z : ℕ) → (n ≡ 0 → ⊥) → Some (tile_at x y z) ≡ holding n x y z
a_count_holds_a_tile zero x y z h = absurd (h refl)
a_count_holds_a_tile (suc n) x y z h = refl
