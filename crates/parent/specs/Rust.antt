-- What the Rust does in parent.rs, and in `iter_parents` of traits.rs, as functions on values. A cursor is its one field `current`.
use Rattle.std.specs.Prelude.{Option, None, Some, ℕ}
use Rattle.bits.specs.Checked.{Run, returns, ◌then◌}
use Rattle.errors.specs.Answer.{Answer}
use Rattle.fns.specs.Rust.{rust_parent}
use Rattle.tile.specs.Rust.{To29, accepted}
use Rattle.tile.specs.declared.Tile.{Tile}
use Rattle.parent.specs.Parents.{parents_at, next_given}
use Rattle.parent.specs.declared.Parents.{Parents}
use Rattle.tile.specs.declared.Next.{Next}

abbrev pub rust_iter_parents : ℕ → ℕ → ℕ → Run (Option Tile)
rust_iter_parents x y z = rust_parent x y z 0

-- `next`: what is given, and the cursor that is left
abbrev pub rust_parents_next : Option Tile → Run (Option Tile × Option Tile)
rust_parents_next None = returns (None, None)
rust_parents_next (Some t) = rust_parent t.x t.y t.z 0 then λ up. returns (Some t, up)

-- the Rust's values in this crate's terms
abbrev pub as_parents : Option Tile → Answer Parents
as_parents current = accepted (parents_at current)

abbrev pub as_next : Option Tile × Option Tile → Answer (Next Parents)
as_next r = accepted (next_given r.0 r.1)

-- a cursor that has ended, or is at a tile of zoom 0 to 29
pub data CursorTo29 : Option Tile → Type 0 where
  ended : CursorTo29 None
  at_tile : (t : Tile) → To29 t.x t.y t.z → CursorTo29 (Some t)
