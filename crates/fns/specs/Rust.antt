-- What the Rust does in this crate's functions, as functions on values, in the Rust's own widths and with its checks. `flipy` is in tile's.
use Rattle.std.specs.Prelude.{Bool, cond, not, ◌&&◌, ◌||◌, ℕ, zero, suc, eqb, leb, Option, None, Some}
use Rattle.std.specs.Int.Bits.{bit_and}
use Rattle.bits.specs.Checked.{Run, returns, ◌then◌, plus, minus, power, shift_up, shift_down}
use Rattle.errors.specs.Answer.{Answer}
use Rattle.tile.specs.OnMap.{no_tile_of}
use Rattle.tile.specs.Rust.{accepted, rust_new}
use Rattle.tile.specs.declared.Tile.{Tile}
use Rattle.fns.specs.declared.Limits.{Limits}

abbrev pub rust_minmax : ℕ → Run Limits
rust_minmax z = power 32 2 z then λ end. minus end 1 then λ last. returns (record { min = 0; max = last })

-- `valid`, by the lowest and the highest column, and then row
abbrev pub rust_valid : ℕ → ℕ → ℕ → Run Bool
rust_valid x y z =
    rust_minmax z then λ a. rust_minmax z then λ b. returns (leb a.min x && leb x a.max && leb b.min y && leb y b.max)

-- `parent`: one step up where no extra steps are left; else a call one zoom up, with one step fewer
unfoldable pub rust_parent : ℕ → ℕ → ℕ → ℕ → Run (Option Tile)
rust_parent x y z zero =
    let up = shift_down 32 x 1 then λ a. shift_down 32 y 1 then λ b. minus z 1 then λ above. rust_new a b above
    then λ t. returns (Some t) in
    cond (eqb z 0) (returns None) up
rust_parent x y z (suc n) = shift_down 32 x 1 then λ a. shift_down 32 y 1 then λ b. minus z 1 then λ above. rust_parent a b above n

-- "Rust's None is refusal 3"
abbrev pub none_is_three : Option Tile → Answer Tile
none_is_three None = record { number = 3; value = no_tile_of }
none_is_three (Some t) = accepted t

-- the test of `bbox2zoom`: the bits that a mask leaves
abbrev pub masked_apart : ℕ → ℕ → ℕ → Bool
masked_apart mask a b = not (eqb (bit_and a mask) (bit_and b mask))

-- `for z in 0..28`, with the turns that are left: left at the first zoom at which the test holds
unfoldable pub rust_zooms : ℕ → ℕ → ℕ → ℕ → ℕ → ℕ → Run ℕ
rust_zooms west south east north zero z = returns 28
rust_zooms west south east north (suc turns) z =
    plus 8 z 1 then λ n. minus 32 n then λ k. shift_up 32 1 k then λ mask.
    cond (masked_apart mask west east || masked_apart mask south north) (returns z) (rust_zooms west south east north turns (suc z))

abbrev pub rust_bbox2zoom : ℕ → ℕ → ℕ → ℕ → Run ℕ
rust_bbox2zoom west south east north = rust_zooms west south east north 28 0
