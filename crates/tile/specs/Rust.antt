-- What the Rust does in tile.rs and in the `flipy` that it calls, as functions on values, in the Rust's own widths and with its checks.
use Rattle.std.specs.Prelude.{cond, ◌&&◌, ◌||◌, ℕ, ◌^◌, ◌≤◌, ◌<◌, eqb, leb, ltb, Option, None, Some}
use Rattle.std.proofs.Common.{le_trans}
use Rattle.bits.specs.Checked.{Run, stops, returns, ◌then◌, only, plus, minus, power, shift_up}
use Rattle.constants.specs.Limits.{at_least_29}
use Rattle.errors.specs.Answer.{Answer}
use Rattle.tile.specs.OnMap.{OnMap, tile_at, no_tile_of, try_new}
use Rattle.tile.specs.declared.Tile.{Tile}
use Rattle.tile.specs.declared.Step.{Step}
use Rattle.tile.specs.declared.Step.TheVariants.{Back, Stay, On}
use Rattle.std.specs.declared.cmp.Ordering.{Ordering}
use Rattle.std.specs.declared.cmp.Ordering.TheVariants.{Less, Equal, Greater}

-- a tile of zoom 0 to 29: there the Rust is compared, whatever this library's own deepest zoom is
pub record To29 (x y z : ℕ) : Type 0 where
  pub zoom : z ≤ 29
  pub column : x < 2 ^ z
  pub row : y < 2 ^ z

pub to_29_on_map : {x y z : ℕ} → To29 x y z → OnMap x y z
to_29_on_map m = record { zoom = le_trans m.zoom at_least_29; column = m.column; row = m.row }

-- how the Rust's values are read: as an answer that is not refused,
abbrev pub accepted : {A : Type 0} → A → Answer A
accepted v = record { number = 0; value = v }

-- an `Err` of `try_new` as refusal 2,
abbrev pub err_is_two : Option Tile → Answer Tile
err_is_two None = record { number = 2; value = no_tile_of }
err_is_two (Some t) = accepted t

-- and a step that stops, or that leads off the map, as refusal 2
abbrev pub off_is_two : Run Tile → Answer Tile
off_is_two stops = record { number = 2; value = no_tile_of }
off_is_two (returns t) = try_new t.x t.y t.z

-- `Tile::new`, with its debug assertion
abbrev pub rust_new : ℕ → ℕ → ℕ → Run Tile
rust_new x y z = shift_up 32 1 z then λ end. only (ltb x end && ltb y end) (tile_at x y z)

-- `try_new`: an `Err` is none
abbrev pub rust_try_new : ℕ → ℕ → ℕ → Run (Option Tile)
rust_try_new x y z = power 32 2 z then λ end. returns (cond (leb end x || leb end y) None (Some (tile_at x y z)))

-- `flipy` of fns.rs, and `flip`
abbrev pub rust_flipy : ℕ → ℕ → Run ℕ
rust_flipy y z = power 32 2 z then λ end. minus end 1 then λ last. minus last y

abbrev pub rust_flip : Tile → Run Tile
rust_flip t = rust_flipy t.y t.z then λ y. rust_new t.x y t.z

-- the eight steps: what each adds to x and y, or takes off
abbrev pub rust_along : Step → ℕ → Run ℕ
rust_along Back n = minus n 1
rust_along Stay n = returns n
rust_along On n = plus 32 n 1

abbrev pub rust_step : Step → Step → Tile → Run Tile
rust_step a b t = rust_along a t.x then λ x. rust_along b t.y then λ y. returns (tile_at x y t.z)

abbrev pub rust_up : Tile → Run Tile
rust_up t = plus 32 t.x 1 then λ x. returns (tile_at x t.y t.z)

abbrev pub rust_down : Tile → Run Tile
rust_down t = minus t.x 1 then λ x. returns (tile_at x t.y t.z)

abbrev pub rust_left : Tile → Run Tile
rust_left t = minus t.y 1 then λ y. returns (tile_at t.x y t.z)

abbrev pub rust_right : Tile → Run Tile
rust_right t = plus 32 t.y 1 then λ y. returns (tile_at t.x y t.z)

abbrev pub rust_up_left : Tile → Run Tile
rust_up_left t = plus 32 t.x 1 then λ x. minus t.y 1 then λ y. returns (tile_at x y t.z)

abbrev pub rust_up_right : Tile → Run Tile
rust_up_right t = plus 32 t.x 1 then λ x. plus 32 t.y 1 then λ y. returns (tile_at x y t.z)

abbrev pub rust_down_left : Tile → Run Tile
rust_down_left t = minus t.x 1 then λ x. minus t.y 1 then λ y. returns (tile_at x y t.z)

abbrev pub rust_down_right : Tile → Run Tile
rust_down_right t = minus t.x 1 then λ x. plus 32 t.y 1 then λ y. returns (tile_at x y t.z)

-- `cmp` of two numbers, and of the tuples (z, x, y): the first that differ decide
abbrev pub rust_compare : ℕ → ℕ → Ordering
rust_compare a b = cond (ltb a b) Less (cond (eqb a b) Equal Greater)

abbrev pub then_by : Ordering → Ordering → Ordering
then_by Less next = Less
then_by Equal next = next
then_by Greater next = Greater

abbrev pub rust_cmp : Tile → Tile → Ordering
rust_cmp s t = then_by (rust_compare s.z t.z) (then_by (rust_compare s.x t.x) (rust_compare s.y t.y))
