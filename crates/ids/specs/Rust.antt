-- What the Rust does with these numbers, as functions on values, in the Rust's own widths and with its checks.
use Rattle.std.specs.Prelude.{cond, ℕ, zero, suc, ◌/◌, ◌%◌, eqb, ltb}
use Rattle.bits.specs.Checked.{Run, stops, returns, ◌then◌, within, plus, times, power, minus, shift_up, cut}
use Rattle.tile.specs.OnMap.{tile_at}
use Rattle.tile.specs.Rust.{rust_new}
use Rattle.tile.specs.declared.Tile.{Tile}
use Rattle.ids.specs.declared.OffsetZoom.{OffsetZoom}

-- `2u64 * (1u64 << z)`
abbrev pub rust_dim : ℕ → Run ℕ
rust_dim z = shift_up 64 1 z then λ side. times 64 2 side

abbrev pub rust_to_id : ℕ → ℕ → ℕ → Run ℕ
rust_to_id x y z =
    rust_dim z then λ dim. times 64 dim y then λ rows. plus 64 rows x then λ place. times 64 place 32 then λ shifted. plus 64 shifted z

-- `from_id`: a column of 32 bits or more would stop; the row is cut to 32 bits
abbrev pub rust_from_id : ℕ → Run Tile
rust_from_id n =
    let z = cut 8 (n % 32) in
    rust_dim z then λ dim. minus n z then λ rest. within 32 (rest / 32 % dim) then λ x. minus (rest / 32) x then λ rows.
    rust_new x (cut 32 (rows / dim)) z

abbrev pub rust_xyz2rmid : ℕ → ℕ → ℕ → Run ℕ
rust_xyz2rmid x y z = cond (eqb z 0) (from x) (power 64 4 z then λ all. minus all 1 then λ rest. plus 64 (rest / 3) x then from)
  where
    from : ℕ → Run ℕ
    from start = power 64 2 z then λ side. times 64 y side then λ rows. plus 64 start rows

-- the loop of `int_2_offset_zoom` counts the tiles of each zoom until they pass i. It is given a number of turns, and counts as stopped
-- where they are used up: a theorem by which it returns something shows that they were enough
unfoldable pub rust_loop : ℕ → ℕ → ℕ → ℕ → Run OffsetZoom
rust_loop zero i acc z = stops
rust_loop (suc turns) i acc z =
    shift_up 64 1 z then λ side. times 64 side side then λ tiles. plus 64 acc tiles then λ next.
    cond (ltb i next) (minus i acc then λ offset. returns (record { offset = offset; zoom = z }))
    (plus 8 z 1 then λ deeper. rust_loop turns i next deeper)

-- for any 64-bit number: in the 33rd turn, the one for zoom 32, the Rust stops by itself (`rust_loop_stops`)
abbrev pub rust_offset_zoom : ℕ → Run OffsetZoom
rust_offset_zoom i = cond (eqb i 0) (returns (record { offset = 0; zoom = 0 })) (rust_loop 33 i 0 0)

-- `rmid2xyz`: column and row are cut to 32 bits
abbrev pub rust_tile_at : OffsetZoom → Run Tile
rust_tile_at at = power 64 2 at.zoom then λ side. returns (tile_at (cut 32 (at.offset % side)) (cut 32 (at.offset / side)) at.zoom)

abbrev pub rust_rmid2xyz : ℕ → Run Tile
rust_rmid2xyz i = cond (eqb i 0) (returns (tile_at 0 0 0)) (rust_offset_zoom i then rust_tile_at)
