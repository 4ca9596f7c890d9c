-- `ids::from_id` meets its contract: each test is one that a tile with such a number would pass.
use mathlib.Core.Path.{◌≡◌, ◌∙◌}
use Prim.Native.Nat.{ℕ, ◌+◌, ◌-◌, ◌*◌, ◌/◌, ◌%◌, ◌^◌, ◌≤◌, ◌<◌}
use native.Mathlib.Omega.{arith}
use lib.Pow.{pow_mono}
use Rattle.bits.specs.Powers.{high_part_below, low_part}
use Rattle.constants.specs.Limits.{max_id_zoom, ids_to_29, id_zooms}
use Rattle.ids.specs.Id.{id_tile}
use Rattle.ids.specs.IdBits.{id_accepted, id_refused}
use Rattle.ids.specs.Powers.{wide_side}
use Rattle.ids.proofs.from_id.Goals as goal
use Rattle.ids.proofs.from_id.Goals.{After-wide_pow2-end}

pub returns-then-zoom-gt-MAX_ID_ZOOM : goal.returns-then-zoom-gt-MAX_ID_ZOOM
unfolding id_tile max_id_zoom
returns-then-zoom-gt-MAX_ID_ZOOM c = rw (id_refused c.args.id (λ m. omega (arith, m.zoom)))

abbrev number : After-wide_pow2-end → ℕ
number c = c.args.id

side : (c : After-wide_pow2-end) → c.wide_pow2-end.result ≡ 2 ^ (number c % 32)
unfolding max_id_zoom
side c = c.wide_pow2-end.ensures ∙ wide_side _ (omega arith)

small : (c : After-wide_pow2-end) → c.wide_pow2-end.result ≤ 2 ^ 30
small c = rw (side c) (pow_mono {j = 30} (omega (arith, ids_to_29)))

offset_fits : (c : After-wide_pow2-end) → number c / 32 < 2 ^ 64
offset_fits c = omega arith

pub overflow_sub-x : goal.overflow_sub-x
overflow_sub-x c = high_part_below (number (goal.at.overflow_sub-x c).After-wide_pow2-end / 32) _ 64 (offset_fits (goal.at.overflow_sub-x c).After-wide_pow2-end)

-- what is left of the place without its row is its column
column : (c : After-wide_pow2-end) → number c / 32 - number c / 32 / 2 ^ (number c % 32 + 1) * 2 ^ (number c % 32 + 1) % 2 ^ 64 ≡ number c / 32 % 2 ^ (number c % 32 + 1)
column c = low_part (number c / 32) (number c % 32 + 1) 64 (offset_fits c)

pub returns-then-x-end : goal.returns-then-x-end
unfolding id_tile
returns-then-x-end c = rw (id_refused (number (goal.at.returns-then-x-end c).After-wide_pow2-end) (λ m. omega (arith, m.on_map.column, side (goal.at.returns-then-x-end c).After-wide_pow2-end, column (goal.at.returns-then-x-end c).After-wide_pow2-end)))

pub returns-then-y-end : goal.returns-then-y-end
unfolding id_tile
returns-then-y-end c = rw (id_refused (number (goal.at.returns-then-y-end c).After-wide_pow2-end) (λ m. omega (arith, m.on_map.row, side (goal.at.returns-then-y-end c).After-wide_pow2-end)))

pub overflow_cast-result : goal.overflow_cast-result
overflow_cast-result c = omega (arith, small (goal.at.overflow_cast-result c).After-wide_pow2-end)

pub overflow_cast-result-2 : goal.overflow_cast-result-2
overflow_cast-result-2 c = omega (arith, small (goal.at.overflow_cast-result-2 c).After-wide_pow2-end)

pub returns : goal.returns
unfolding id_tile max_id_zoom
returns c = let e = side (goal.at.returns c).After-wide_pow2-end in
    let f = column (goal.at.returns c).After-wide_pow2-end in
    let d = c.if-zoom-gt-MAX_ID_ZOOM.false in
    rw (
      id_accepted (number (goal.at.returns c).After-wide_pow2-end) (record { on_map = record { zoom = omega (arith, d, id_zooms); column = omega arith; row = omega arith }; zoom = d }),
      f,
    )
