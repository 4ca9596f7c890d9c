-- `quadtree::key_of` meets its contract: no shift loses a bit, and the Morton code stands above the location's lowest set bit.
use mathlib.Core.Path.{◌≡◌}
use Prim.Native.Nat.{ℕ, ◌+◌, ◌-◌, ◌*◌, ◌/◌, ◌%◌, ◌^◌, ◌≤◌, ◌<◌}
use native.Mathlib.Nat.{mod-eq_of_lt}
use native.Mathlib.Omega.{arith}
use lib.Pow.{pow_mono}
use Rattle.constants.specs.Limits.{max_zoom, max_zoom_small}
use Rattle.ids.specs.Powers.{four_side}
use Rattle.tile.specs.declared.Tile.{Tile}
use Rattle.quadtree.specs.Corners.{corner_column, corner_location}
use Rattle.quadtree.specs.Digits.{apart}
use Rattle.quadtree.specs.LowestBit.{location_small, location_zeros, location_morton}
use Rattle.quadtree.specs.Numbers.{OfMap, morton_of, location_of}
use Rattle.quadtree.specs.Tree.{deepest}
use Rattle.quadtree.proofs.key_of.Goals as goal
use Rattle.quadtree.proofs.key_of.Goals.{After-spread-2}

-- a 1 in the place of a zoom's digits: the leading one, and the half of the tile's run
one : {z : ℕ} → z ≤ max_zoom → 1 * 2 ^ (2 * z) % 2 ^ 64 ≡ 4 ^ z
one {z} h =
    let e : 1 * 2 ^ (2 * z) ≡ 4 ^ z = omega (arith, four_side z) in
    rw e (mod-eq_of_lt (omega (arith, deepest h)))

-- the numbers that the code computes of a tile
module _ (t : Tile) (m : OfMap t) where
  column : t.x * 2 ^ (max_zoom - t.z) % 2 ^ 32 ≡ t.x * 2 ^ (max_zoom - t.z)
  column = mod-eq_of_lt (omega (arith, corner_column t m, pow_mono {j = 30} max_zoom_small))

  row : apart 1 32 t.y * 2 ^ (2 * (max_zoom - t.z) + 1) % 2 ^ 64 ≡ apart 1 32 t.y * 2 ^ (2 * (max_zoom - t.z) + 1)
  row = mod-eq_of_lt (omega (arith, corner_location t m, location_small t m))

  located : {r s : ℕ} → r ≡ apart 1 32 (t.x * 2 ^ (max_zoom - t.z) % 2 ^ 32) → s ≡ apart 1 32 t.y
      → 2 * (r + s * 2 ^ (2 * (max_zoom - t.z) + 1) % 2 ^ 64 + 1 * 2 ^ (2 * max_zoom) % 2 ^ 64) + 1 * 2 ^ (2 * (max_zoom - t.z)) % 2 ^ 64 ≡ location_of t
  located e f = rw (e, f, column, row, one {z = max_zoom} (omega arith), one {z = max_zoom - t.z} (omega arith)) (corner_location t m)

  above : {p : ℕ} → p ≡ location_of t → p / 2 ^ (2 * (max_zoom - t.z) + 1) ≡ morton_of t
  above e = rw (e, ← location_zeros t) (location_morton t)

pub overflow_sub-below : goal.overflow_sub-below
unfolding max_zoom
overflow_sub-below c = c.requires.zoom

-- what is added up is the location, and fits
whole : (c : After-spread-2)
    → let t = c.args.t in
    2 * (c.spread.result + c.spread-2.result * 2 ^ (2 * (max_zoom - t.z) + 1) % 2 ^ 64 + 1 * 2 ^ (2 * max_zoom) % 2 ^ 64)
    + 1 * 2 ^ (2 * (max_zoom - t.z)) % 2 ^ 64 ≡ location_of t
unfolding max_zoom
whole c = located c.args.t c.requires c.spread.ensures c.spread-2.ensures

fits : (c : After-spread-2) → location_of c.args.t < 2 ^ 62
fits c = location_small c.args.t c.requires

pub overflow_add-digits-2 : goal.overflow_add-digits-2
unfolding max_zoom
overflow_add-digits-2 c = omega (arith, whole (goal.at.overflow_add-digits-2 c).After-spread-2, fits (goal.at.overflow_add-digits-2 c).After-spread-2)

pub overflow_add-p : goal.overflow_add-p
unfolding max_zoom
overflow_add-p c = omega (arith, whole (goal.at.overflow_add-p c).After-spread-2, fits (goal.at.overflow_add-p c).After-spread-2)

pub overflow_mul-p-2 : goal.overflow_mul-p-2
unfolding max_zoom
overflow_mul-p-2 c = omega (arith, whole (goal.at.overflow_mul-p-2 c).After-spread-2, fits (goal.at.overflow_mul-p-2 c).After-spread-2)

pub overflow_add-p-2 : goal.overflow_add-p-2
unfolding max_zoom
overflow_add-p-2 c = omega (arith, whole (goal.at.overflow_add-p-2 c).After-spread-2, fits (goal.at.overflow_add-p-2 c).After-spread-2)

pub returns-in-Location : goal.returns-in-Location
unfolding max_zoom
returns-in-Location c = rw c.in-Location.is (whole (goal.at.returns-in-Location c).After-spread-2)

pub returns-in-Morton : goal.returns-in-Morton
unfolding max_zoom
returns-in-Morton c = rw c.in-Morton.is (above c.args.t c.requires (whole (goal.at.returns-in-Morton c).After-spread-2))
