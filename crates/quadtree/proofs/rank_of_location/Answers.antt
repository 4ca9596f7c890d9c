-- `quadtree::rank_of_location` meets its contract: the Morton code stands above the lowest set bit, which says how deep the tile is.
use mathlib.Core.Path.{◌≡◌, sym, ap, ◌∙◌}
use Prim.Native.Nat.{ℕ, ◌+◌, ◌-◌, ◌*◌, ◌/◌, ◌^◌}
use native.Mathlib.Omega.{arith}
use lib.Count.{count_trailing_zeros}
use Rattle.constants.specs.Limits.{max_zoom, max_zoom_small}
use Rattle.quadtree.specs.LowestBit.{location_zeros, location_morton}
use Rattle.quadtree.specs.Numbers.{location_tile, morton_of, zoom_in}
use Rattle.quadtree.specs.Tree.{morton_zoom}
use Rattle.quadtree.proofs.rank_of_location.Goals as goal
use Rattle.quadtree.proofs.rank_of_location.Goals.{Start}

abbrev low : Start → ℕ
low c = count_trailing_zeros 64 c.args.p

-- the zeros below the bit are two for each zoom that the tile lies above the deepest
zeros : (c : Start) → low c ≡ 2 * (max_zoom - c.requires.tile.z)
zeros c = rw (← c.requires.number) (location_zeros c.requires.tile)

code : (c : Start) → morton_of c.requires.tile ≡ c.args.p / 2 ^ (low c + 1)
code c = rw (← c.requires.number) (sym (location_morton c.requires.tile))

pub overflow_add-low : goal.overflow_add-low
overflow_add-low c = omega (arith, zeros (goal.at.overflow_add-low c).Start, max_zoom_small)

pub overflow_cast-low : goal.overflow_cast-low
overflow_cast-low c = omega (arith, zeros (goal.at.overflow_cast-low c).Start, max_zoom_small)

pub overflow_shr-p : goal.overflow_shr-p
overflow_shr-p c = omega (arith, zeros (goal.at.overflow_shr-p c).Start, max_zoom_small)

pub overflow_cast-low-2 : goal.overflow_cast-low-2
overflow_cast-low-2 c = omega (arith, zeros (goal.at.overflow_cast-low-2 c).Start, max_zoom_small)

pub overflow_sub-low : goal.overflow_sub-low
unfolding max_zoom
overflow_sub-low c = omega (arith, zeros (goal.at.overflow_sub-low c).Start)

pub rank_at-requires : goal.rank_at-requires
unfolding max_zoom
rank_at-requires c = let t = c.requires.tile in
    let m = c.requires.on_map in
    let z : max_zoom - low (goal.at.rank_at-requires c).Start / 2 ≡ t.z = omega (arith, zeros (goal.at.rank_at-requires c).Start, m.zoom) in
    (record { tile = t; on_map = m; number = code (goal.at.rank_at-requires c).Start }, z ∙ (sym (morton_zoom t (omega (arith, m.zoom, max_zoom_small))) ∙ ap zoom_in (code (goal.at.rank_at-requires c).Start)))

pub returns : goal.returns
unfolding location_tile
returns c = c.rank_at.ensures
