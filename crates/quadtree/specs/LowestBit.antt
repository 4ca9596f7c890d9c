-- The location: its lowest set bit stands just below the Morton code.
use Rattle.std.specs.Prelude.{◌≡◌, ℕ, zero, suc, ◌+◌, ◌-◌, ◌*◌, ◌/◌, ◌%◌, ◌^◌, ◌<◌}
use Rattle.std.proofs.Common.{sym, ap, ◌∙◌, mul-lt-mul_of_pos_right, pow-suc, mul_assoc, arith, pow-add, shr-shr}
use Rattle.std.specs.Int.Count.{count_trailing_zeros}
use Rattle.std.proofs.lemmas.Nat.{shl-shr}
use Rattle.constants.specs.Limits.{max_zoom, max_zoom_small}
use Rattle.ids.specs.Powers.{four_side}
use Rattle.tile.specs.declared.Tile.{Tile}
use Rattle.quadtree.specs.Numbers.{OfMap, morton_of, location_of}
use Rattle.quadtree.specs.Tree.{morton_bounds, four_pos, deepest}

trailing_odd : (k u q : ℕ) → u < k → count_trailing_zeros k ((2 * q + 1) * 2 ^ u) ≡ u
unfolding count_trailing_zeros
trailing_odd zero u q h = absurd (omega arith)
trailing_odd (suc k) zero q h = let e : ((2 * q + 1) * 1) % 2 ≡ 1 = omega arith in rw e
trailing_odd (suc k) (suc u) q h =
    let n = (2 * q + 1) * 2 ^ u in
    let p : (2 * q + 1) * 2 ^ suc u ≡ n * 2 = rw (pow-suc 2 u) (sym (mul_assoc (2 * q + 1) (2 ^ u) 2)) in
    let d : n * 2 / 2 ≡ n = omega arith in
    let e : n * 2 % 2 ≡ 0 = omega arith in
    rw (p, d, e, trailing_odd k u q (omega arith))

pub location_shift : (t : Tile) → location_of t ≡ (2 * morton_of t + 1) * 2 ^ (2 * (max_zoom - t.z))
unfolding location_of
location_shift t = rw (four_side (max_zoom - t.z))

pub location_small : (t : Tile) → OfMap t → location_of t < 2 ^ 62
unfolding location_of
location_small t m =
    let k = max_zoom - t.z in
    let a : t.z + k ≡ max_zoom = omega (arith, m.zoom) in
    let l : 2 * morton_of t + 1 < 4 * 4 ^ t.z = omega (arith, (morton_bounds t).1) in
    let e : 4 * 4 ^ t.z * 4 ^ k ≡ 4 * 4 ^ max_zoom =
    mul_assoc 4 (4 ^ t.z) (4 ^ k) ∙ ap (λ (n : ℕ). 4 * n) (sym (pow-add 4 t.z k) ∙ ap (λ (n : ℕ). 4 ^ n) a) in
    omega (arith, mul-lt-mul_of_pos_right l (four_pos k), deepest {z = max_zoom} (omega arith))

pub location_zeros : (t : Tile) → count_trailing_zeros 64 (location_of t) ≡ 2 * (max_zoom - t.z)
location_zeros t = rw (location_shift t) (trailing_odd 64 (2 * (max_zoom - t.z)) (morton_of t) (omega (arith, max_zoom_small)))

pub location_morton : (t : Tile) → location_of t / 2 ^ (count_trailing_zeros 64 (location_of t) + 1) ≡ morton_of t
location_morton t =
    let u = 2 * (max_zoom - t.z) in
    let h : (2 * morton_of t + 1) / 2 ≡ morton_of t = omega arith in
    rw (location_zeros t, location_shift t, ← shr-shr ((2 * morton_of t + 1) * 2 ^ u) u 1, shl-shr (2 * morton_of t + 1) u) h
