-- The corner of a tile, which is the first of the deepest tiles inside it: its Morton code is the tile's own with digits 0 behind it, and
-- by it the code finds the tile's location.
use Rattle.std.specs.Prelude.{◌≡◌, ℕ, zero, suc, ◌+◌, ◌-◌, ◌*◌, ◌/◌, ◌%◌, ◌^◌, ◌≤◌, ◌<◌}
use Rattle.std.proofs.Common.{sym, ap, ◌∙◌, lt_of_lt_of_le, pow-suc, mul-lt-mul_of_pos_right, arith, pow-add, pow_mono, pow_pos}
use Rattle.constants.specs.Limits.{max_zoom, max_zoom_small}
use Rattle.ids.specs.Powers.{four_side}
use Rattle.tile.specs.declared.Tile.{Tile}
use Rattle.quadtree.specs.Digits.{apart, morton_apart}
use Rattle.quadtree.specs.Numbers.{OfMap, morton_of, location_of}

-- a column has no more bits than its zoom, and b zooms down b bits 0 more
apart_enough : (k n : ℕ) → n < 2 ^ k → apart 1 (suc k) n ≡ apart 1 k n
unfolding apart
apart_enough zero n h = let e : n ≡ 0 = omega arith in rw e
apart_enough (suc k) n h = let h : n < 2 ^ k * 2 = rw (pow-suc 2 k) at h in rw (apart_enough k (n / 2) (omega arith))

apart_double : (k n : ℕ) → n < 2 ^ k → apart 1 (suc k) (2 * n) ≡ 4 * apart 1 (suc k) n
unfolding apart
apart_double k n h =
    let a : 2 * n / 2 ≡ n = omega arith in
    let b : 2 * n % 2 ≡ 0 = omega arith in
    rw (a, b, apart_enough k n h) (omega arith)

apart_shifted : (n z b : ℕ) → n < 2 ^ z → z + b ≤ 32 → apart 1 32 (n * 2 ^ b) ≡ apart 1 32 n * 4 ^ b
apart_shifted n z zero h k = let e : n * 1 ≡ n = omega arith in rw e (omega arith)
apart_shifted n z (suc b) h k =
    let l : n * 2 ^ b < 2 ^ (z + b) = rw (pow-add 2 z b) (mul-lt-mul_of_pos_right h (pow_pos b)) in
    let m : n * 2 ^ b < 2 ^ 31 = lt_of_lt_of_le l (pow_mono {j = 31} (omega arith)) in
    let e : n * 2 ^ suc b ≡ 2 * (n * 2 ^ b) = rw (pow-suc 2 b) (omega arith) in
    rw (e, apart_double 31 (n * 2 ^ b) m, apart_shifted n z b h (omega arith), pow-suc 4 b) (omega arith)

module _ (t : Tile) (m : OfMap t) where
  sum : t.z + (max_zoom - t.z) ≡ max_zoom
  sum = omega (arith, m.zoom)

  pub corner_column : t.x * 2 ^ (max_zoom - t.z) < 2 ^ max_zoom
  corner_column =
      let b = max_zoom - t.z in
      let side : 2 ^ t.z * 2 ^ b ≡ 2 ^ max_zoom = sym (pow-add 2 t.z b) ∙ ap (λ (n : ℕ). 2 ^ n) sum in
      rw (← side) (mul-lt-mul_of_pos_right m.column (pow_pos b))

  corner_digits : apart 1 32 (t.x * 2 ^ (max_zoom - t.z)) + apart 1 32 t.y * 2 ^ (2 * (max_zoom - t.z) + 1) + 4 ^ max_zoom
      ≡ morton_of t * 4 ^ (max_zoom - t.z)
  corner_digits =
      let b = max_zoom - t.z in
      let few : t.z + b ≤ 32 = omega (arith, sum, max_zoom_small) in
      let c = apart_shifted t.x t.z b m.column few in
      let d : 2 ^ (2 * b + 1) ≡ 4 ^ b * 2 = rw (pow-add 2 (2 * b) 1, four_side b) in
      let p : 4 ^ max_zoom ≡ 4 ^ t.z * 4 ^ b = ap (λ (n : ℕ). 4 ^ n) (sym sum) ∙ pow-add 4 t.z b in
      let e = morton_apart t.x t.y t.z 32 m.column m.row (omega (arith, few)) in
      rw (c, d, p, e) (omega arith)

  -- as the code computes it
  pub corner_location : 2 * (apart 1 32 (t.x * 2 ^ (max_zoom - t.z)) + apart 1 32 t.y * 2 ^ (2 * (max_zoom - t.z) + 1) + 4 ^ max_zoom)
      + 4 ^ (max_zoom - t.z) ≡ location_of t
  unfolding location_of
  corner_location = rw corner_digits (omega arith)
