-- The Morton code: how it goes with the tree, which codes a zoom has, and what the digits of a code spell.
use Rattle.std.specs.Prelude.{◌≡◌, refl, ℕ, zero, suc, ◌+◌, ◌-◌, ◌*◌, ◌/◌, ◌%◌, ◌^◌, ◌≤◌, ◌<◌}
use Rattle.std.proofs.Common.{pow-suc, mod-eq_of_lt, div-one, add-one, arith, pow_pos}
use Rattle.std.proofs.Math.Nat.{pow-succ', div-div-eq-div-mul, pow-le-pow_right, mod-one}
use Rattle.std.proofs.Math.Arith.{mod-mul}
use Rattle.std.specs.Int.Count.{count_leading_zeros, leading_unique}
use Rattle.constants.specs.Limits.{max_zoom, max_zoom_small}
use Rattle.ids.specs.Powers.{four_side}
use Rattle.tile.specs.declared.Tile.{Tile}
use Rattle.tile_set.specs.Set.{child, ancestor, parent_tile}
use Rattle.quadtree.specs.Numbers.{OfMap, morton_at, morton_of, zoom_in, even_bits}

-- the tree

pub morton_child : (p : Tile) (i j : ℕ) → i < 2 → j < 2 → morton_of (child p i j) ≡ 4 * morton_of p + (2 * j + i)
unfolding morton_at
morton_child p i j h k =
    let a : (2 * p.x + i) / 2 ≡ p.x = omega arith in
    let b : (2 * p.y + j) / 2 ≡ p.y = omega arith in
    let c : (2 * p.x + i) % 2 ≡ i = omega arith in
    let d : (2 * p.y + j) % 2 ≡ j = omega arith in
    rw (a, b, c, d)

at_four : (x y z : ℕ) → (morton_at x y (suc z) / 4 ≡ morton_at (x / 2) (y / 2) z) × (morton_at x y (suc z) % 4 ≡ 2 * (y % 2) + x % 2)
unfolding morton_at
at_four x y z = (omega arith, omega arith)

-- above its last digit a Morton code is that of the parent
pub four_codes : (t : Tile) → 0 < t.z → (morton_of t / 4 ≡ morton_of (parent_tile t)) × (morton_of t % 4 ≡ 2 * (t.y % 2) + t.x % 2)
four_codes t h = let e : suc (t.z - 1) ≡ t.z = omega arith in rw e at (at_four t.x t.y (t.z - 1))

at_above : (x y s k : ℕ) → morton_at (x / 2 ^ k) (y / 2 ^ k) s ≡ morton_at x y (s + k) / 4 ^ k
at_above x y s zero = let e : s + 0 ≡ s = omega arith in rw (e, div-one x, div-one y, div-one (morton_at x y s))
at_above x y s (suc k) =
    let e : s + suc k ≡ suc (s + k) = omega arith in
    rw (
      e,
      pow-succ' 2 k,
      pow-succ' 4 k,
      ← div-div-eq-div-mul x 2 (2 ^ k),
      ← div-div-eq-div-mul y 2 (2 ^ k),
      ← div-div-eq-div-mul (morton_at x y (suc (s + k))) 4 (4 ^ k),
      (at_four x y (s + k)).0,
    )
    (at_above (x / 2) (y / 2) s k)

pub morton_ancestor : (t : Tile) (s : ℕ) → s ≤ t.z → morton_of (ancestor t s) ≡ morton_of t / 4 ^ (t.z - s)
morton_ancestor t s h = let e : s + (t.z - s) ≡ t.z = omega arith in rw e at (at_above t.x t.y s (t.z - s))

-- which Morton codes a zoom has

at_bounds : (x y z : ℕ) → (4 ^ z ≤ morton_at x y z) × (morton_at x y z < 2 * 4 ^ z)
unfolding morton_at
at_bounds x y zero = omega arith
at_bounds x y (suc z) = let i = at_bounds (x / 2) (y / 2) z in rw (pow-suc 4 z) (omega (arith, i.0, i.1))

pub morton_bounds : (t : Tile) → (4 ^ t.z ≤ morton_of t) × (morton_of t < 2 * 4 ^ t.z)
morton_bounds t = at_bounds t.x t.y t.z

pub four_mono : {i j : ℕ} → i ≤ j → 4 ^ i ≤ 4 ^ j
four_mono h = pow-le-pow_right (omega arith) h

pub four_pos : (k : ℕ) → 0 < 4 ^ k
four_pos k = four_mono {i = 0} {j = k} (omega arith)

pub morton_deeper : (t : Tile) (m : ℕ) → m < t.z → 4 ^ (m + 1) ≤ morton_of t
morton_deeper t m h = let l : 4 ^ (m + 1) ≤ 4 ^ t.z = four_mono (omega arith) in omega (arith, (morton_bounds t).0)

pub morton_shallower : (t : Tile) (m : ℕ) → t.z ≤ m → morton_of t < 4 ^ (m + 1)
morton_shallower t m h = let l = four_mono h in rw (add-one m, pow-suc 4 m) (omega (arith, (morton_bounds t).1))

pub deepest : {z : ℕ} → z ≤ max_zoom → 4 ^ z ≤ 2 ^ 60
deepest h = four_mono {j = 30} (omega (arith, max_zoom_small))

pub morton_small : (t : Tile) → OfMap t → (0 < morton_of t) × (morton_of t < 2 ^ 61)
morton_small t m = let b = morton_bounds t in (omega (arith, four_pos t.z), omega (arith, deepest m.zoom))

-- the zoom of a number with 2z + 1 bits
pub zoom_in_lem : (n z : ℕ) → z ≤ 31 → 4 ^ z ≤ n → n < 2 * 4 ^ z → zoom_in n ≡ z
unfolding zoom_in
zoom_in_lem n z h a b =
    let p : 2 ^ (2 * z + 1) ≡ 2 * 4 ^ z = rw (add-one (2 * z), pow-suc 2 (2 * z), four_side z) (omega arith) in
    let e : 63 - 2 * z ≡ count_leading_zeros 64 n = leading_unique 64 n (63 - 2 * z) (2 * z + 1) (omega arith) (rw p b) (rw p (omega arith)) in
    rw (← e) (omega arith)

pub morton_zoom : (t : Tile) → t.z ≤ 31 → zoom_in (morton_of t) ≡ t.z
morton_zoom t h = let b = morton_bounds t in zoom_in_lem (morton_of t) t.z h b.0 b.1

-- what the digits of a Morton code spell

half_bits : (n z : ℕ) → n % 2 ^ suc z ≡ 2 * (n / 2 % 2 ^ z) + n % 2
half_bits n z = rw (pow-suc 2 z, mod-mul n (pow_pos z) (pow_pos 1)) (omega arith)

none_even : (k : ℕ) → even_bits k 0 ≡ 0
unfolding even_bits
none_even zero = refl
none_even (suc k) = rw (none_even k)

-- the leading 1 is a bit of the column
at_column : (x y z k : ℕ) → z < k → even_bits k (morton_at x y z) ≡ 2 ^ z + x % 2 ^ z
unfolding morton_at even_bits
at_column x y z zero h = absurd (omega arith)
at_column x y zero (suc k) h = rw (none_even k, mod-one x)
at_column x y (suc z) (suc k) h =
    let f = at_four x y z in
    let e : (4 * morton_at (x / 2) (y / 2) z + (2 * (y % 2) + x % 2)) % 2 ≡ x % 2 = omega arith in
    rw (f.0, at_column (x / 2) (y / 2) z k (omega arith), e, half_bits x z, pow-suc 2 z) (omega arith)

at_row : (x y z k : ℕ) → z ≤ k → even_bits k (morton_at x y z / 2) ≡ y % 2 ^ z
unfolding morton_at even_bits
at_row x y zero k h = rw (none_even k, mod-one y)
at_row x y (suc z) zero h = absurd (omega arith)
at_row x y (suc z) (suc k) h =
    let n = 4 * morton_at (x / 2) (y / 2) z + (2 * (y % 2) + x % 2) in
    let d : n / 2 / 4 ≡ morton_at (x / 2) (y / 2) z / 2 = omega arith in
    let e : n / 2 % 2 ≡ y % 2 = omega arith in
    rw (d, at_row (x / 2) (y / 2) z k (omega arith), e, half_bits y z)

pub zoom_small : {z : ℕ} → z ≤ max_zoom → z ≤ 31
zoom_small h = omega (arith, max_zoom_small)

pub morton_column : (t : Tile) → OfMap t → even_bits 32 (morton_of t) ≡ 2 ^ t.z + t.x
morton_column t m = let l = zoom_small m.zoom in rw (at_column t.x t.y t.z 32 (omega arith), mod-eq_of_lt m.column)

pub morton_row : (t : Tile) → OfMap t → even_bits 32 (morton_of t / 2) ≡ t.y
morton_row t m = let l = zoom_small m.zoom in rw (at_row t.x t.y t.z 32 (omega arith), mod-eq_of_lt m.row)
