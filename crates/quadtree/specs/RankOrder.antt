-- The rank: what it takes apart to, how it is made of a Morton code, and that it goes with the order of lists.
use Rattle.std.specs.Prelude.{◌≡◌, ◌⊎◌, ℕ, suc, ◌+◌, ◌*◌, ◌/◌, ◌%◌, ◌^◌, ◌≤◌, ◌<◌}
use Rattle.std.proofs.Common.{sym, ap, inl, inr, pow-suc, mod-eq_of_lt, add-mul, arith}
use Rattle.std.proofs.Math.Arith.{digits_lt, digits_div, digits_mod}
use Rattle.ids.specs.Powers.{four_power}
use Rattle.tile.specs.Order.{Before, by_z, by_x, by_y, one_before}
use Rattle.tile.specs.declared.Tile.{Tile}
use Rattle.quadtree.specs.Numbers.{OfMap, morton_of, rank_of, zoom_in, even_bits}
use Rattle.quadtree.specs.Tree.{four_mono, four_pos, deepest, zoom_in_lem, morton_zoom, zoom_small, morton_column, morton_row}

pub rank_parts : (t : Tile) → rank_of t ≡ (2 ^ t.z + t.x) * 2 ^ t.z + t.y
unfolding rank_of
rank_parts t = rw (four_power t.z) (omega (arith, add-mul (2 ^ t.z) t.x (2 ^ t.z)))

pub rank_bounds : (t : Tile) → OfMap t → (4 ^ t.z ≤ rank_of t) × (rank_of t < 2 * 4 ^ t.z)
unfolding rank_of
rank_bounds t m = (omega arith, omega (arith, four_power t.z, digits_lt m.column m.row))

pub rank_small : (t : Tile) → OfMap t → (0 < rank_of t) × (rank_of t < 2 ^ 61)
rank_small t m = let b = rank_bounds t m in (omega (arith, four_pos t.z), omega (arith, deepest m.zoom))

pub rank_zoom : (t : Tile) → OfMap t → zoom_in (rank_of t) ≡ t.z
rank_zoom t m = let b = rank_bounds t m in zoom_in_lem (rank_of t) t.z (zoom_small m.zoom) b.0 b.1

-- the column behind a leading 1, then the row
pub rank_column : (t : Tile) → OfMap t → rank_of t / 2 ^ zoom_in (rank_of t) ≡ 2 ^ t.z + t.x
rank_column t m = rw (rank_zoom t m, rank_parts t, digits_div (2 ^ t.z + t.x) m.row)

pub rank_row : (t : Tile) → OfMap t → rank_of t % 2 ^ zoom_in (rank_of t) ≡ t.y
rank_row t m = rw (rank_zoom t m, rank_parts t, digits_mod (2 ^ t.z + t.x) m.row)

-- as the code takes it apart
pub rank_taken : {r k : ℕ} (t : Tile) → OfMap t → rank_of t ≡ r → k ≡ zoom_in r
    → (k ≡ t.z) × (r / 2 ^ k ≡ 2 ^ t.z + t.x) × (r % 2 ^ k ≡ t.y)
rank_taken t m e f = rw (f, ← e) (rank_zoom t m, rank_column t m, rank_row t m)

-- as the code makes it of a Morton code
pub morton_rank : (t : Tile) → OfMap t
    → even_bits 32 (morton_of t) * 2 ^ zoom_in (morton_of t) % 2 ^ 64 + even_bits 32 (morton_of t / 2) ≡ rank_of t
morton_rank t m =
    let s = rank_small t m in
    let e = rank_parts t in
    let l : (2 ^ t.z + t.x) * 2 ^ t.z < 2 ^ 64 = omega arith in
    rw (morton_zoom t (zoom_small m.zoom), morton_column t m, morton_row t m, mod-eq_of_lt l) (sym e)

pub rank_before : (s t : Tile) → OfMap s → OfMap t → Before s t → rank_of s < rank_of t
unfolding rank_of
rank_before s t m n (by_z h) =
    let l : 4 ^ suc s.z ≤ 4 ^ t.z = four_mono h in
    let p = pow-suc 4 s.z in
    omega (arith, (rank_bounds s m).1, (rank_bounds t n).0)
rank_before s t m n (by_x e h) = rw e (omega (arith, digits_lt h (rw e at m.row)))
rank_before s t m n (by_y e f h) = rw (e, f) (omega arith)

pub before_rank : (s t : Tile) → OfMap s → OfMap t → rank_of s < rank_of t → Before s t
before_rank s t m n h = pick (one_before s t)
  where
    pick : Before s t ⊎ ((s ≡ t) ⊎ Before t s) → Before s t
    pick (inl b) = b
    pick (inr (inl e)) = let f = ap rank_of e in absurd (omega arith)
    pick (inr (inr b)) = absurd (omega (arith, rank_before t s n m b))
