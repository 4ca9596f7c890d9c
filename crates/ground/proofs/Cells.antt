-- Tiles of the deepest zoom D, called cells here: those of a tile, those of a list's ground, and what a full tile says of them.
use Rattle.std.specs.Prelude.{◌≡◌, Bool, true, eqb}
use Rattle.std.proofs.Math.Path.{sym}
use Rattle.std.proofs.Common.{◌∙◌, subst, div-one, div-lt_iff_lt-mul, add-one, arith, eq-eqb, eqb-true, pow_pos, pow-add, shr-shr}
use mathlib.Core.List.{List, Memᴰ}
use Prim.Native.Nat.{ℕ, zero, suc, ◌+◌, ◌-◌, ◌*◌, ◌/◌, ◌%◌, ◌^◌, ◌≤◌, ◌<◌}
use Rattle.std.proofs.lemmas.Nat.{shl-shr}
use Rattle.bits.specs.Tests.{and_parts, in_any, any_in}
use Rattle.ground.specs.Ground.{inside, ground, full}
use Rattle.tile.specs.OnMap.{tile_at}
use Rattle.tile.specs.declared.Tile.{Tile}
use Rattle.tile_set.specs.Holds.{Holds, holds_trans, Valid}
use Rattle.tile_set.specs.Merged.{whole_all}
use Rattle.tile_set.specs.Set.{child}

module _ {D : ℕ} where
  pub inside_holds : (t : Tile) (X Y : ℕ) → t.z ≤ D → inside D t X Y ≡ true → Holds t (tile_at X Y D)
  inside_holds t X Y l e =
      let p = and_parts (eqb (X / 2 ^ (D - t.z)) t.x) (eqb (Y / 2 ^ (D - t.z)) t.y) e in
      record { above = l; inx = eqb-true _ _ p.0; iny = eqb-true _ _ p.1 }

  pub holds_inside : (t : Tile) (X Y : ℕ) → Holds t (tile_at X Y D) → inside D t X Y ≡ true
  holds_inside t X Y h = rw (eq-eqb _ _ h.inx, eq-eqb _ _ h.iny)

  pub ground_in : (l : List Tile) (X Y : ℕ) (t : Tile) → Memᴰ t l → Holds t (tile_at X Y D) → ground D l X Y ≡ true
  unfolding ground
  ground_in l X Y t m h = in_any (λ t. inside D t X Y) l m (holds_inside t X Y h)

  pub ground_of_lem : (l : List Tile) (X Y : ℕ) → ((t : Tile) → Memᴰ t l → Valid D t) → ground D l X Y ≡ true
      → (t : Tile) × Memᴰ t l × Holds t (tile_at X Y D)
  unfolding ground
  ground_of_lem l X Y v e = let s = any_in (λ t. inside D t X Y) l e in (s.0, s.1, inside_holds s.0 X Y (v s.0 s.1).zoom s.2)

  -- a tile's first cell
  pub first_cell : (t : Tile) → t.z ≤ D → Holds t (tile_at (t.x * 2 ^ (D - t.z)) (t.y * 2 ^ (D - t.z)) D)
  first_cell t l = record { above = l; inx = shl-shr t.x (D - t.z); iny = shl-shr t.y (D - t.z) }

  -- what lies under a tile of the map is of the map
  pub held_valid : {s t : Tile} → Valid D s → Holds s t → t.z ≤ D → Valid D t
  held_valid {s} {t} v h l = record { zoom = l; column = bound h.inx v.column; row = bound h.iny v.row }
    where
      bound : {n x : ℕ} → n / 2 ^ (t.z - s.z) ≡ x → x < 2 ^ s.z → n < 2 ^ t.z
      bound {n} e l =
          let k : s.z + (t.z - s.z) ≡ t.z = omega (arith, h.above) in
          subst (λ (i : ℕ). n < 2 ^ i) k (rw pow-add ((div-lt_iff_lt-mul (pow_pos (t.z - s.z))).0 (rw e l)))

  -- so are the cells of a tile of the map
  pub cell_on_map : {t : Tile} {X Y : ℕ} → Valid D t → Holds t (tile_at X Y D) → (X < 2 ^ D) × (Y < 2 ^ D)
  cell_on_map v h = let w = held_valid v h (omega arith) in (w.column, w.row)

halve : (n d : ℕ) → n / 2 ^ suc d ≡ n / 2 ^ d / 2
halve n d = rw (← add-one d, shr-shr n d 1)

module _ (G : ℕ → ℕ → Bool) where
  full_all : (d : ℕ) (t : Tile) (X Y : ℕ) → full G d t ≡ true → X / 2 ^ d ≡ t.x → Y / 2 ^ d ≡ t.y → G X Y ≡ true
  unfolding full
  full_all zero t X Y e p q = let a : X ≡ t.x = sym (div-one X) ∙ p in let b : Y ≡ t.y = sym (div-one Y) ∙ q in rw (a, b) e
  full_all (suc d) t X Y e p q =
      full_all d (child t (X / 2 ^ d % 2) (Y / 2 ^ d % 2)) X Y
      ((whole_all (full G d) t).0 e (X / 2 ^ d % 2) (Y / 2 ^ d % 2) (omega arith) (omega arith))
      (omega (arith, sym (halve X d) ∙ p)) (omega (arith, sym (halve Y d) ∙ q))

  all_full : (d : ℕ) (t : Tile) → ((X Y : ℕ) → X / 2 ^ d ≡ t.x → Y / 2 ^ d ≡ t.y → G X Y ≡ true) → full G d t ≡ true
  unfolding full
  all_full zero t f = f t.x t.y (div-one t.x) (div-one t.y)
  all_full (suc d) t f =
      (whole_all (full G d) t).1 (λ i j a b. all_full d (child t i j) (λ X Y p q. f X Y (up X i t.x a p) (up Y j t.y b q)))
    where
      up : (n i x : ℕ) → i < 2 → n / 2 ^ d ≡ 2 * x + i → n / 2 ^ suc d ≡ x
      up n i x l e = rw (halve n d) (omega arith)

-- a tile is full where all its cells are in the set
module _ (D : ℕ) (G : ℕ → ℕ → Bool) where
  pub full_cells : (t : Tile) {X Y : ℕ} → full G (D - t.z) t ≡ true → Holds t (tile_at X Y D) → G X Y ≡ true
  full_cells t {X} {Y} e h = full_all G (D - t.z) t X Y e h.inx h.iny

  pub cells_full : (t : Tile) → t.z ≤ D → ((X Y : ℕ) → Holds t (tile_at X Y D) → G X Y ≡ true) → full G (D - t.z) t ≡ true
  cells_full t l f = all_full G (D - t.z) t (λ X Y p q. f X Y (record { above = l; inx = p; iny = q }))

  pub full_under : (s t : Tile) → Holds s t → t.z ≤ D → full G (D - s.z) s ≡ true → full G (D - t.z) t ≡ true
  full_under s t h l e = cells_full t l (λ X Y k. full_cells s e (holds_trans h k))
