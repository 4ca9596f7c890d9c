-- That the Rust's arms, and its steps by signed numbers, give the squares of the block of nine, and that all of it fits the Rust's widths.
use Rattle.std.specs.Prelude.{◌≡◌, refl, Bool, cond, ◌||◌, ℕ, ◌+◌, ◌-◌, ◌/◌, ◌%◌, ◌^◌, ◌≤◌, ◌<◌, leb, ltb, eqb, ℤ, pos, negsuc, ◌+ℤ◌}
use Rattle.std.proofs.Common.{sym, ap, mod-eq_of_lt, mod-lt, add-one, pow_pos}
use Rattle.std.proofs.Math.Bool.{true, false}
use mathlib.Core.List.{List, [], ◌∷◌, ◌++◌, flat_map}
use Rattle.std.proofs.Math.Decide.{dec_lt}
use Rattle.std.proofs.Math.Nat.{add-mod_right}
use native.Mathlib.Omega.{arith}
use Rattle.std.specs.Int.Signed.{lt_z, le_z}
use borrow.Author.Tests.{le-leb, lt-leb, le-ltb, lt-ltb, eqb-true, eqb-false}
use Rattle.bits.specs.Checked.{returns, minus_fits, one_shifted}
use Rattle.children.specs.Children.{gather}
use Rattle.children.specs.Rust.{vec}
use Rattle.siblings.specs.Laws.{side_most, next}
use Rattle.siblings.specs.Rust.{rust_tiles}
use Rattle.tile.specs.OnMap.{tile_at}
use Rattle.tile.specs.Rust.{To29, rust_along}
use Rattle.tile.specs.declared.Step.TheVariants.{Back}
use Rattle.tile.specs.declared.Tile.{Tile}
use Rattle.neighbors.specs.Neighbors.{around, around_wrapped, step_on_map, near, near_wrapped}
use Rattle.neighbors.specs.declared.Seam.TheVariants.{Cut}
use Rattle.neighbors.specs.Rust.{neighbors_arm, rem_euclid, as_u32, plus_i64, wrap_step, wrap_steps, wrap_tiles, arm_by, tiles_at, if_on_map}
use Rattle.neighbors.specs.Rust.{struck}
use Rattle.neighbors.specs.MapEdge.{below_one, near_off_row}

-- where all tiles are on the map, none is struck out
pub AllOnMap : List Tile → Type 0
AllOnMap [] = Unit {0}
AllOnMap (t ∷ ts) = (t.x < 2 ^ t.z) × (t.y < 2 ^ t.z) × AllOnMap ts

pub none_struck : (ts : List Tile) → AllOnMap ts → struck ts ≡ ts
unfolding flat_map AllOnMap
none_struck [] w = refl
none_struck (t ∷ ts) w = rw (lt-ltb _ _ w.0, lt-ltb _ _ w.1) (ap (λ (l : List Tile). t ∷ l) (none_struck ts w.2))

inside_is : (side n s a : ℕ) → n + s ≡ a + 1 → step_on_map side n s ≡ ltb a side
inside_is side n s a e = let h : 1 ≤ a + 1 = omega arith in rw (e, le-leb 1 (a + 1) h, add-one a)

-- n - 1 where n is not 0
last : (n : ℕ) → eqb n 0 ≡ false → rust_along Back n ≡ returns (n - 1)
last n e = minus_fits n 1 (omega (arith, eqb-false n 0 e))

-- a square by the tile that stands there; left of column 0 and above row 0 there is none
module _ (x y z : ℕ) where
  pub near_at : (s a b : ℕ) → x + s / 3 ≡ a + 1 → y + s % 3 ≡ b + 1 → near x y z s ≡ if_on_map (tile_at a b z)
  near_at s a b e f =
      let p : x + s / 3 - 1 ≡ a = omega arith in
      let q : y + s % 3 - 1 ≡ b = omega arith in
      rw (inside_is (2 ^ z) x (s / 3) a e, inside_is (2 ^ z) y (s % 3) b f, p, q)

  no_column : (s : ℕ) → x + s / 3 < 1 → near x y z s ≡ []
  no_column s h = rw (below_one (2 ^ z) x (s / 3) h)

  no_row : (s : ℕ) → y + s % 3 < 1 → near x y z s ≡ []
  no_row s h = sym (near_off_row Cut x y z s (below_one (2 ^ z) y (s % 3) h))

  -- the block in its order, by what stands at the five squares that column 0 or row 0 may lack
  block : {w n nw ne sw : List Tile} → near x y z 1 ≡ w → near x y z 3 ≡ n → near x y z 0 ≡ nw → near x y z 6 ≡ ne → near x y z 2 ≡ sw
      → if_on_map (tile_at (x + 1) y z)
      ++ (if_on_map (tile_at x (y + 1) z) ++ (if_on_map (tile_at (x + 1) (y + 1) z) ++ (w ++ (n ++ (nw ++ (ne ++ (sw ++ [])))))))
      ≡ gather (near x y z) around
  unfolding gather
  block p q r s t =
      rw (
        near_at 7 (x + 1) y (omega arith) (omega arith),
        near_at 5 x (y + 1) (omega arith) (omega arith),
        near_at 8 (x + 1) (y + 1) (omega arith) (omega arith),
        p,
        q,
        r,
        s,
        t,
      )

  -- the four arms that a tile of the map may take
  pub arm_struck : (a : Bool) → eqb x 0 ≡ a → (b : Bool) → eqb y 0 ≡ b
      → struck (tiles_at (neighbors_arm (arm_by a b)) x y z) ≡ gather (near x y z) around
  unfolding flat_map
  arm_struck true p true q =
      let e = eqb-true x 0 p in
      let f = eqb-true y 0 q in
      block (no_column 1 (omega arith)) (no_row 3 (omega arith)) (no_column 0 (omega arith)) (no_row 6 (omega arith))
      (no_column 2 (omega arith))
  arm_struck true p false q =
      let e = eqb-true x 0 p in
      let f = eqb-false y 0 q in
      block (no_column 1 (omega arith)) (near_at 3 x (y - 1) (omega arith) (omega arith)) (no_column 0 (omega arith))
      (near_at 6 (x + 1) (y - 1) (omega arith) (omega arith)) (no_column 2 (omega arith))
  arm_struck false p true q =
      let e = eqb-false x 0 p in
      let f = eqb-true y 0 q in
      block (near_at 1 (x - 1) y (omega arith) (omega arith)) (no_row 3 (omega arith)) (no_row 0 (omega arith)) (no_row 6 (omega arith))
      (near_at 2 (x - 1) (y + 1) (omega arith) (omega arith))
  arm_struck false p false q =
      let e = eqb-false x 0 p in
      let f = eqb-false y 0 q in
      block (near_at 1 (x - 1) y (omega arith) (omega arith)) (near_at 3 x (y - 1) (omega arith) (omega arith))
      (near_at 0 (x - 1) (y - 1) (omega arith) (omega arith)) (near_at 6 (x + 1) (y - 1) (omega arith) (omega arith))
      (near_at 2 (x - 1) (y + 1) (omega arith) (omega arith))

  -- away from the right and bottom edges an arm's tiles are on the map
  pub arm_within : (a b : Bool) → x < 2 ^ z - 1 → y < 2 ^ z - 1 → AllOnMap (tiles_at (neighbors_arm (arm_by a b)) x y z)
  unfolding AllOnMap
  arm_within true true h k = omega arith
  arm_within true false h k = omega arith
  arm_within false true h k = omega arith
  arm_within false false h k = omega arith

  -- and all of them are computed, since a column or row before the tile's is asked for only where it is not 0
  pub arm_fits : (a : Bool) → eqb x 0 ≡ a → (b : Bool) → eqb y 0 ≡ b → x < 2 ^ 29 → y < 2 ^ 29
      → rust_tiles (neighbors_arm (arm_by a b)) x y z ≡ returns (tiles_at (neighbors_arm (arm_by a b)) x y z)
  unfolding vec
  arm_fits true p true q h k = rw (next x h, next y k)
  arm_fits true p false q h k = rw (next x h, next y k, last y q)
  arm_fits false p true q h k = rw (next x h, next y k, last x p)
  arm_fits false p false q h k = rw (next x h, next y k, last x p, last y q)

-- a signed step of the Rust, and the step 0, 1 or 2 that stands for it here
data Means : ℤ → ℕ → Type 0 where
  back : Means (negsuc 0) 0
  stay : Means (pos 0) 1
  on : Means (pos 1) 2

signed_sum : {d : ℤ} {s : ℕ} → Means d s → (n : ℕ) → 0 < n + s → pos n +ℤ d ≡ pos (n + s - 1)
signed_sum back n h = let l : 1 ≤ n = omega arith in let e : n - 1 ≡ n + 0 - 1 = omega arith in rw (le-ltb n 1 l, e)
signed_sum stay n h = let e : n + 0 ≡ n + 1 - 1 = omega arith in ap pos e
signed_sum on n h = let e : n + 1 ≡ n + 2 - 1 = omega arith in ap pos e

below_zero : {d : ℤ} {s : ℕ} → Means d s → (n : ℕ) → n + s ≡ 0 → pos n +ℤ d ≡ negsuc 0
below_zero back n h = let e : n ≡ 0 = omega arith in rw e
below_zero stay n h = absurd (omega arith)
below_zero on n h = absurd (omega arith)

wrapped_column : {d : ℤ} {s : ℕ} → Means d s → (x side : ℕ) → x < side → rem_euclid (pos x +ℤ d) side ≡ (x + s + side - 1) % side
wrapped_column {d} {s} p x side h = pick (dec_lt 0 (x + s))
  where
    pick : Dec (0 < x + s) → rem_euclid (pos x +ℤ d) side ≡ (x + s + side - 1) % side
    pick (yes k) = let e : x + s + side - 1 ≡ x + s - 1 + side = omega arith in rw (signed_sum p x k, e, add-mod_right (x + s - 1) side)
    pick (no k) =
        let e : x + s ≡ 0 = omega arith in
        let f : x + s + side - 1 ≡ side - 1 = omega arith in
        let l : side - 1 < side = omega arith in
        let m : 0 < side = omega arith in
        let g : side - 1 - 0 ≡ side - 1 = omega arith in
        rw (below_zero p x e, f, mod-eq_of_lt l, mod-eq_of_lt m, g)

-- neither sum leaves 64 bits
sum_fits : {d : ℤ} {s : ℕ} → Means d s → (n : ℕ) → n < 2 ^ 29 → plus_i64 (pos n) d ≡ returns (pos n +ℤ d)
sum_fits {d} {s} p n h = pick (dec_lt 0 (n + s))
  where
    step : {d : ℤ} {s : ℕ} → Means d s → s ≤ 2
    step back = omega arith
    step stay = omega arith
    step on = omega arith

    pick : Dec (0 < n + s) → plus_i64 (pos n) d ≡ returns (pos n +ℤ d)
    pick (yes k) = let l : n + s - 1 < 2 ^ 63 = omega (arith, step p) in rw (signed_sum p n k, lt-ltb _ _ l)
    pick (no k) = rw (below_zero p n (omega arith))

row_kept : (side n : ℕ) (t : ℕ → Tile) → side ≤ 2 ^ 29
    → cond (lt_z (pos n) (pos 0) || le_z (pos side) (pos n)) [] (t (as_u32 (pos n)) ∷ []) ≡ cond (ltb n side) (t n ∷ []) []
row_kept side n t b = pick (dec_lt n side)
  where
    z : 0 ≤ n
    z = omega arith

    pick : Dec (n < side) → cond (ltb n 0 || leb side n) [] (t (n % 2 ^ 32) ∷ []) ≡ cond (ltb n side) (t n ∷ []) []
    pick (yes h) = let l : n < 2 ^ 32 = omega arith in rw (le-ltb n 0 z, lt-ltb n side h, lt-leb side n h, mod-eq_of_lt l)
    pick (no h) = let l : side ≤ n = omega arith in rw (le-ltb n 0 z, le-leb side n l, le-ltb n side l)

wrapped_row : {d : ℤ} {s : ℕ} → Means d s → (y side : ℕ) (t : ℕ → Tile) → side ≤ 2 ^ 29
    → cond (lt_z (pos y +ℤ d) (pos 0) || le_z (pos side) (pos y +ℤ d)) [] (t (as_u32 (pos y +ℤ d)) ∷ [])
    ≡ cond (step_on_map side y s) (t (y + s - 1) ∷ []) []
wrapped_row {d} {s} p y side t b = pick (dec_lt 0 (y + s))
  where
    pick : Dec (0 < y + s)
        → cond (lt_z (pos y +ℤ d) (pos 0) || le_z (pos side) (pos y +ℤ d)) [] (t (as_u32 (pos y +ℤ d)) ∷ [])
        ≡ cond (step_on_map side y s) (t (y + s - 1) ∷ []) []
    pick (yes k) =
        let e : y + s ≡ y + s - 1 + 1 = omega arith in
        rw (signed_sum p y k, inside_is side y s (y + s - 1) e) (row_kept side (y + s - 1) t b)
    pick (no k) =
        let e : y + s ≡ 0 = omega arith in
        let l : y + s < 1 = omega arith in
        rw (below_zero p y e, below_one side y s l)

-- one step, and all eight, of a tile of zoom 0 to 29
module _ (x y z : ℕ) (on_map : To29 x y z) where
  wrapped_step : (s : ℕ) {dx dy : ℤ} → Means dx (s / 3) → Means dy (s % 3) → wrap_step (2 ^ z) x y z (dx, dy) ≡ returns (near_wrapped x y z s)
  wrapped_step s {dx} {dy} p q =
      let m = side_most on_map.zoom in
      let c : rem_euclid (pos x +ℤ dx) (2 ^ z) ≡ (x + s / 3 + 2 ^ z - 1) % 2 ^ z = wrapped_column p x (2 ^ z) on_map.column in
      let l : (x + s / 3 + 2 ^ z - 1) % 2 ^ z < 2 ^ 32 = omega (arith, mod-lt (x + s / 3 + 2 ^ z - 1) (pow_pos z)) in
      rw (sum_fits p x (omega (arith, on_map.column)), sum_fits q y (omega (arith, on_map.row)), c, mod-eq_of_lt l)
      (ap returns (wrapped_row q y (2 ^ z) (λ r. tile_at ((x + s / 3 + 2 ^ z - 1) % 2 ^ z) r z) m))

  pub wrapped_block : wrap_tiles x y z ≡ returns (gather (near_wrapped x y z) around_wrapped)
  unfolding wrap_steps gather
  wrapped_block =
      rw (
        one_shifted 32 z (omega (arith, on_map.zoom)),
        wrapped_step 0 back back,
        wrapped_step 1 back stay,
        wrapped_step 2 back on,
        wrapped_step 3 stay back,
        wrapped_step 5 stay on,
        wrapped_step 6 on back,
        wrapped_step 7 on stay,
        wrapped_step 8 on on,
      )
