-- What the Rust does with boxes, as functions on values, and that for boxes of zoom 0 to 29 it comes to the definitions. Columns and rows
-- have 32 bits and zooms 8: what leaves them wraps round here, so that the exact numbers come out only where nothing does.
use Rattle.std.specs.Prelude.{◌≡◌, refl, Bool, true, false, cond, ◌&&◌, ℕ, zero, suc, ◌+◌, ◌-◌, ◌*◌, ◌%◌, ◌^◌, ◌≤◌, ◌<◌, leb, ltb, eqb}
use Rattle.std.proofs.Common.{sym, ◌∙◌, lt-ltb, le-ltb}
use Rattle.std.proofs.Math.Path.{ap}
use Rattle.std.proofs.Math.Nat.{mod-eq_of_lt}
use native.Mathlib.Omega.{arith}
use Rattle.std.proofs.Math.Pow.{pow_mono}
use Rattle.tile_zbox.specs.Box.{box_at, IsBox, extent_at, in_box, flipped, zoomed_in, zoomed_by, columns_of, rows_of, box_length}
use Rattle.tile_zbox.specs.Laws.{scaled_below}
use Rattle.tile_zbox.specs.Theorems.{zoomed_again, zoomed_by_0}
use Rattle.tile_zbox.specs.declared.TileZBox.{TileZBox}
use Rattle.tile_zbox.specs.declared.Extent.{Extent}

-- a number cut to 32 bits, and a - b in them
abbrev pub u32 : ℕ → ℕ
u32 n = n % 2 ^ 32

abbrev pub less : ℕ → ℕ → ℕ
less a b = u32 (a + 2 ^ 32 - b)

-- the boxes that the Rust is held to
pub record Compared (b : TileZBox) : Type 0 where
  pub zoom : b.zoom ≤ 29
  pub columns : b.minx ≤ b.maxx
  pub east : b.maxx < 2 ^ b.zoom
  pub rows : b.miny ≤ b.maxy
  pub south : b.maxy < 2 ^ b.zoom

-- all boxes of the map of these zooms are
pub boxes_compared : {b : TileZBox} → IsBox b → b.zoom ≤ 29 → Compared b
boxes_compared i d = record { zoom = d; columns = i.columns; east = i.east; rows = i.rows; south = i.south }

pub edges_small : {b : TileZBox} → Compared b → (b.maxx < 2 ^ 29) × (b.maxy < 2 ^ 29)
edges_small c = let s = pow_mono {j = 29} c.zoom in (omega (arith, c.east), omega (arith, c.south))

less_is : (a b : ℕ) → b ≤ a → a < 2 ^ 32 → less a b ≡ a - b
less_is a b h k = omega arith

-- `dx`, `dy`, `width`, `height`, `dxdy`
abbrev pub rust_dxdy : TileZBox → Extent
rust_dxdy b = extent_at (less b.maxx b.minx) (less b.maxy b.miny)

-- `dimensions`
abbrev pub rust_dimensions : TileZBox → Extent
rust_dimensions b = extent_at (u32 (less b.maxx b.minx + 1)) (u32 (less b.maxy b.miny + 1))

-- `length` multiplies in 32 bits
abbrev pub rust_length : TileZBox → ℕ
rust_length b = u32 ((rust_dimensions b).across * (rust_dimensions b).down)

-- `fns::flipy`, and `flipy` of a box
abbrev pub rust_flip_row : ℕ → ℕ → ℕ
rust_flip_row y z = less (less (u32 (2 ^ z)) 1) y

abbrev pub rust_box_flipy : TileZBox → TileZBox
rust_box_flipy b = box_at b.zoom b.minx b.maxx (rust_flip_row b.maxy b.zoom) (rust_flip_row b.miny b.zoom)

-- `zoom_in`
abbrev pub rust_zoom_in : TileZBox → TileZBox
rust_zoom_in b =
    box_at ((b.zoom + 1) % 2 ^ 8) (u32 (b.minx * 2)) (u32 (u32 (b.maxx * 2) + 1)) (u32 (b.miny * 2)) (u32 (u32 (b.maxy * 2) + 1))

module _ (b : TileZBox) (c : Compared b) where
  spans : (less b.maxx b.minx ≡ b.maxx - b.minx) × (less b.maxy b.miny ≡ b.maxy - b.miny)
  spans = let s = edges_small c in (less_is _ _ c.columns (omega arith), less_is _ _ c.rows (omega arith))

  pub rust_dxdy_lem : rust_dxdy b ≡ extent_at (b.maxx - b.minx) (b.maxy - b.miny)
  rust_dxdy_lem = rw (spans.0, spans.1)

  pub rust_dimensions_lem : rust_dimensions b ≡ extent_at (columns_of b) (rows_of b)
  rust_dimensions_lem =
      let s = edges_small c in
      let p : columns_of b < 2 ^ 32 = omega arith in
      let q : rows_of b < 2 ^ 32 = omega arith in
      rw (spans.0, spans.1, mod-eq_of_lt p, mod-eq_of_lt q)

  -- "the Rust multiplies in 32 bits and is compared where the product is below 2^32"
  pub rust_length_lem : box_length b < 2 ^ 32 → rust_length b ≡ box_length b
  unfolding box_length
  rust_length_lem h = ap (λ (e : Extent). u32 (e.across * e.down)) rust_dimensions_lem ∙ mod-eq_of_lt h

  pub rust_flipy_lem : rust_box_flipy b ≡ flipped b
  unfolding flipped
  rust_flipy_lem =
      let s = pow_mono {j = 29} c.zoom in
      let p : 2 ^ b.zoom < 2 ^ 32 = omega arith in
      let row : (y : ℕ) → y < 2 ^ b.zoom → rust_flip_row y b.zoom ≡ 2 ^ b.zoom - 1 - y =
      λ y l. rw (mod-eq_of_lt p, less_is (2 ^ b.zoom) 1 (omega arith) p, less_is (2 ^ b.zoom - 1) y (omega arith) (omega arith)) in
      rw (row b.maxy c.south, row b.miny (omega (arith, c.rows, c.south)))

  pub rust_zoom_in_lem : b.zoom + 1 ≤ 29 → rust_zoom_in b ≡ zoomed_in b
  unfolding zoomed_in
  rust_zoom_in_lem d =
      let s = edges_small c in
      let e : (b.zoom + 1) % 2 ^ 8 ≡ b.zoom + 1 = omega arith in
      let low : (n : ℕ) → n < 2 ^ 29 → u32 (n * 2) ≡ n * 2 = λ n l. mod-eq_of_lt (omega arith) in
      let high : (n : ℕ) → n < 2 ^ 29 → u32 (n * 2 + 1) ≡ n * 2 + 1 = λ n l. mod-eq_of_lt (omega arith) in
      rw (
        e,
        low b.minx (omega (arith, c.columns)),
        low b.maxx s.0,
        high b.maxx s.0,
        low b.miny (omega (arith, c.rows)),
        low b.maxy s.1,
        high b.maxy s.1,
      )

  zoomed_in_compared : b.zoom + 1 ≤ 29 → Compared (zoomed_in b)
  unfolding zoomed_in
  zoomed_in_compared d = record {
    zoom = d;
    columns = omega (arith, c.columns);
    east = scaled_below b.zoom 1 c.east;
    rows = omega (arith, c.rows);
    south = scaled_below b.zoom 1 c.south;
  }

-- `zoom_depth` calls `zoom_in` while the zoom is above the target, here with a bound on its turns
unfoldable pub rust_deeper : ℕ → ℕ → TileZBox → TileZBox
rust_deeper zero target b = b
rust_deeper (suc turns) target b = cond (ltb b.zoom target) (rust_deeper turns target (rust_zoom_in b)) b

abbrev pub rust_zoom_depth : ℕ → TileZBox → ℕ → TileZBox
rust_zoom_depth turns b d = rust_deeper turns ((b.zoom + d) % 2 ^ 8) b

deeper : (b : TileZBox) (d turns : ℕ) → Compared b → b.zoom + d ≤ 29 → d ≤ turns → rust_deeper turns (b.zoom + d) b ≡ zoomed_by b d
unfolding rust_deeper zoomed_in
deeper b zero zero c l h = sym (zoomed_by_0 b)
deeper b zero (suc turns) c l h = let e : b.zoom + 0 ≤ b.zoom = omega arith in rw (le-ltb _ _ e) (sym (zoomed_by_0 b))
deeper b (suc d) zero c l h = absurd (omega arith)
deeper b (suc d) (suc turns) c l h =
    let k : b.zoom < b.zoom + suc d = omega arith in
    let m : b.zoom + 1 ≤ 29 = omega arith in
    let e : b.zoom + suc d ≡ b.zoom + 1 + d = omega arith in
    rw (lt-ltb _ _ k, rust_zoom_in_lem b c m, e)
    (deeper (zoomed_in b) d turns (zoomed_in_compared b c m) (omega arith) (omega arith) ∙ zoomed_again b d)

-- after as many turns as zooms, or more, the loop has ended
pub rust_zoom_depth_lem : (b : TileZBox) (d turns : ℕ) → Compared b → b.zoom + d ≤ 29 → d ≤ turns → rust_zoom_depth turns b d ≡ zoomed_by b d
rust_zoom_depth_lem b d turns c l h = let e : (b.zoom + d) % 2 ^ 8 ≡ b.zoom + d = omega arith in rw e (deeper b d turns c l h)

-- `contains_tile`, test by test
abbrev pub rust_contains : TileZBox → ℕ → ℕ → ℕ → Bool
rust_contains b x y z = (((eqb z b.zoom && leb b.minx x) && leb x b.maxx) && leb b.miny y) && leb y b.maxy

pub rust_contains_tile : (b : TileZBox) (x y z : ℕ) → rust_contains b x y z ≡ in_box b x y z
unfolding in_box
rust_contains_tile b x y z = pick (eqb z b.zoom) (leb b.minx x) (leb x b.maxx) (leb b.miny y) (leb y b.maxy)
  where
    pick : (p q r s t : Bool) → (((p && q) && r) && s) && t ≡ p && ((q && r) && (s && t))
    pick false q r s t = refl
    pick true false r s t = refl
    pick true true false s t = refl
    pick true true true s t = refl
