-- The squares around a tile that are on the map, and the tests at its edge.
use Rattle.std.specs.Prelude.{Option, Some, None, ◌≡◌, refl, Bool, true, false, cond, ◌&&◌, [], ◌∷◌, ℕ, ◌+◌, ◌-◌, ◌/◌, ◌%◌, ◌^◌, ◌<◌, leb}
use Rattle.std.proofs.Common.{sym, ap, ◌∙◌, subst, mod-lt, arith, pow_pos, leb-true}
use Rattle.std.proofs.lemmas.Bool.{lt-leb}
use Rattle.bits.specs.Tests.{and_parts}
use Rattle.tile.specs.OnMap.{OnMap, tile_at}
use Rattle.tile.specs.Order.{tile_ext}
use Rattle.tile.specs.declared.Tile.{Tile}
use Rattle.neighbors.specs.Neighbors.{step_on_map, near_of, spot_tiles, SpotOnMap}
use Rattle.neighbors.specs.declared.Seam.{Seam}
use Rattle.neighbors.specs.declared.Seam.TheVariants.{Cut, Wrapped}

inside_bounds : (side n s : ℕ) → step_on_map side n s ≡ true → n + s - 1 < side
inside_bounds side n s e = let p = and_parts (leb 1 (n + s)) (leb (n + s) side) e in
    omega (arith, leb-true 1 (n + s) p.0, leb-true (n + s) side p.1)

-- a list that holds one tile on a test, and that tile, passes the test
kept_is : (b : Bool) (s t : Tile) → s ∷ [] ≡ cond b (t ∷ []) [] → (b ≡ true) × (s ≡ t)
kept_is true s t e = (refl, cc)
kept_is false s t e = let z : ◌≡◌ {A = ℕ} 0 1 = cc in absurd (omega arith)

-- a square that is on the map is a tile of it
pub near_on_map : (seam : Seam) (x y z s c r : ℕ) → OnMap x y z → tile_at c r z ∷ [] ≡ near_of seam x y z s → OnMap c r z
near_on_map Wrapped x y z s c r m e =
    let k = kept_is (step_on_map (2 ^ z) y (s % 3)) (tile_at c r z) (tile_at ((x + s / 3 + 2 ^ z - 1) % 2 ^ z) (y + s % 3 - 1) z) e in
    let a : c ≡ (x + s / 3 + 2 ^ z - 1) % 2 ^ z = ap (λ (t : Tile). t.x) k.1 in
    let b : r ≡ y + s % 3 - 1 = ap (λ (t : Tile). t.y) k.1 in
    record {
      zoom = m.zoom;
      column = rw a (mod-lt (x + s / 3 + 2 ^ z - 1) (pow_pos z));
      row =
          rw b (inside_bounds (2 ^ z) y (s % 3) k.0);
    }
near_on_map Cut x y z s c r m e =
    let k =
    kept_is (step_on_map (2 ^ z) x (s / 3) && step_on_map (2 ^ z) y (s % 3)) (tile_at c r z) (tile_at (x + s / 3 - 1) (y + s % 3 - 1) z) e in
    let p = and_parts (step_on_map (2 ^ z) x (s / 3)) (step_on_map (2 ^ z) y (s % 3)) k.0 in
    let a : c ≡ x + s / 3 - 1 = ap (λ (t : Tile). t.x) k.1 in
    let b : r ≡ y + s % 3 - 1 = ap (λ (t : Tile). t.y) k.1 in
    record { zoom = m.zoom; column = rw a (inside_bounds (2 ^ z) x (s / 3) p.0); row = rw b (inside_bounds (2 ^ z) y (s % 3) p.1) }

spot_zoom : (seam : Seam) (x y z s : ℕ) (t : Tile) → t ∷ [] ≡ near_of seam x y z s → t.z ≡ z
spot_zoom Wrapped x y z s t e =
    ap (λ (u : Tile). u.z) (kept_is (step_on_map (2 ^ z) y (s % 3)) t (tile_at ((x + s / 3 + 2 ^ z - 1) % 2 ^ z) (y + s % 3 - 1) z) e).1
spot_zoom Cut x y z s t e =
    ap (λ (u : Tile). u.z)
    (kept_is (step_on_map (2 ^ z) x (s / 3) && step_on_map (2 ^ z) y (s % 3)) t (tile_at (x + s / 3 - 1) (y + s % 3 - 1) z) e).1

pub spot_on_map : (seam : Seam) (x y z s : ℕ) (spot : Option Tile) → OnMap x y z → spot_tiles spot ≡ near_of seam x y z s → SpotOnMap spot
spot_on_map seam x y z s (Some t) m e =
    let w = spot_zoom seam x y z s t e in
    let u : tile_at t.x t.y z ≡ t = tile_ext (tile_at t.x t.y z) t refl refl (sym w) in
    subst (OnMap t.x t.y) (sym w) (near_on_map seam x y z s t.x t.y m (ap (λ (v : Tile). v ∷ []) u ∙ e))
spot_on_map seam x y z s None m e = tt

-- the tests of a square, as the code makes them
pub near_off_row : (seam : Seam) (x y z s : ℕ) → step_on_map (2 ^ z) y (s % 3) ≡ false → [] ≡ near_of seam x y z s
near_off_row Wrapped x y z s e = rw e
near_off_row Cut x y z s e = rw e (pick (step_on_map (2 ^ z) x (s / 3)))
  where
    pick : (b : Bool) → [] ≡ cond (b && false) (tile_at (x + s / 3 - 1) (y + s % 3 - 1) z ∷ []) []
    pick true = refl
    pick false = refl

pub below_one : (side n s : ℕ) → n + s < 1 → step_on_map side n s ≡ false
below_one side n s h = rw (lt-leb _ _ h)
