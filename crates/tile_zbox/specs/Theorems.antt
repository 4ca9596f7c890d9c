-- What the definitions of this crate come to, in document 01's words. Nothing is assumed.
use Rattle.std.specs.Prelude.{◌≡◌, refl, ◌↔◌, Bool, true, false, ℕ, zero, suc, ◌+◌, ◌-◌, ◌*◌, ◌/◌, ◌^◌, ◌≤◌, ◌<◌}
use Rattle.std.proofs.Common.{ap, pow-suc, arith, pow_pos, le-ltb}
use Rattle.constants.specs.Limits.{max_zoom}
use Rattle.tile.specs.OnMap.{OnMap, tile_at, on_map_accepted}
use Rattle.tile_zbox.specs.Box.{IsBox, box_refusal, in_box, HoldsTile, contains_of, flip_row, flipped, box_flip_of, zoomed_in, zoomed_by}
use Rattle.tile_zbox.specs.Box.{zoom_in_of, zoom_depth_of}
use Rattle.tile_zbox.specs.Laws.{box_accepted, accepted_box, scaled_below, in_holds}
use Rattle.tile_zbox.specs.declared.TileZBox.{TileZBox}

-- a box is "Zoom, min and max x and y, both ends included": exactly these are not refused
pub the_boxes_of_the_map : (b : TileZBox) → box_refusal b ≡ 0 ↔ IsBox b
the_boxes_of_the_map b = (accepted_box b, box_accepted)

-- document 03: "another zoom than the box's is false"
pub another_zoom_is_false : (b : TileZBox) (x y z : ℕ) → IsBox b → OnMap x y z → (z ≡ b.zoom → ⊥)
    → contains_of b x y z ≡ record { number = 0; value = false }
another_zoom_is_false b x y z i m h =
    rw (le-ltb _ _ i.zoom, on_map_accepted m, box_accepted i)
    (ap (λ (v : Bool). record { number = 0; value = v }) (out (in_box b x y z) refl))
  where
    out : (v : Bool) → in_box b x y z ≡ v → in_box b x y z ≡ false
    out true e = absurd (h (in_holds b (tile_at x y z) e).zoom)
    out false e = e

-- "`flipy`": twice is the box
pub flipped_is_a_box : {b : TileZBox} → IsBox b → IsBox (flipped b)
unfolding flipped
flipped_is_a_box i = record {
  zoom = i.zoom;
  columns = i.columns;
  east = i.east;
  rows = omega (arith, i.rows, i.south);
  south =
      omega (arith, i.rows, i.south);
}

flipped_again : (b : TileZBox) → IsBox b → flipped (flipped b) ≡ b
unfolding flipped
flipped_again b i =
    let p : 2 ^ b.zoom - 1 - (2 ^ b.zoom - 1 - b.miny) ≡ b.miny = omega (arith, i.rows, i.south) in
    let q : 2 ^ b.zoom - 1 - (2 ^ b.zoom - 1 - b.maxy) ≡ b.maxy = omega (arith, i.south) in
    rw (p, q)

pub flipped_twice_is_the_box : (b : TileZBox) → IsBox b → box_flip_of (box_flip_of b).value ≡ record { number = 0; value = b }
flipped_twice_is_the_box b i =
    rw (box_accepted i) (rw (box_accepted (flipped_is_a_box i))
    (ap (λ (v : TileZBox). record { number = 0; value = v }) (flipped_again b i)))

-- it holds exactly the flipped tiles
pub flipped_holds_the_flipped_tiles : (b : TileZBox) (x y z : ℕ) → IsBox b → y < 2 ^ z
    → HoldsTile (flipped b) (tile_at x y z) ↔ HoldsTile b (tile_at x (flip_row y z) z)
unfolding flipped
flipped_holds_the_flipped_tiles b x y z i m = (there, back)
  where
    there : HoldsTile (flipped b) (tile_at x y z) → HoldsTile b (tile_at x (flip_row y z) z)
    there h = let e : 2 ^ z ≡ 2 ^ b.zoom = ap (λ (n : ℕ). 2 ^ n) h.zoom in
        record {
          zoom = h.zoom;
          west = h.west;
          east = h.east;
          north = omega (arith, h.south, i.rows, i.south);
          south =
              omega (arith, h.north, i.south);
        }

    back : HoldsTile b (tile_at x (flip_row y z) z) → HoldsTile (flipped b) (tile_at x y z)
    back h = let e : 2 ^ z ≡ 2 ^ b.zoom = ap (λ (n : ℕ). 2 ^ n) h.zoom in
        record {
          zoom = h.zoom;
          west = h.west;
          east = h.east;
          north = omega (arith, h.south, i.south);
          south =
              omega (arith, h.north, i.rows, i.south);
        }

-- "`zoom_in`": a tile is in it exactly if its parent is in the box
pub in_zoom_in_exactly_if_the_parent_is_in_the_box : (b : TileZBox) (x y z : ℕ)
    → HoldsTile (zoomed_in b) (tile_at x y (z + 1)) ↔ HoldsTile b (tile_at (x / 2) (y / 2) z)
unfolding zoomed_in
in_zoom_in_exactly_if_the_parent_is_in_the_box b x y z = (
  λ h. record {
    zoom = omega (arith, h.zoom);
    west = omega (arith, h.west);
    east = omega (arith, h.east);
    north =
        omega (arith, h.north);
    south = omega (arith, h.south);
  },
  λ h. record {
    zoom = omega (arith, h.zoom);
    west = omega (arith, h.west);
    east = omega (arith, h.east);
    north =
        omega (arith, h.north);
    south = omega (arith, h.south);
  },
)

pub zoomed_in_is_a_box : {b : TileZBox} → IsBox b → b.zoom + 1 ≤ max_zoom → IsBox (zoomed_in b)
unfolding zoomed_in
zoomed_in_is_a_box {b} i d =
    record {
      zoom = d;
      columns = omega (arith, i.columns);
      east = scaled_below b.zoom 1 i.east;
      rows =
          omega (arith, i.rows);
      south = scaled_below b.zoom 1 i.south;
    }

-- calls of `zoom_in`, one after the other, none of them refused
pub data ZoomsIn : TileZBox → ℕ → TileZBox → Type 0 where
  none : {b : TileZBox} → ZoomsIn b 0 b
  once_more : {b c e : TileZBox} {d : ℕ} → zoom_in_of b ≡ record { number = 0; value = c } → ZoomsIn c d e → ZoomsIn b (suc d) e

pub zoomed_again : (b : TileZBox) (d : ℕ) → zoomed_by (zoomed_in b) d ≡ zoomed_by b (suc d)
unfolding zoomed_in zoomed_by
zoomed_again b d =
    let p = 2 ^ d in
    let o = pow_pos d in
    let e : b.zoom + 1 + d ≡ b.zoom + suc d = omega arith in
    let f : (n : ℕ) → n * 2 * p ≡ n * (p * 2) = λ n. omega arith in
    let g : (n : ℕ) → (n * 2 + 1) * p + (p - 1) ≡ n * (p * 2) + (p * 2 - 1) = λ n. omega arith in
    rw (pow-suc 2 d, e, f b.minx, f b.miny, g b.maxx, g b.maxy)

pub zoomed_by_0 : (b : TileZBox) → zoomed_by b 0 ≡ b
unfolding zoomed_by
zoomed_by_0 b =
    let e : b.zoom + 0 ≡ b.zoom = omega arith in
    let f : (n : ℕ) → n * 1 ≡ n = λ n. omega arith in
    let g : (n : ℕ) → n * 1 + (1 - 1) ≡ n = λ n. omega arith in
    rw (e, g b.maxx, g b.maxy, f b.minx, f b.miny)

-- `zoom_depth` by d is d times `zoom_in`
pub zoom_depth_is_so_many_times_zoom_in : (b : TileZBox) (d : ℕ) → IsBox b → b.zoom + d ≤ max_zoom → ZoomsIn b d (zoomed_by b d)
unfolding zoomed_in
zoom_depth_is_so_many_times_zoom_in b zero i h = rw (zoomed_by_0 b) none
zoom_depth_is_so_many_times_zoom_in b (suc d) i h =
    let l : b.zoom + 1 ≤ max_zoom = omega arith in
    let e : zoom_in_of b ≡ record { number = 0; value = zoomed_in b } = rw (le-ltb _ _ l, box_accepted i) in
    rw (← zoomed_again b d) (once_more e (zoom_depth_is_so_many_times_zoom_in (zoomed_in b) d (zoomed_in_is_a_box i l) (omega arith)))

-- document 03: "By 0 the box itself"
pub by_0_the_box_itself : (b : TileZBox) → IsBox b → zoom_depth_of b 0 ≡ record { number = 0; value = b }
by_0_the_box_itself b i =
    let l : b.zoom + 0 ≤ max_zoom = omega (arith, i.zoom) in
    rw (le-ltb _ _ l, box_accepted i, zoomed_by_0 b)
