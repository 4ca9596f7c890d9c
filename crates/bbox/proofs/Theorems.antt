-- What is true of boxes of degrees, to be read first: the statements with a comment above them. `T t` says that the test t is true.
-- The definitions are in specs/Box.antt.
use Rattle.std.specs.Prelude.{◌≡◌, refl, Bool, true, false, not, ◌&&◌, ◌||◌, cond, List, [], ◌∷◌, pos, negsuc, T}
use Rattle.std.proofs.Common.{subst}
use Rattle.std.proofs.Math.Bool.{or-false}
use Rattle.std.specs.Float.{nan}
use Rattle.std.specs.Float.Ieee.{is_nan, lt, le, of_int}
use Rattle.std.specs.Float.Ieee.Bits.{is_true, is_false}
use Rattle.std.specs.Float.Ieee.Fits.{and_i, and_l, and_r}
use Rattle.bbox.specs.declared.BBox.{BBox}
use Rattle.bbox.specs.declared.LngLat.{LngLat}
use Rattle.bbox.specs.Box.{at_most, box, point, crosses, lng_inside, lat_inside, contains_point, lngs_inside, lats_inside, lngs_in_part}
use Rattle.bbox.specs.Box.{contains_box, is_within_of, meets, degrees, map_west, map_east, to_antimeridian, from_antimeridian, parts}
use Rattle.bbox.specs.Laws as laws
use Rattle.bbox.specs.Order as order
use Rattle.bbox.specs.Rust as rust

-- ---- The Rust

-- The Rust's tests, in its order, are the definitions.
pub rust_contains_lnglat : (b : BBox) (p : LngLat) → rust.contains_lnglat b p ≡ contains_point b p
rust_contains_lnglat b p =
    laws.point_tests (crosses b) (at_most b.west p.lng) (at_most p.lng b.east) (at_most b.south p.lat)
    (at_most p.lat b.north)

pub rust_contains_bbox : (a b : BBox) → rust.contains_bbox a b ≡ contains_box a b
rust_contains_bbox a b =
    laws.box_tests (crosses a) (crosses b) (at_most a.west b.west) (at_most b.east a.east) (at_most a.south b.south)
    (at_most b.north a.north)

pub rust_is_within : (a b : BBox) → rust.is_within a b ≡ is_within_of a b
rust_is_within a b = rw laws.backward

pub rust_intersects : (a b : BBox) → rust.intersects a b ≡ meets a b
rust_intersects a b = rw laws.backward

-- ---- NaN

abbrev pub has_nan : BBox → Bool
has_nan b = is_nan b.west || is_nan b.south || is_nan b.east || is_nan b.north

module _ (b : BBox) where
  no_nan : T (not (is_nan b.west)) → T (not (is_nan b.south)) → T (not (is_nan b.east)) → T (not (is_nan b.north))
      → T (not (has_nan b))
  no_nan = laws.none_of_four (is_nan b.west) (is_nan b.south) (is_nan b.east) (is_nan b.north)

  no_nan_crossing : T (crosses b) → T (not (is_nan b.south)) → T (not (is_nan b.north)) → T (not (has_nan b))
  no_nan_crossing c s n =
      let backwards = order.lt_le b.east b.west c in
      no_nan (order.second_known b.east b.west backwards) s (order.first_known b.east b.west backwards) n

-- the tests that a point in a box has passed: in a box that crosses the first of the longitude's or the second, else both
point_passed : {A : Type 0} (b : BBox) (p : LngLat)
    → (T (crosses b) → T (at_most b.west p.lng) → T (at_most b.south p.lat) → T (at_most p.lat b.north) → A)
    → (T (crosses b) → T (at_most p.lng b.east) → T (at_most b.south p.lat) → T (at_most p.lat b.north) → A)
    → (T (at_most b.west p.lng) → T (at_most p.lng b.east) → T (at_most b.south p.lat) → T (at_most p.lat b.north) → A)
    → T (contains_point b p) → A
point_passed b p = laws.in_box_lem (crosses b) (at_most b.west p.lng) (at_most p.lng b.east) (at_most b.south p.lat)
    (at_most p.lat b.north)

-- A point with a NaN coordinate is in no box.
pub nan_point_is_nowhere : (b : BBox) (p : LngLat) → T (is_nan p.lng || is_nan p.lat) → T (not (contains_point b p))
nan_point_is_nowhere b p =
    laws.rules_out (is_nan p.lng || is_nan p.lat) (contains_point b p)
    (point_passed b p
    (λ c w s n. known (order.second_known b.west p.lng w) s)
    (λ c e s n. known (order.first_known p.lng b.east e) s)
    (λ w e s n. known (order.second_known b.west p.lng w) s))
  where
    known : T (not (is_nan p.lng)) → T (at_most b.south p.lat) → T (not (is_nan p.lng || is_nan p.lat))
    known x s = laws.neither (is_nan p.lng) (is_nan p.lat) x (order.second_known b.south p.lat s)

-- A box whose west or east is NaN does not cross the antimeridian.
pub nan_edge_does_not_cross : (b : BBox) → T (is_nan b.west || is_nan b.east) → T (not (crosses b))
nan_edge_does_not_cross b =
    laws.rules_out (is_nan b.west || is_nan b.east) (crosses b)
    (λ c.
    let backwards = order.lt_le b.east b.west c in
    laws.neither (is_nan b.west) (is_nan b.east) (order.second_known b.east b.west backwards)
    (order.first_known b.east b.west backwards))

-- A box with a NaN edge contains no point,
pub nan_edge_contains_no_point : (b : BBox) (p : LngLat) → T (has_nan b) → T (not (contains_point b p))
nan_edge_contains_no_point b p =
    let south = order.first_known b.south p.lat in
    let north = order.second_known p.lat b.north in
    laws.rules_out (has_nan b) (contains_point b p)
    (point_passed b p
    (λ c w s n. no_nan_crossing b c (south s) (north n))
    (λ c e s n. no_nan_crossing b c (south s) (north n))
    (λ w e s n. no_nan b (order.first_known b.west p.lng w) (south s) (order.second_known p.lng b.east e) (north n)))

-- contains no box,
pub nan_edge_contains_no_box : (a b : BBox) → T (has_nan a) → T (not (contains_box a b))
nan_edge_contains_no_box a b =
    let south = order.first_known a.south b.south in
    let north = order.second_known b.north a.north in
    laws.rules_out (has_nan a) (contains_box a b)
    (laws.in_box_lem (crosses a && not (crosses b)) (at_most a.west b.west) (at_most b.east a.east) (at_most a.south b.south)
    (at_most b.north a.north)
    (λ c w s n. no_nan_crossing a (and_l (crosses a) (not (crosses b)) c) (south s) (north n))
    (λ c e s n. no_nan_crossing a (and_l (crosses a) (not (crosses b)) c) (south s) (north n))
    (λ w e s n. no_nan a (order.first_known a.west b.west w) (south s) (order.second_known b.east a.east e) (north n)))

-- is within no box and has none within it,
pub nan_edge_is_not_within : (a b : BBox) → T (has_nan a || has_nan b) → T (not (is_within_of a b))
nan_edge_is_not_within a b =
    laws.rules_out (has_nan a || has_nan b) (is_within_of a b)
    (laws.all_four (at_most b.west a.west) (at_most a.east b.east) (at_most b.south a.south) (at_most a.north b.north)
    (λ w e s n. laws.neither (has_nan a) (has_nan b)
    (no_nan a (order.second_known b.west a.west w) (order.second_known b.south a.south s)
    (order.first_known a.east b.east e) (order.first_known a.north b.north n))
    (no_nan b (order.first_known b.west a.west w) (order.first_known b.south a.south s)
    (order.second_known a.east b.east e) (order.second_known a.north b.north n))))

-- and meets no box: `intersects` is false where any of the eight numbers is NaN.
pub nan_edge_meets_no_box : (a b : BBox) → T (has_nan a || has_nan b) → T (not (meets a b))
nan_edge_meets_no_box a b =
    laws.rules_out (has_nan a || has_nan b) (meets a b)
    (laws.all_four (at_most a.west b.east) (at_most b.west a.east) (at_most a.south b.north) (at_most b.south a.north)
    (λ w e s n. laws.neither (has_nan a) (has_nan b)
    (no_nan a (order.first_known a.west b.east w) (order.first_known a.south b.north s)
    (order.second_known b.west a.east e) (order.second_known b.south a.north n))
    (no_nan b (order.first_known b.west a.east e) (order.first_known b.south a.north n)
    (order.second_known a.west b.east w) (order.second_known a.south b.north s))))

-- But a box that crosses contains one with a NaN west, since one of two tests is enough there, as in the Rust:
-- the box from 170 to -170 contains the one from NaN to -175.
pub nan_edge_may_be_contained :
    let a = box (degrees (pos 170)) (degrees (pos 0)) (degrees (negsuc 169)) (degrees (pos 9)) in
    let b = box nan (degrees (pos 1)) (degrees (negsuc 174)) (degrees (pos 8)) in
    T (contains_box a b)
unfolding le lt of_int
nan_edge_may_be_contained = tt

-- ---- Boxes and their points

-- In a box that does not cross, `is_within` and `contains_bbox` agree.
pub within_is_contained : (a b : BBox) → T (not (crosses b)) → is_within_of a b ≡ contains_box b a
within_is_contained a b h = rw (is_false (crosses b) h)

-- So it contains no box with a NaN edge.
pub nan_edge_is_not_contained : (a b : BBox) → T (not (crosses a)) → T (has_nan b) → T (not (contains_box a b))
nan_edge_is_not_contained a b u h =
    subst (λ (t : Bool). T (not t)) (within_is_contained b a u) (nan_edge_is_not_within b a (laws.or_left (has_nan b) (has_nan a) h))

-- A box that contains another contains its points, unless the other one alone crosses.
pub contains_its_points : (a b : BBox) (p : LngLat) → T (crosses a || not (crosses b)) → T (contains_box a b) → T (contains_point b p)
    → T (contains_point a p)
contains_its_points a b p o h k =
    let lngs = cond (crosses a && not (crosses b)) (lngs_in_part a b) (lngs_inside a b) in
    let lats = and_r lngs (lats_inside a b) h in
    let lat = and_r (lng_inside b p.lng) (lat_inside b p.lat) k in
    and_i (lng_inside a p.lng) (lat_inside a p.lat)
    (laws.lng_through (crosses a) (crosses b) (at_most a.west b.west) (at_most b.east a.east) (at_most b.west p.lng)
    (at_most p.lng b.east)
    (at_most a.west p.lng) (at_most p.lng a.east) (order.le_through a.west b.west p.lng)
    (order.le_through p.lng b.east a.east) o
    (and_l lngs (lats_inside a b) h) (and_l (lng_inside b p.lng) (lat_inside b p.lat) k))
    (and_i (at_most a.south p.lat) (at_most p.lat a.north)
    (order.le_through a.south b.south p.lat (and_l (at_most a.south b.south) (at_most b.north a.north) lats)
    (and_l (at_most b.south p.lat) (at_most p.lat b.north) lat))
    (order.le_through p.lat b.north a.north (and_r (at_most b.south p.lat) (at_most p.lat b.north) lat)
    (and_r (at_most a.south b.south) (at_most b.north a.north) lats)))

-- Where the other one alone crosses, the Rust looks at the edges only:
-- the box from -10 to 10 contains the one from 5 round to -5, and not its point at 90.
pub contains_a_box_that_goes_round :
    let a = box (degrees (negsuc 9)) (degrees (pos 0)) (degrees (pos 10)) (degrees (pos 9)) in
    let b = box (degrees (pos 5)) (degrees (pos 0)) (degrees (negsuc 4)) (degrees (pos 9)) in
    let p = point (degrees (pos 90)) (degrees (pos 1)) in
    T (contains_box a b && contains_point b p && not (contains_point a p))
unfolding le lt of_int
contains_a_box_that_goes_round = tt

-- `intersects` is symmetric.
pub meets_both_ways : (a b : BBox) → meets a b ≡ meets b a
meets_both_ways a b =
    laws.pairs_swap (at_most a.west b.east) (at_most b.west a.east) (at_most a.south b.north)
    (at_most b.south a.north)

-- Boxes that do not cross and share a point meet;
pub sharing_boxes_meet : (a b : BBox) (p : LngLat) → T (not (crosses a)) → T (not (crosses b)) → T (contains_point a p)
    → T (contains_point b p) → T (meets a b)
sharing_boxes_meet a b p ha hb ia ib =
    passed a ha (λ w e s n. passed b hb
    (λ w' e' s' n'. and_i (at_most a.west b.east && at_most b.west a.east)
    (at_most a.south b.north && at_most b.south a.north)
    (and_i (at_most a.west b.east) (at_most b.west a.east) (order.le_through a.west p.lng b.east w e')
    (order.le_through b.west p.lng a.east w' e))
    (and_i (at_most a.south b.north) (at_most b.south a.north) (order.le_through a.south p.lat b.north s n')
    (order.le_through b.south p.lat a.north s' n))) ib) ia
  where
    passed : {A : Type 0} (c : BBox) → T (not (crosses c))
        → (T (at_most c.west p.lng) → T (at_most p.lng c.east) → T (at_most c.south p.lat) → T (at_most p.lat c.north)
        → A)
        → T (contains_point c p) → A
    passed c = laws.out_of_upright (crosses c) (at_most c.west p.lng) (at_most p.lng c.east) (at_most c.south p.lat)
        (at_most p.lat c.north)

-- and boxes that meet share a point, if the edges of each are in order.
abbrev pub upright : BBox → Bool
upright b = at_most b.west b.east && at_most b.south b.north

pub meeting_boxes_share : (a b : BBox) → T (upright a) → T (upright b) → T (meets a b)
    → (p : LngLat) × T (contains_point a p && contains_point b p)
meeting_boxes_share a b ha hb =
    laws.all_four (at_most a.west b.east) (at_most b.west a.east) (at_most a.south b.north) (at_most b.south a.north)
    (λ w e s n.
    let x = order.common a.west a.east b.west b.east (lngs a ha) (lngs b hb) w e in
    let y = order.common a.south a.north b.south b.north (lats a ha) (lats b hb) s n in
    let p = point x.0 y.0 in (
      p,
      and_i (contains_point a p) (contains_point b p) (holds a ha p x.1.0 x.1.1 y.1.0 y.1.1)
          (holds b hb p x.1.2 x.1.3 y.1.2 y.1.3),
    ))
  where
    lngs : (c : BBox) → T (upright c) → T (at_most c.west c.east)
    lngs c = and_l (at_most c.west c.east) (at_most c.south c.north)

    lats : (c : BBox) → T (upright c) → T (at_most c.south c.north)
    lats c = and_r (at_most c.west c.east) (at_most c.south c.north)

    holds : (c : BBox) → T (upright c) → (p : LngLat)
        → T (at_most c.west p.lng) → T (at_most p.lng c.east) → T (at_most c.south p.lat) → T (at_most p.lat c.north)
        → T (contains_point c p)
    holds c h p =
        laws.in_upright (crosses c) (at_most c.west p.lng) (at_most p.lng c.east) (at_most c.south p.lat)
        (at_most p.lat c.north)
        (order.le_not_above c.west c.east (lngs c h))

-- ---- The parts of a box

abbrev pub any_box : List BBox → (BBox → Bool) → Bool
any_box [] test = false
any_box (b ∷ bs) test = test b || any_box bs test

-- its west edge is at most 180, and its east edge at least -180
abbrev pub box_on_map : BBox → Bool
box_on_map b = at_most b.west map_east && at_most map_west b.east

module _ (b : BBox) (h : T (box_on_map b)) where
  first_does_not_cross : T (not (crosses (to_antimeridian b)))
  first_does_not_cross = order.le_not_above b.west map_east (and_l (at_most b.west map_east) (at_most map_west b.east) h)

  second_does_not_cross : T (not (crosses (from_antimeridian b)))
  second_does_not_cross = order.le_not_above map_west b.east (and_r (at_most b.west map_east) (at_most map_west b.east) h)

  uncrossed_first : crosses (to_antimeridian b) ≡ false
  uncrossed_first = is_false (crosses (to_antimeridian b)) first_does_not_cross

  uncrossed_second : crosses (from_antimeridian b) ≡ false
  uncrossed_second = is_false (crosses (from_antimeridian b)) second_does_not_cross

-- a test agrees with that of the parts, if it does where there are two of them
by_parts : (b : BBox) (test : BBox → Bool) → (crosses b ≡ true → test (to_antimeridian b) || (test (from_antimeridian b) || false) ≡ test b)
    → any_box (parts b) test ≡ test b
by_parts b test halves = go (crosses b) refl
  where
    go : (c : Bool) → crosses b ≡ c → any_box (cond c (to_antimeridian b ∷ from_antimeridian b ∷ []) (b ∷ [])) test ≡ test b
    go true e = halves e
    go false e = or-false (test b)

-- No part of a box on the map crosses.
pub parts_do_not_cross : (b : BBox) → T (box_on_map b) → T (not (any_box (parts b) crosses))
parts_do_not_cross b h = go (crosses b) refl
  where
    go : (c : Bool) → c ≡ crosses b → T (not (any_box (cond c (to_antimeridian b ∷ from_antimeridian b ∷ []) (b ∷ [])) crosses))
    go true e =
        laws.neither (crosses (to_antimeridian b)) (crosses (from_antimeridian b) || false) (first_does_not_cross b h)
        (laws.neither (crosses (from_antimeridian b)) false (second_does_not_cross b h) tt)
    go false e = subst (λ (t : Bool). T (not (t || false))) e tt

-- A point on the map is in such a box exactly if it is in one of its parts,
pub parts_contain_its_points : (b : BBox) (p : LngLat) → T (box_on_map b) → T (at_most map_west p.lng) → T (at_most p.lng map_east)
    → any_box (parts b) (λ q. contains_point q p) ≡ contains_point b p
parts_contain_its_points b p h l r =
    by_parts b (λ q. contains_point q p)
    (λ e. rw (uncrossed_first b h, uncrossed_second b h, is_true (at_most p.lng map_east) r, is_true (at_most map_west p.lng) l, e)
    (laws.in_halves (at_most b.west p.lng) (at_most p.lng b.east) (lat_inside b p.lat)))

-- and so is a box on the map that does not cross: the Rust's `||` says just that.
pub parts_contain_its_boxes : (a b : BBox) → T (box_on_map a) → T (not (crosses b)) → T (at_most map_west b.west) → T (at_most b.east map_east)
    → any_box (parts a) (λ q. contains_box q b) ≡ contains_box a b
parts_contain_its_boxes a b h u l r =
    by_parts a (λ q. contains_box q b)
    (λ e. rw (
      uncrossed_first a h,
      uncrossed_second a h,
      is_true (at_most b.east map_east) r,
      is_true (at_most map_west b.west) l,
      e,
      is_false (crosses b) u,
    )
    (laws.in_halves (at_most a.west b.west) (at_most b.east a.east) (lats_inside a b)))
