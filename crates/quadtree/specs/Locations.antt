-- Where tiles lie along the quadtree: a tile's run goes from `start_of` to `end_of`, round its location. Runs are nested as their tiles
-- are, or apart.
use Rattle.std.specs.Prelude.{◌≡◌, List, ℕ, suc, ◌+◌, ◌-◌, ◌*◌, ◌/◌, ◌%◌, ◌^◌, ◌≤◌, ◌<◌, get_or, length}
use Rattle.std.proofs.Common.{sym, ap, ◌∙◌, subst, pow-suc, mul-le-mul_right, div-mul-le_self, le-div_iff_mul-le, div-lt_iff_lt-mul, arith, pow-add}
use Rattle.std.proofs.Math.Decide.{dec_le, dec_lt}
use Rattle.std.proofs.Math.Nat.{pow-le-pow_right, lt-div-mul-add}
use Rattle.std.specs.Int.Count.{count_trailing_zeros}
use Rattle.constants.specs.Limits.{max_zoom, max_zoom_small}
use Rattle.ids.specs.Powers.{four_side}
use Rattle.quadtree.specs.Numbers.{OfMap, morton_of, location_of, location_tile}
use Rattle.quadtree.specs.LowestBit.{location_zeros, location_morton}
use Rattle.quadtree.specs.OneTile.{morton_inj, location_tile_lem}
use Rattle.quadtree.specs.Tree.{four_mono, four_pos, morton_child, morton_ancestor, morton_bounds, four_codes}
use Rattle.tile.specs.declared.Tile.{Tile}
use Rattle.tile_set.specs.Holds.{Valid, Holds, holds_refl, holds_level, ancestor_holds, holder_is_ancestor, child_held, child_of_parent}
use Rattle.tile_set.specs.Holds.{valid_holder}
use Rattle.tile_set.specs.Set.{ancestor, child, parent_tile}

pub valid_tile : (t : Tile) → OfMap t → Valid max_zoom t
valid_tile t m = record { zoom = m.zoom; column = m.column; row = m.row }

pub map_tile : (t : Tile) → Valid max_zoom t → OfMap t
map_tile t v = record { zoom = v.zoom; column = v.column; row = v.row }

-- the lowest set bit of the tile's location, and half the length of its run
unfoldable pub low_of : Tile → ℕ
low_of t = 4 ^ (max_zoom - t.z)

abbrev pub start_of : Tile → ℕ
start_of t = location_of t - low_of t

abbrev pub end_of : Tile → ℕ
end_of t = location_of t + low_of t

pub low_pos : (t : Tile) → 0 < low_of t
unfolding low_of
low_pos t = four_pos (max_zoom - t.z)

location_sum : (t : Tile) → location_of t ≡ 2 * (morton_of t * low_of t) + low_of t
unfolding location_of low_of
location_sum t = omega arith

pub low_below : (t : Tile) → low_of t ≤ location_of t
low_below t = omega (arith, location_sum t)

-- how much higher tiles are longer
low_steps : (s t : Tile) → s.z ≤ t.z → t.z ≤ max_zoom → low_of s ≡ 4 ^ (t.z - s.z) * low_of t
unfolding low_of
low_steps s t h k = let e : t.z - s.z + (max_zoom - t.z) ≡ max_zoom - s.z = omega arith in
    rw (← e) (pow-add 4 (t.z - s.z) (max_zoom - t.z))

pub holds_morton : {s t : Tile} → Holds s t → morton_of t / 4 ^ (t.z - s.z) ≡ morton_of s
holds_morton {s} {t} h = sym (ap morton_of (holder_is_ancestor h) ∙ morton_ancestor t s.z h.above)

morton_holds : (s t : Tile) → OfMap s → OfMap t → s.z ≤ t.z → morton_of t / 4 ^ (t.z - s.z) ≡ morton_of s → Holds s t
morton_holds s t m n h e =
    let up : Holds (ancestor t s.z) t = ancestor_holds t s.z h in
    let o : OfMap (ancestor t s.z) = map_tile (ancestor t s.z) (valid_holder up (valid_tile t n)) in
    subst (λ (u : Tile). Holds u t) (sym (morton_inj s (ancestor t s.z) m o (sym e ∙ sym (morton_ancestor t s.z h)))) up

-- how two tiles lie to each other
pub data Lie (s t : Tile) : Type 0 where
  holding : Holds s t → Lie s t
  held : Holds t s → Lie s t
  before : end_of s ≤ start_of t → Lie s t
  after : end_of t ≤ start_of s → Lie s t

module _ (s t : Tile) (m : OfMap s) (n : OfMap t) (h : s.z ≤ t.z) where
  abbrev steps : ℕ
  steps = 4 ^ (t.z - s.z)

  long : low_of s ≡ steps * low_of t
  long = low_steps s t h n.zoom

  higher_location : location_of s ≡ 2 * (morton_of s * (steps * low_of t)) + steps * low_of t
  higher_location = rw long at (location_sum s)

  higher_lies : Lie s t
  higher_lies = pick (dec_lt (morton_of t / steps) (morton_of s)) (dec_lt (morton_of s) (morton_of t / steps))
    where
      pick : Dec (morton_of t / steps < morton_of s) → Dec (morton_of s < morton_of t / steps) → Lie s t
      pick (yes l) k =
          let b : morton_of t < morton_of s * steps = (div-lt_iff_lt-mul (four_pos (t.z - s.z))).0 l in
          after (omega (arith, mul-le-mul_right (low_of t) b, higher_location, location_sum t, long))
      pick (no l) (yes k) =
          let b : suc (morton_of s) * steps ≤ morton_of t = (le-div_iff_mul-le (four_pos (t.z - s.z))).0 k in
          before (omega (arith, mul-le-mul_right (low_of t) b, higher_location, location_sum t, long))
      pick (no l) (no k) = holding (morton_holds s t m n h (omega arith))

pub lies : (s t : Tile) → OfMap s → OfMap t → Lie s t
lies s t m n = pick (dec_le s.z t.z)
  where
    turned : Lie t s → Lie s t
    turned (holding h) = held h
    turned (held h) = holding h
    turned (before h) = after h
    turned (after h) = before h

    pick : Dec (s.z ≤ t.z) → Lie s t
    pick (yes h) = higher_lies s t m n h
    pick (no h) = turned (higher_lies t s n m (omega arith))

-- a tile's run lies in that of the tile that holds it
pub held_run : {s t : Tile} → Holds s t → OfMap t → (start_of s ≤ start_of t) × (end_of t ≤ end_of s)
held_run {s} {t} h n =
    let P = 4 ^ (t.z - s.z) in
    let q = holds_morton h in
    let l : low_of s ≡ P * low_of t = low_steps s t h.above n.zoom in
    let p : location_of s ≡ 2 * (morton_of s * (P * low_of t)) + P * low_of t = rw l at (location_sum s) in
    let a : morton_of s * P ≤ morton_of t = rw q at (div-mul-le_self (morton_of t) P) in
    let b : morton_of t < morton_of s * P + P = rw q at (lt-div-mul-add {a = morton_of t} (four_pos (t.z - s.z))) in
    (omega (arith, mul-le-mul_right (low_of t) a, location_sum t), omega (arith, mul-le-mul_right (low_of t) b, location_sum t))

-- a lower tile's run has no higher tile's location inside: such a location is a multiple of the run's length, as the run's ends are
no_higher : (s t : Tile) → OfMap s → t.z < s.z → start_of s < location_of t → location_of t < end_of s → ⊥
no_higher s t m h a b = pick (dec_le half (morton_of s))
  where
    n : ℕ
    n = s.z - suc t.z

    half : ℕ
    half = (2 * morton_of t + 1) * (2 * 4 ^ n)

    location : location_of t ≡ 2 * (half * low_of s)
    location =
        let e : s.z - t.z ≡ suc n = omega arith in
        let l : low_of t ≡ 4 ^ n * 4 * low_of s = rw (e, pow-suc 4 n) at (low_steps t s (omega arith) m.zoom) in
        (rw l at (location_sum t)) ∙ omega arith

    pick : Dec (half ≤ morton_of s) → ⊥
    pick (yes k) = omega (arith, mul-le-mul_right (low_of s) k, location, location_sum s)
    pick (no k) =
        let l : suc (morton_of s) ≤ half = omega arith in
        omega (arith, mul-le-mul_right (low_of s) l, location, location_sum s)

-- a tile holds those whose locations lie in its run
pub location_held : (s t : Tile) → OfMap s → OfMap t → start_of s < location_of t → location_of t < end_of s → Holds s t
location_held s t m n a b = pick (dec_le s.z t.z)
  where
    lie : Lie s t → s.z ≤ t.z → Holds s t
    lie (holding h) k = h
    lie (held h) k = subst (λ (u : Tile). Holds s u) (sym (holds_level h k)) (holds_refl s)
    lie (before h) k = absurd (omega (arith, low_pos t))
    lie (after h) k = absurd (omega (arith, low_pos t))

    pick : Dec (s.z ≤ t.z) → Holds s t
    pick (yes h) = lie (higher_lies s t m n h) h
    pick (no h) = absurd (no_higher s t m (omega arith) a b)

-- a parent's run is that of its four children, one after the other
module _ (p : Tile) (h : p.z < max_zoom) where
  pub low_child : (i j : ℕ) → low_of p ≡ 4 * low_of (child p i j)
  low_child i j = let e : suc p.z - p.z ≡ 1 = omega arith in rw e at (low_steps p (child p i j) (omega arith) h)

  pub location_child : (i j : ℕ) → i < 2 → j < 2
      → location_of (child p i j) + 3 * low_of (child p i j) ≡ location_of p + 2 * ((2 * j + i) * low_of (child p i j))
  location_child i j a b =
      let q : location_of p ≡ 2 * (morton_of p * (4 * low_of (child p i j))) + 4 * low_of (child p i j) =
      rw (low_child i j) at (location_sum p) in
      let c : location_of (child p i j) ≡ 2 * ((4 * morton_of p + (2 * j + i)) * low_of (child p i j)) + low_of (child p i j) =
      rw (morton_child p i j a b) at (location_sum (child p i j)) in
      omega (arith, q, c)

  -- from the fourth child's location to those of its siblings and of the parent
  pub third_location : location_of (child p 0 1) ≡ location_of (child p 1 1) - 2 * low_of (child p 1 1)
  third_location =
      omega (
        arith,
        low_child 0 1,
        low_child 1 1,
        location_child 0 1 (omega arith) (omega arith),
        location_child 1 1 (omega arith) (omega arith),
      )

  pub second_location : location_of (child p 1 0) ≡ location_of (child p 1 1) - 2 * (2 * low_of (child p 1 1))
  second_location =
      omega (
        arith,
        low_child 1 0,
        low_child 1 1,
        location_child 1 0 (omega arith) (omega arith),
        location_child 1 1 (omega arith) (omega arith),
      )

  pub first_location : location_of (child p 0 0) ≡ location_of (child p 1 1) - 3 * (2 * low_of (child p 1 1))
  first_location =
      omega (
        arith,
        low_child 0 0,
        low_child 1 1,
        location_child 0 0 (omega arith) (omega arith),
        location_child 1 1 (omega arith) (omega arith),
      )

  pub parent_location : location_of p ≡ location_of (child p 1 1) - 3 * low_of (child p 1 1)
  parent_location = omega (arith, low_child 1 1, location_child 1 1 (omega arith) (omega arith))

pub parent_of_map : (p : Tile) → OfMap (child p 1 1) → OfMap p
parent_of_map p o = map_tile p (valid_holder (child_held p 1 1 (omega arith) (omega arith)) (valid_tile (child p 1 1) o))

-- the fourth child by its Morton code
pub fourth_child : (t : Tile) → 0 < t.z → morton_of t % 4 ≡ 3 → t ≡ child (parent_tile t) 1 1
fourth_child t h e =
    let f : 3 ≡ 2 * (t.y % 2) + t.x % 2 = sym e ∙ (four_codes t h).1 in
    let x : t.x % 2 ≡ 1 = omega arith in
    let y : t.y % 2 ≡ 1 = omega arith in
    sym (rw (x, y) at (child_of_parent t h))

pub child_fourth : (p : Tile) → morton_of (child p 1 1) % 4 ≡ 3
child_fourth p = rw (morton_child p 1 1 (omega arith) (omega arith)) (omega arith)

-- what the code computes of a location
pub fourth_far : (t : Tile) → morton_of t % 4 ≡ 3 → 7 * low_of t ≤ location_of t
fourth_far t e = let h : 3 ≤ morton_of t = omega arith in omega (arith, mul-le-mul_right (low_of t) h, location_sum t)

runs_of_zoom : (t : Tile) → t.z ≤ max_zoom → 4 ^ t.z * low_of t ≡ 4 ^ max_zoom
unfolding low_of
runs_of_zoom t h = let e : t.z + (max_zoom - t.z) ≡ max_zoom = omega arith in rw (← pow-add 4 t.z (max_zoom - t.z), e)

pub end_small : (t : Tile) → OfMap t → end_of t < 2 ^ 63
end_small t m =
    let a : morton_of t < 2 * 4 ^ t.z = (morton_bounds t).1 in
    let f = runs_of_zoom t m.zoom in
    let l : 4 ^ max_zoom ≤ 4 ^ 30 = pow-le-pow_right (omega arith) max_zoom_small in
    omega (arith, mul-le-mul_right (low_of t) a, location_sum t)

pub low_small : (t : Tile) → low_of t ≤ 2 ^ 60
unfolding low_of
low_small t = four_mono {j = 30} (omega (arith, max_zoom_small))

-- a number that is a location
pub record IsLocation (k : ℕ) : Type 0 where
  pub of_map : OfMap (location_tile k)
  pub again : location_of (location_tile k) ≡ k

pub tile_location : (t : Tile) → OfMap t → IsLocation (location_of t)
tile_location t m = let e = location_tile_lem t m in record { of_map = rw e m; again = ap location_of e }

pub zeros_of : {k : ℕ} → IsLocation k → count_trailing_zeros 64 k ≡ 2 * (max_zoom - (location_tile k).z)
zeros_of {k} s = sym (ap (count_trailing_zeros 64) s.again) ∙ location_zeros (location_tile k)

pub low_of_lem : {k : ℕ} → IsLocation k → 2 ^ count_trailing_zeros 64 k ≡ low_of (location_tile k)
unfolding low_of
low_of_lem {k} s = rw (zeros_of s) (four_side (max_zoom - (location_tile k).z))

pub morton_of_lem : {k : ℕ} → IsLocation k → k / 2 ^ (count_trailing_zeros 64 k + 1) ≡ morton_of (location_tile k)
morton_of_lem {k} s = rw s.again at (location_morton (location_tile k))

-- what the sums of the code need of a location k and its lowest set bit w
pub record Room (k w : ℕ) : Type 0 where
  pub some : 0 < w
  pub below : w ≤ k
  pub fits : k + w < 2 ^ 63
  pub small : w ≤ 2 ^ 60

pub room : {k w : ℕ} → IsLocation k → w ≡ low_of (location_tile k) → Room k w
room {k} s e =
    let t = location_tile k in
    let p = s.again in
    record {
      some = omega (arith, low_pos t);
      below = omega (arith, low_below t);
      fits = omega (arith, end_small t s.of_map);
      small = omega (arith, low_small t);
    }

-- the tile of the i-th number
abbrev pub tiles : List ℕ → ℕ → Tile
tiles l i = location_tile (get_or l i 0)

-- locations of tiles whose runs along the quadtree follow each other
pub record Runs (l : List ℕ) : Type 0 where
  pub each : (i : ℕ) → i < length l → IsLocation (get_or l i 0)
  pub rise : (i j : ℕ) → i < j → j < length l → end_of (tiles l i) ≤ start_of (tiles l j)
