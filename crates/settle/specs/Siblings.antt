-- Four siblings by their locations, as the code tests them.
use Rattle.std.specs.Prelude.{◌≡◌, true, false, ◌↔◌, List, ℕ, ◌+◌, ◌-◌, ◌*◌, ◌%◌, ◌≤◌, ◌<◌, get_or}
use Rattle.std.proofs.Common.{sym, ap, ◌∙◌, arith}
use Rattle.std.proofs.lemmas.Bool.{false≢true}
use Rattle.child_digit.specs.Digit.{digit_of}
use Rattle.child_digit.specs.Theorems.{the_last_digit}
use Rattle.constants.specs.Limits.{max_zoom}
use Rattle.quadtree.specs.Numbers.{morton_of, location_of, location_tile}
use Rattle.quadtree.specs.OneTile.{location_tile_lem}
use Rattle.tile.specs.declared.Tile.{Tile}
use Rattle.quadtree.specs.Locations.{valid_tile, map_tile, low_of, first_location, second_location, third_location, parent_location}
use Rattle.quadtree.specs.Locations.{fourth_child}
use Rattle.quadtree.specs.Locations.{child_fourth, fourth_far, parent_of_map, tile_location, tiles}
use Rattle.tile_set.specs.Holds.{valid_parent, valid_child}
use Rattle.tile_set.specs.Set.{child, parent_tile}
use Rattle.settle.specs.Settle.{Stand, Family}

-- the three numbers below k, whose lowest set bit is w, and k, which is left by the last digit
pub record Siblings (m : ℕ) (l : List ℕ) (count k w : ℕ) : Type 0 where
  pub three : 3 ≤ count
  pub deep : m < (location_tile k).z
  pub fourth : digit_of (location_tile k) ≡ 51
  pub third : get_or l (count - 1) 0 + 2 * w ≡ k
  pub second : get_or l (count - 2) 0 + 2 * (2 * w) ≡ k
  pub first : get_or l (count - 3) 0 + 3 * (2 * w) ≡ k

module _ (m : ℕ) (l : List ℕ) (count k w : ℕ) (s : Stand l count k) (e : w ≡ low_of (location_tile k)) where
  -- the locations of p's children, where k is the fourth
  module _ (p : Tile) (fourth : location_tile k ≡ child p 1 1) where
    higher : p.z < max_zoom
    higher = (rw fourth at s.top.of_map).zoom

    low : low_of (child p 1 1) ≡ w
    low = sym (e ∙ ap low_of fourth)

    top : location_of (child p 1 1) ≡ k
    top = sym (ap location_of fourth) ∙ s.top.again

    third : location_of (child p 0 1) ≡ k - 2 * w
    third = third_location p higher ∙ rw (low, top)

    second : location_of (child p 1 0) ≡ k - 2 * (2 * w)
    second = second_location p higher ∙ rw (low, top)

    first : location_of (child p 0 0) ≡ k - 3 * (2 * w)
    first = first_location p higher ∙ rw (low, top)

    pub parent : location_of p ≡ k - 3 * w
    parent = parent_location p higher ∙ rw (low, top)

    pub siblings_fit : 3 * (2 * w) ≤ k
    siblings_fit = omega (arith, fourth_far (location_tile k) (rw fourth (child_fourth p)), e, s.top.again)

  pub family_siblings : (p : Tile) → Family m (tiles l) count (location_tile k) p → Siblings m l count k w
  family_siblings p f =
      let fit = siblings_fit p f.fourth in
      let deep : m < (location_tile k).z = omega (arith, ap (λ (t : Tile). t.z) f.fourth, f.deep) in
      let last : morton_of (location_tile k) % 4 ≡ 3 = rw f.fourth (child_fourth p) in
      record {
        three = f.three;
        deep = deep;
        fourth = omega (arith, the_last_digit (location_tile k) s.top.of_map (omega arith));
        third = omega (arith, location 1 (omega arith) f.third, third p f.fourth);
        second = omega (arith, location 2 (omega arith) f.second, second p f.fourth);
        first = omega (arith, location 3 (omega arith) f.first, first p f.fourth);
      }
    where
      location : (n : ℕ) → (0 < n) × (n ≤ 3) → {c : Tile} → tiles l (count - n) ≡ c → get_or l (count - n) 0 ≡ location_of c
      location n g q = sym (s.each (count - n) (omega (arith, f.three))).again ∙ ap location_of q

  pub siblings_family : Siblings m l count k w → (p : Tile) × Family m (tiles l) count (location_tile k) p
  siblings_family g = (
    p,
    record {
      deep = omega (arith, g.deep);
      three = g.three;
      first = tile 0 0 (omega arith) (omega arith) (omega (arith, g.first, first p fourth));
      second = tile 1 0 (omega arith) (omega arith) (omega (arith, g.second, second p fourth));
      third = tile 0 1 (omega arith) (omega arith) (omega (arith, g.third, third p fourth));
      fourth = fourth;
    },
  )
    where
      p : Tile
      p = parent_tile (location_tile k)

      last : morton_of (location_tile k) % 4 ≡ 3
      last = omega (arith, the_last_digit (location_tile k) s.top.of_map (omega (arith, g.deep)), g.fourth)

      fourth : location_tile k ≡ child p 1 1
      fourth = fourth_child (location_tile k) (omega (arith, g.deep)) last

      tile : (i j : ℕ) → i < 2 → j < 2 → {n : ℕ} → n ≡ location_of (child p i j) → location_tile n ≡ child p i j
      tile i j a b q =
          ap location_tile q
          ∙ location_tile_lem (child p i j)
          (map_tile (child p i j) (valid_child i j (valid_parent (valid_tile (location_tile k) s.top.of_map)) (higher p fourth) a b))

  pub join_stand : (p : Tile) → Family m (tiles l) count (location_tile k) p → Stand l (count - 3) (k - 3 * w)
  join_stand p f = record {
    within = omega (arith, s.within);
    each = λ i h. s.each i (omega arith);
    top = rw (← parent p f.fourth) (tile_location p (parent_of_map p (rw f.fourth at s.top.of_map)));
  }

  pub no_family : (Siblings m l count k w → ⊥) → false ≡ true ↔ ((p : Tile) × Family m (tiles l) count (location_tile k) p)
  no_family n = (λ q. absurd (false≢true q), λ f. absurd (n (family_siblings f.0 f.1)))
