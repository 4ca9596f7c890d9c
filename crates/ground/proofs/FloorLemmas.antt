-- The one settled list of a ground above a floor m: it is there, only one is, none is shorter, and it is the settled list cut down to m.
use Rattle.std.specs.Prelude.{◌≡◌, refl, ◌↔◌, Bool, ℕ, ◌+◌, ◌-◌, ◌≤◌, ◌<◌, length}
use Rattle.std.proofs.Common.{sym, ◌∙◌, subst, arith}
use Rattle.std.proofs.Math.Bool.{true}
use mathlib.Core.List.{List, Memᴰ}
use Rattle.std.proofs.Math.Decide.{dec_le, dec_lt}
use Rattle.std.proofs.Math.Nat.{sub_self}
use Rattle.ground.proofs.Cells.{ground_in, ground_of_lem, cell_on_map, held_valid, full_cells, full_under}
use Rattle.ground.specs.Ground.{ground, Same, NoFour, SettledFrom, full, largest_from, settled_list_from, settled_list}
use Rattle.ground.specs.Largest.{Full, Largest, Cover}
use Rattle.ground.proofs.LargestLemmas.{largest_when, when_largest, parent_full, four_full, climb}
use Rattle.ground.proofs.LargestLemmas.{parents_not_full, held_by_largest, is_largest, largest_is}
use Rattle.ground.specs.Members.{ordered_once, no_longer}
use Rattle.tile.specs.OnMap.{tile_at}
use Rattle.tile.specs.declared.Tile.{Tile}
use Rattle.tile_set.specs.Holds.{Holds, holds_both, holds_level, parent_of_child, by_quarter, Valid}
use Rattle.tile_set.specs.InOrder.{in_order_of, in_order_in, in_order_ordered, in_order_is, in_order_same}
use Rattle.tile_set.specs.Merged.{Within, bool_ext}
use Rattle.tile_set.specs.Set.{parent_tile, child, tiles_in_order, simplified}
use Rattle.tile_set.specs.Simplified.{Built, listed, joined, Simplest, simplified_within, simplified_simplest}
use Rattle.tile_set.specs.Theorems.{simplify_keeps_ground}
use Rattle.ground.specs.Floor.{CutTo}

-- the tiles of a list cover a set that is its ground
pub list_covers : {D : ℕ} {G : ℕ → ℕ → Bool} (l : List Tile) → ((t : Tile) → Memᴰ t l → Valid D t) → Same D (ground D l) G
    → Cover D G (λ t. Memᴰ t l)
list_covers l v e = record {
  of_map = v;
  covers = λ X Y a b g. ground_of_lem l X Y v (e X Y a b ∙ g);
  covered = λ X Y t m h. let b = cell_on_map (v t m) h in sym (e X Y b.0 b.1) ∙ ground_in l X Y t m h;
}

-- no two tiles of a settled list hold one tile
pub one_holder : {m D : ℕ} {l : List Tile} → SettledFrom m D l
    → (p q t : Tile) → Memᴰ p l → Memᴰ q l → Holds p t → Holds q t → p ≡ q
one_holder s p q t i j h k = pick (dec_le p.z q.z)
  where
    pick : Dec (p.z ≤ q.z) → p ≡ q
    pick (yes l) = s.apart p q i j (holds_both h k l)
    pick (no l) = sym (s.apart q p j i (holds_both k h (omega arith)))

-- its members are the largest tiles
module _ (m D : ℕ) (G : ℕ → ℕ → Bool) where
  list_of : {t : Tile} → Memᴰ t (settled_list_from m D G) → Valid D t × Largest m D G t
  unfolding settled_list_from
  list_of {t} i = let k = in_order_of D (largest_from m D G) i in (k.0, largest_when m D G t k.0.zoom k.1)

  list_in : {t : Tile} → Valid D t → Largest m D G t → Memᴰ t (settled_list_from m D G)
  unfolding settled_list_from
  list_in {t} v k = in_order_in D (largest_from m D G) v (when_largest m D G t v.zoom k)

module _ (m D : ℕ) where
  -- the list is settled above the floor
  pub settled_list_settled_from : (G : ℕ → ℕ → Bool) → SettledFrom m D (settled_list_from m D G)
  unfolding settled_list_from
  settled_list_settled_from G = record {
    of_map = λ t i. (list_of m D G i).0;
    floor = λ t i. (list_of m D G i).1.floor;
    in_order = in_order_ordered D (largest_from m D G);
    apart = apart;
    no_four = no_four;
  }
    where
      apart : (s t : Tile) → Memᴰ s (settled_list_from m D G) → Memᴰ t (settled_list_from m D G) → Holds s t → s ≡ t
      apart s t i j h = pick (dec_lt s.z t.z)
        where
          pick : Dec (s.z < t.z) → s ≡ t
          pick (yes g) =
              let a = list_of m D G i in
              let b = list_of m D G j in
              absurd (b.1.top (omega (arith, a.1.floor)) (parent_full D G s t h g b.0.zoom a.1.filled))
          pick (no g) = holds_level h (omega arith)

      no_four : NoFour m (λ t. Memᴰ t (settled_list_from m D G))
      no_four p l a b c d =
          let first = list_of m D G a in
          first.1.top (omega arith)
          (subst (Full D G) (sym (parent_of_child p 0 0 (omega arith) (omega arith))) (four_full D G p first.0.zoom
          (by_quarter (λ i j. Full D G (child p i j))
          (each (child p 0 0) a) (each (child p 0 1) b) (each (child p 1 0) c) (each (child p 1 1) d))))
        where
          each : (t : Tile) → Memᴰ t (settled_list_from m D G) → Full D G t
          each t i = (list_of m D G i).1.filled

  -- its ground is the set
  pub settled_list_ground_from : m ≤ D → (G : ℕ → ℕ → Bool) → Same D (ground D (settled_list_from m D G)) G
  unfolding full
  settled_list_ground_from l G X Y a b = bool_ext (ground D (settled_list_from m D G) X Y) (G X Y) down up
    where
      down : ground D (settled_list_from m D G) X Y ≡ true → G X Y ≡ true
      down e =
          let r = ground_of_lem (settled_list_from m D G) X Y (λ t i. (list_of m D G i).0) e in
          full_cells D G r.0 (list_of m D G r.1).1.filled r.2

      up : G X Y ≡ true → ground D (settled_list_from m D G) X Y ≡ true
      up e =
          let r = climb m D G D (tile_at X Y D) refl l (record { zoom = omega arith; column = a; row = b }) (cell e) in
          ground_in (settled_list_from m D G) X Y r.0 (list_in m D G r.1 r.2) r.3
        where
          cell : G X Y ≡ true → full G (D - D) (tile_at X Y D) ≡ true
          cell e = rw sub_self e

  -- it is the only list settled above the floor with that ground
  pub one_settled_list_from : (G : ℕ → ℕ → Bool) (l : List Tile) → SettledFrom m D l → Same D (ground D l) G → l ≡ settled_list_from m D G
  unfolding settled_list_from
  one_settled_list_from G l s e =
      in_order_is D (largest_from m D G) l s.in_order (λ t i. (s.of_map t i, is_largest C m s.floor tops t i))
      (λ t v k. largest_is C m s.floor tops t v k)
    where
      C : Cover D G (λ t. Memᴰ t l)
      C = list_covers l s.of_map e

      tops : (t : Tile) → Memᴰ t l → m < t.z → Full D G (parent_tile t) → ⊥
      tops = parents_not_full C m s.apart s.no_four

  -- sets with the same tiles of the map have the same list
  pub settled_list_same_from : m ≤ D → (G H : ℕ → ℕ → Bool) → Same D G H → settled_list_from m D G ≡ settled_list_from m D H
  settled_list_same_from l G H e =
      one_settled_list_from H (settled_list_from m D G) (settled_list_settled_from G)
      (λ X Y p q. settled_list_ground_from l G X Y p q ∙ e X Y p q)

  -- no list that has all tiles of a cover of zoom m or more is shorter, repeats and overlaps allowed
  pub settled_list_least_from : {G : ℕ → ℕ → Bool} {P : Tile → Type 0} → Cover D G P → ((t : Tile) → P t → m ≤ t.z) → (l : List Tile)
      → ((t : Tile) → P t → Memᴰ t l) → length (settled_list_from m D G) ≤ length l
  settled_list_least_from {G} C floor l all =
      no_longer Holds (settled_list_from m D G) l (ordered_once _ (settled_list_settled_from G).in_order) partner
      (one_holder (settled_list_settled_from G))
    where
      partner : (p : Tile) → Memᴰ p (settled_list_from m D G) → (t : Tile) × Memᴰ t l × Holds p t
      partner p i = let k = list_of m D G i in let r = held_by_largest C m floor p k.0 k.1 in (r.0, all r.0 r.1, r.2)

  -- a set of tiles of zoom m or more that covers G, none with a full parent of such a zoom, is G's list
  pub largest_list_from : {G : ℕ → ℕ → Bool} (S : Tile → Bool) → Cover D G (λ t. S t ≡ true) → ((t : Tile) → S t ≡ true → m ≤ t.z)
      → ((t : Tile) → S t ≡ true → m < t.z → Full D G (parent_tile t) → ⊥) → tiles_in_order D S ≡ settled_list_from m D G
  unfolding settled_list_from
  largest_list_from {G} S C floor tops =
      in_order_same D S (largest_from m D G)
      (λ t v. bool_ext (S t) (largest_from m D G t) (is_largest C m floor tops t) (largest_is C m floor tops t v))

  -- `simplify` at m gives the list of what the set covers
  pub simplified_list_from : {G : ℕ → ℕ → Bool} (S : Tile → Bool) → Cover D G (λ t. S t ≡ true) → ((t : Tile) → S t ≡ true → m ≤ t.z)
      → tiles_in_order D (simplified D m S) ≡ settled_list_from m D G
  simplified_list_from {G} S C floor =
      largest_list_from (simplified D m S) R (λ t e. above (simplest.built t e)) (parents_not_full R m simplest.apart none)
    where
      w : Within D S
      w = C.of_map

      simplest : Simplest m S (simplified D m S)
      simplest = simplified_simplest m S w

      R : Cover D G (λ t. simplified D m S t ≡ true)
      R = record {
        of_map = simplified_within m S w;
        covers = λ X Y a b g. (simplify_keeps_ground m S w X Y).0 (C.covers X Y a b g);
        covered = λ X Y t e h. let s = (simplify_keeps_ground m S w X Y).1 (t, e, h) in C.covered X Y s.0 s.1 s.2;
      }

      above : {t : Tile} → Built m S t → m ≤ t.z
      above (listed e) = floor _ e
      above (joined l a b c d) = l

      none : NoFour m (λ t. simplified D m S t ≡ true)
      none p l a b c d = simplest.no_four p l (rw (a, b, c, d))

  -- the list is the settled list with each tile above the floor cut down to its descendants at the floor
  pub settled_list_cut_to : m ≤ D → (G : ℕ → ℕ → Bool) (t : Tile)
      → Memᴰ t (settled_list_from m D G) ↔ ((s : Tile) × Memᴰ s (settled_list D G) × CutTo m s t)
  settled_list_cut_to l G t = (down, up)
    where
      down : Memᴰ t (settled_list_from m D G) → (s : Tile) × Memᴰ s (settled_list D G) × CutTo m s t
      down i =
          let k = list_of m D G i in
          let r = climb 0 D G t.z t refl (omega arith) k.0 k.1.filled in
          let c : CutTo m r.0 t = record { held = r.3; level = level k.0 k.1 r.0 r.2 r.3 (dec_lt r.0.z t.z) } in
          (r.0, list_in 0 D G r.1 r.2, c)
        where
          level : Valid D t → Largest m D G t → (s : Tile) → Largest 0 D G s → Holds s t → Dec (s.z < t.z) → t.z ≡ s.z + (m - s.z)
          level v k s f h (yes a) = pick (dec_lt m t.z)
            where
              pick : Dec (m < t.z) → t.z ≡ s.z + (m - s.z)
              pick (yes g) = absurd (k.top g (parent_full D G s t h a v.zoom f.filled))
              pick (no g) = omega (arith, k.floor)
          level v k s f h (no a) = omega (arith, k.floor, h.above)

      up : (s : Tile) × Memᴰ s (settled_list D G) × CutTo m s t → Memᴰ t (settled_list_from m D G)
      up (s, i, c) =
          let k = list_of 0 D G i in
          let b : t.z ≤ D = omega (arith, k.0.zoom, c.level) in
          list_in m D G (held_valid k.0 c.held b)
          (record { floor = omega (arith, c.level); filled = full_under D G s t c.held b k.1.filled; top = top k.1 })
        where
          top : Largest 0 D G s → m < t.z → Full D G (parent_tile t) → ⊥
          top k g f =
              let same : s ≡ t = holds_level c.held (omega (arith, c.level)) in
              k.top (omega (arith, c.level)) (subst (λ (u : Tile). Full D G (parent_tile u)) (sym same) f)
