-- The pass on Morton codes is the merging of document 01: the tiles of the list that it leaves are the merged set.
use Rattle.std.specs.Prelude.{◌≡◌, Bool, true, false, ◌⊎◌, ℕ, ◌+◌, ◌*◌, ◌/◌, ◌%◌, ◌^◌, ◌≤◌, ◌<◌, length}
use Rattle.std.proofs.Common.{sym, ap, ◌∙◌, subst, inl, inr, arith, lt-ltb, le-ltb}
use mathlib.Core.List.Memᴰ
use mathlib.Core.List.{List, Memᴰ}
use Rattle.std.proofs.Math.Decide.{dec_lt}
use Rattle.constants.specs.Limits.{max_zoom}
use Rattle.quadtree.specs.Lists.{TileNumbers}
use Rattle.quadtree.specs.Numbers.{OfMap, morton_of, morton_tile}
use Rattle.quadtree.specs.OneTile.{morton_tile_lem}
use Rattle.quadtree.specs.Tree.{morton_child, morton_deeper, morton_shallower, four_codes}
use Rattle.sort.specs.Sort.{Rising}
use Rattle.tile.specs.declared.Tile.{Tile}
use Rattle.tile_list.specs.List.{named}
use Rattle.tile_list.specs.Laws.{named_by, names}
use Rattle.quadtree.specs.Locations.{valid_tile, map_tile}
use Rattle.tile_set.specs.Holds.{valid_parent, valid_child, parent_of_child}
use Rattle.tile_set.specs.Merged.{whole_all, joins_when, joined_when, merged_cases, merged_kept, merged_joined, joined_joins}
use Rattle.tile_set.specs.Merged.{joins_joined, is_false, bool_ext}
use Rattle.tile_set.specs.Set.{parent_tile, child, joins, joined, merged}
use Rattle.families.specs.Join.{first_morton, join_of}
use Rattle.families.specs.Members.{FourChildren, Left, join_leaves, join_keeps, join_same, join_shorter}

-- the first Morton code tells the zooms above m
first_below : (t : Tile) (m : ℕ) → OfMap t → m < t.z → first_morton m ≤ morton_of t
unfolding first_morton
first_below t m o h = let l : m < max_zoom = omega (arith, o.zoom) in rw (lt-ltb _ _ l) (morton_deeper t m h)

first_above : (t : Tile) (m : ℕ) → OfMap t → first_morton m ≤ morton_of t → m < t.z
unfolding first_morton
first_above t m o h = pick (dec_lt m t.z) (dec_lt m max_zoom)
  where
    pick : Dec (m < t.z) → Dec (m < max_zoom) → m < t.z
    pick (yes k) d = k
    pick (no k) (yes l) = let h : 4 ^ (m + 1) ≤ morton_of t = rw (lt-ltb _ _ l) at h in
        absurd (omega (arith, morton_shallower t m (omega arith)))
    pick (no k) (no l) =
        let h : 4 ^ (max_zoom + 1) ≤ morton_of t = rw (le-ltb m max_zoom (omega arith)) at h in
        absurd (omega (arith, morton_shallower t max_zoom o.zoom))

module _ (m : ℕ) (l : List ℕ) (q : TileNumbers morton_of l) where
  abbrev S : Tile → Bool
  S = named morton_tile l

  -- a tile is named by its Morton code
  pub morton_in : (t : Tile) → S t ≡ true → OfMap t × Memᴰ (morton_of t) l
  morton_in t e =
      let s = named_by morton_tile l t e in
      let u = q s.0 s.1 in
      let f : u.tile ≡ t = sym (morton_tile_lem u.tile u.on_map) ∙ (ap morton_tile u.number ∙ s.2) in
      (rw f at u.on_map, Memᴰ.cast (ap morton_of (sym f) ∙ u.number) s.1)

  pub in_morton : (t : Tile) → OfMap t → Memᴰ (morton_of t) l → S t ≡ true
  in_morton t o k = names morton_tile l (morton_of t) t k (morton_tile_lem t o)

  -- a family of Morton codes is the four children of one tile
  family_at : (P : Tile) → OfMap P → P.z < max_zoom → FourChildren (first_morton m) (morton_of P) l → joined m S P ≡ true
  family_at P o h f =
      (joined_when m S P).1 (
        let k = first_above (child P 0 0) m (kid 0 0 (omega arith) (omega arith))
            (rw (morton_child P 0 0 (omega arith) (omega arith)) (omega (arith, f.above))) in omega arith,
        (whole_all S P).1 (λ i j a b. in_morton (child P i j) (kid i j a b)
            (Memᴰ.cast (morton_child P i j a b) (f.each (2 * j + i) (omega arith)))),
      )
    where
      kid : (i j : ℕ) → i < 2 → j < 2 → OfMap (child P i j)
      kid i j a b = map_tile (child P i j) (valid_child i j (valid_tile P o) h a b)

  parent_of : (p : ℕ) → FourChildren (first_morton m) p l → (P : Tile) × OfMap P × (p ≡ morton_of P) × (joined m S P ≡ true)
  parent_of p f =
      let s = q (4 * p + 0) (f.each 0 (omega arith)) in
      let c = s.tile in
      let e : morton_of c ≡ 4 * p + 0 = s.number in
      let h : m < c.z = first_above c m s.on_map (omega (arith, f.above)) in
      let g : morton_of c / 4 ≡ morton_of (parent_tile c) = (four_codes c (omega arith)).0 in
      let k : p ≡ morton_of (parent_tile c) = omega arith in
      let o : OfMap (parent_tile c) = map_tile (parent_tile c) (valid_parent (valid_tile c s.on_map)) in
      let z = s.on_map.zoom in
      (parent_tile c, o, k, family_at (parent_tile c) o (omega arith) (rw k at f))

  -- four children in the set are a family of Morton codes
  family_of_lem : (P : Tile) → joined m S P ≡ true → FourChildren (first_morton m) (morton_of P) l
  family_of_lem P e = record { above = least; each = λ i h. there i h }
    where
      kid : (a b : ℕ) → a < 2 → b < 2 → S (child P a b) ≡ true
      kid = (whole_all S P).0 ((joined_when m S P).0 e).1

      least : first_morton m ≤ 4 * morton_of P
      least =
          let j = ((joined_when m S P).0 e).0 in
          let b = first_below (child P 0 0) m (morton_in (child P 0 0) (kid 0 0 (omega arith) (omega arith))).0 (omega arith) in
          omega (arith, morton_child P 0 0 (omega arith) (omega arith))

      there : (i : ℕ) → i < 4 → Memᴰ (4 * morton_of P + i) l
      there i h =
          let a : i % 2 < 2 = omega arith in
          let b : i / 2 < 2 = omega arith in
          let g : 4 * morton_of P + i ≡ morton_of (child P (i % 2) (i / 2)) = omega (arith, morton_child P (i % 2) (i / 2) a b) in
          Memᴰ.cast g (morton_in (child P (i % 2) (i / 2)) (kid (i % 2) (i / 2) a b)).1

  -- what is left is merged
  module _ (r : Rising l) where
    abbrev R : List ℕ
    R = join_of (first_morton m) l

    left_tile : (k : ℕ) → Left (first_morton m) k l → (t : Tile) × OfMap t × (k ≡ morton_of t) × (merged m S t ≡ true)
    left_tile k (inl (n, f)) = let s = q k n in here s.tile s.on_map (sym s.number)
      where
        here : (t : Tile) → OfMap t → k ≡ morton_of t → (t : Tile) × OfMap t × (k ≡ morton_of t) × (merged m S t ≡ true)
        here t o e = (t, o, e, merged_kept m S t (in_morton t o (Memᴰ.cast (sym e) n)) (is_false (joins m S t) alone))
          where
            alone : joins m S t ≡ true → ⊥
            alone j =
                let w = (joins_when m S t).0 j in
                let d : m < t.z = w.0 in
                let g : morton_of t / 4 ≡ morton_of (parent_tile t) = (four_codes t (omega arith)).0 in
                let h : k / 4 ≡ morton_of (parent_tile t) = ap (λ (a : ℕ). a / 4) e ∙ g in
                f (rw h (family_of_lem (parent_tile t) ((joined_when m S (parent_tile t)).1 (omega arith, w.1))))
    left_tile k (inr f) = let P = parent_of k f in (P.0, P.1, P.2, merged_joined m S P.0 P.3)

    pub join_codes : TileNumbers morton_of R
    join_codes k n = let s = left_tile k (join_leaves (first_morton m) k l r n) in record { tile = s.0; on_map = s.1; number = sym s.2 }

    tile_left : (t : Tile) → merged m S t ≡ true → OfMap t × Left (first_morton m) (morton_of t) l
    tile_left t e = pick (merged_cases m S t e)
      where
        pick : ((S t ≡ true) × (joins m S t ≡ false)) ⊎ (joined m S t ≡ true) → OfMap t × Left (first_morton m) (morton_of t) l
        pick (inl (h, j)) = ((morton_in t h).0, inl ((morton_in t h).1, alone))
          where
            alone : FourChildren (first_morton m) (morton_of t / 4) l → ⊥
            alone f =
                let d : m < t.z = first_above t m (morton_in t h).0 (omega (arith, f.above)) in
                let g : morton_of t / 4 ≡ morton_of (parent_tile t) = (four_codes t (omega arith)).0 in
                let o = (morton_in t h).0 in
                let z = o.zoom in
                let P = family_at (parent_tile t) (map_tile (parent_tile t) (valid_parent (valid_tile t o))) (omega arith) (rw g at f) in
                let w = (joined_when m S (parent_tile t)).0 P in
                let c : joins m S t ≡ true = (joins_when m S t).1 (d, w.1) in
                let n : ◌≡◌ {A = ℕ} 0 1 = cc in
                omega arith
        pick (inr k) = (map, inr (family_of_lem t k))
          where
            map : OfMap t
            map =
                let c = (morton_in (child t 0 0) ((whole_all S t).0 ((joined_when m S t).0 k).1 0 0 (omega arith) (omega arith))).0 in
                subst (λ (s : Tile). OfMap s) (parent_of_child t 0 0 (omega arith) (omega arith))
                (map_tile (parent_tile (child t 0 0)) (valid_parent (valid_tile (child t 0 0) c)))

    pub join_merges : (t : Tile) → named morton_tile R t ≡ merged m S t
    join_merges t = bool_ext (named morton_tile R t) (merged m S t) into out
      where
        into : named morton_tile R t ≡ true → merged m S t ≡ true
        into e =
            let s = named_by morton_tile R t e in
            let u = left_tile s.0 (join_leaves (first_morton m) s.0 l r s.1) in
            let f : u.0 ≡ t = sym (morton_tile_lem u.0 u.1) ∙ (ap morton_tile (sym u.2) ∙ s.2) in
            rw (← f) u.3

        out : merged m S t ≡ true → named morton_tile R t ≡ true
        out e = let s = tile_left t e in
            names morton_tile R (morton_of t) t (join_keeps (first_morton m) (morton_of t) l r s.1) (morton_tile_lem t s.0)

  -- the list grows shorter just where some tile joins
  pub join_changes : Rising l → ((t : Tile) → S t ≡ true → joins m S t ≡ false) → join_of (first_morton m) l ≡ l
  join_changes r n = join_same (first_morton m) l r (λ p f. clash p (parent_of p f))
    where
      clash : (p : ℕ) → (P : Tile) × OfMap P × (p ≡ morton_of P) × (joined m S P ≡ true) → ⊥
      clash p (P, o, e, j) =
          let w = (joined_when m S P).0 j in
          let k = (whole_all S P).0 w.1 0 0 (omega arith) (omega arith) in
          let f : joins m S (child P 0 0) ≡ true = joined_joins m S P 0 0 (omega arith) (omega arith) j in
          let g = n (child P 0 0) k in
          let z : ◌≡◌ {A = ℕ} 0 1 = cc in
          omega arith

  pub join_shrinks : Rising l → (t : Tile) → joins m S t ≡ true → length (join_of (first_morton m) l) < length l
  join_shrinks r t j = join_shorter (first_morton m) (morton_of (parent_tile t)) l r (family_of_lem (parent_tile t) (joins_joined m S t j))
