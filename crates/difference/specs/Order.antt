-- The runs of what is left follow each other, as those of the tiles did that it is left of.
use Rattle.std.specs.Prelude.{◌≡◌, Bool, cond, length, get_or}
use Rattle.std.proofs.Common.{subst}
use Rattle.std.proofs.Math.Bool.{true, false}
use mathlib.Core.List.{List, [], ◌∷◌, ◌++◌, map}
use Prim.Native.Nat.{ℕ, zero, suc, ◌+◌, ◌-◌, ◌*◌, ◌^◌, ◌≤◌, ◌<◌}
use native.Mathlib.Omega.{arith}
use Rattle.bits.specs.Tests.{any_of}
use Rattle.constants.specs.Limits.{max_zoom}
use Rattle.quadtree.specs.Numbers.{OfMap, location_of, location_tile}
use Rattle.quadtree.specs.OneTile.{location_tile_lem}
use Rattle.quadtree.specs.Locations.{low_of, start_of, end_of, low_below, low_child, location_child, end_small, IsLocation, tile_location}
use Rattle.quadtree.specs.Locations.{tiles, Runs, valid_tile, map_tile}
use Rattle.tile.specs.declared.Tile.{Tile}
use Rattle.tile_set.specs.Holds.{valid_child}
use Rattle.tile_set.specs.Set.{child}
use Rattle.difference.specs.Left.{holds, of_four, left_of, left_of_all, without}

-- tiles of the map whose runs follow each other, from the number a to the number b
unfoldable Between : ℕ → ℕ → List Tile → Type 0
Between a b [] = a ≤ b
Between a b (t ∷ l) = OfMap t × (a ≤ start_of t) × Between (end_of t) b l

between_from : (a b c : ℕ) (l : List Tile) → a ≤ b → Between b c l → Between a c l
unfolding Between
between_from a b c [] h s = omega arith
between_from a b c (t ∷ l) h s = (s.0, omega (arith, s.1), s.2)

between_both : (a b c : ℕ) (l m : List Tile) → Between a b l → Between b c m → Between a c (l ++ m)
unfolding Between
between_both a b c [] m s r = between_from a b c m s r
between_both a b c (t ∷ l) m s r = (s.0, s.1, between_both (end_of t) b c l m s.2 r)

-- the four children's runs, one after the other
module _ (t : Tile) (h : t.z < max_zoom) where
  abbrev q : ℕ
  q = low_of (child t 0 0)

  begins : (i j : ℕ) → i < 2 → j < 2 → start_of (child t i j) ≡ start_of t + 2 * ((2 * j + i) * q)
  begins i j x y =
      let l : low_of (child t i j) ≡ q = omega (arith, low_child t h i j, low_child t h 0 0) in
      omega (arith, low_below t, low_child t h 0 0, rw l at (location_child t h i j x y))

  ends : (i j : ℕ) → i < 2 → j < 2 → end_of (child t i j) ≡ start_of t + 2 * ((2 * j + i) * q) + 2 * q
  ends i j x y = omega (arith, begins i j x y, low_below (child t i j), low_child t h i j, low_child t h 0 0)

module _ (gone : List Tile) where
  between_four : (d : ℕ) (t : Tile) → t.z < max_zoom
      → ((i j : ℕ) → i < 2 → j < 2 → Between (start_of (child t i j)) (end_of (child t i j)) (left_of d gone (child t i j)))
      → Between (start_of t) (end_of t) (of_four (left_of d gone) t)
  between_four d t h each =
      let last : end_of (child t 1 1) ≡ end_of t = omega (arith, ends t h 1 1 (omega arith) (omega arith), low_child t h 0 0, low_below t) in
      join 0 0 _ _ _ (omega arith) (omega arith) (omega (arith, begins t h 0 0 (omega arith) (omega arith)))
      (join 1 0 _ _ _ (omega arith) (omega arith)
      (omega (arith, ends t h 0 0 (omega arith) (omega arith), begins t h 1 0 (omega arith) (omega arith)))
      (join 0 1 _ _ _ (omega arith) (omega arith)
      (omega (arith, ends t h 1 0 (omega arith) (omega arith), begins t h 0 1 (omega arith) (omega arith)))
      (between_from _ _ _ _ (omega (arith, ends t h 0 1 (omega arith) (omega arith), begins t h 1 1 (omega arith) (omega arith)))
      (subst (λ (n : ℕ). Between (start_of (child t 1 1)) n (left_of d gone (child t 1 1))) last (each 1 1 (omega arith) (omega arith))))))
    where
      join : (i j a b : ℕ) (m : List Tile) → i < 2 → j < 2 → a ≤ start_of (child t i j) → Between (end_of (child t i j)) b m
          → Between a b (left_of d gone (child t i j) ++ m)
      join i j a b m x y f r =
          let c = child t i j in
          between_both a (end_of c) b (left_of d gone c) m (between_from a (start_of c) (end_of c) (left_of d gone c) f (each i j x y)) r

  between_cond : (t : Tile) → OfMap t → (b : Bool) (l : List Tile) → Between (start_of t) (end_of t) l
      → Between (start_of t) (end_of t) (cond b [] l)
  unfolding Between
  between_cond t o true l s = omega arith
  between_cond t o false l s = s

  between_one : (t : Tile) → OfMap t → Between (start_of t) (end_of t) (t ∷ [])
  unfolding Between
  between_one t o = (o, omega arith, omega arith)

  left_between : (d : ℕ) (t : Tile) → OfMap t → t.z + d ≡ max_zoom → Between (start_of t) (end_of t) (left_of d gone t)
  unfolding left_of
  left_between zero t o e = between_cond t o (any_of (λ g. holds g t) gone) (t ∷ []) (between_one t o)
  left_between (suc d) t o e =
      between_cond t o (any_of (λ g. holds g t) gone) _
      (pick (any_of (λ g. holds t g) gone) (λ i j x y. left_between d (child t i j) (of_map i j x y) (omega arith)))
    where
      of_map : (i j : ℕ) → i < 2 → j < 2 → OfMap (child t i j)
      of_map i j x y = map_tile (child t i j) (valid_child i j (valid_tile t o) (omega arith) x y)

      pick : (b : Bool)
          → ((i j : ℕ) → i < 2 → j < 2 → Between (start_of (child t i j)) (end_of (child t i j)) (left_of d gone (child t i j)))
          → Between (start_of t) (end_of t) (cond b (of_four (left_of d gone) t) (t ∷ []))
      pick true each = between_four d t (omega arith) each
      pick false each = between_one t o

  all_between : (l : List ℕ) (a b : ℕ) → a ≤ b → Runs l → ((i : ℕ) → i < length l → (a ≤ start_of (tiles l i)) × (end_of (tiles l i) ≤ b))
      → Between a b (left_of_all max_zoom gone (map location_tile l))
  unfolding left_of_all Between
  all_between [] a b h r f = h
  all_between (k ∷ l) a b h r f =
      let t = location_tile k in
      let o = (r.each 0 (omega arith)).of_map in
      let rest : Runs l = record
      { each = λ i x. r.each (suc i) (omega arith); rise = λ i j x y. r.rise (suc i) (suc j) (omega arith) (omega arith) } in
      let L = left_of (max_zoom - t.z) gone t in
      let here = left_between (max_zoom - t.z) t o (omega (arith, o.zoom)) in
      between_both a (end_of t) b L _ (between_from a (start_of t) (end_of t) L (f 0 (omega arith)).0 here)
      (all_between l (end_of t) b (f 0 (omega arith)).1 rest
      (λ i x. (r.rise 0 (suc i) (omega arith) (omega arith), (f (suc i) (omega arith)).1)))

between_starts : (l : List Tile) (a b i : ℕ) → Between a b l → i < length (map location_of l) → a ≤ start_of (tiles (map location_of l) i)
unfolding Between
between_starts [] a b i s h = absurd (omega arith)
between_starts (t ∷ l) a b zero s h = rw (location_tile_lem t s.0) s.1
between_starts (t ∷ l) a b (suc i) s h = omega (arith, s.1, between_starts l (end_of t) b i s.2 (omega arith))

between_runs : (l : List Tile) (a b : ℕ) → Between a b l → Runs (map location_of l)
unfolding Between
between_runs l a b s = record { each = each l a b s; rise = rise l a b s }
  where
    each : (l : List Tile) (a b : ℕ) → Between a b l → (i : ℕ) → i < length (map location_of l) → IsLocation (get_or (map location_of l) i 0)
    each [] a b s i h = absurd (omega arith)
    each (t ∷ l) a b s zero h = tile_location t s.0
    each (t ∷ l) a b s (suc i) h = each l (end_of t) b s.2 i (omega arith)

    rise : (l : List Tile) (a b : ℕ) → Between a b l → (i j : ℕ) → i < j → j < length (map location_of l)
        → end_of (tiles (map location_of l) i) ≤ start_of (tiles (map location_of l) j)
    rise [] a b s i j h k = absurd (omega arith)
    rise (t ∷ l) a b s i zero h k = absurd (omega arith)
    rise (t ∷ l) a b s zero (suc j) h k = rw (location_tile_lem t s.0) (between_starts l (end_of t) b j s.2 (omega arith))
    rise (t ∷ l) a b s (suc i) (suc j) h k = rise l (end_of t) b s.2 i j (omega arith) (omega arith)

pub without_runs : (kept gone : List ℕ) → Runs kept → Runs (map location_of (without kept gone))
without_runs kept gone r =
    between_runs (without kept gone) 0 (2 ^ 63)
    (all_between (map location_tile gone) kept 0 (2 ^ 63) (omega arith) r
    (λ i h. (omega arith, omega (arith, end_small (tiles kept i) (r.each i h).of_map))))
