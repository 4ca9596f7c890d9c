-- Which of the tiles that are taken away touch a tile, where the walk has come to its start.
use Rattle.std.specs.Prelude.{◌≡◌, ◌⊎◌, ℕ, suc, ◌≤◌, ◌<◌, length}
use Rattle.std.proofs.Common.{sym, ap, ◌∙◌, subst, inl, inr, arith}
use mathlib.Core.List.{List, [], ◌∷◌, map, Memᴰ}
use Rattle.std.proofs.Math.Decide.{dec_lt}
use Rattle.bits.specs.Tests.{in_map, into_map, get_d_in, in_get_d}
use Rattle.constants.specs.Limits.{max_zoom}
use Rattle.quadtree.specs.Numbers.{OfMap, location_of, location_tile}
use Rattle.quadtree.specs.OneTile.{location_tile_lem}
use Rattle.quadtree.specs.Locations.{low_of, start_of, end_of, low_pos, low_below, held_run, lies, Lie, holding, held, before, after, tiles}
use Rattle.quadtree.specs.Locations.{Runs}
use Rattle.tile.specs.declared.Tile.{Tile}
use Rattle.tile_set.specs.Holds.{Holds, holds_refl, holds_trans, holds_level}
use Rattle.difference.specs.Left.{of_four, left_of}
use Rattle.difference.specs.Holding.{left_dropped, left_kept, left_four}
use Rattle.difference.specs.Walk.{Behind}

-- the runs of s and t do not meet
abbrev pub RunsApart : Tile → Tile → Type 0
RunsApart s t = (end_of s ≤ start_of t) ⊎ (end_of t ≤ start_of s)

swapped : (s t : Tile) → RunsApart s t → RunsApart t s
swapped s t (inl h) = inr h
swapped s t (inr h) = inl h

not_held : {s t : Tile} → OfMap t → RunsApart s t → Holds s t → ⊥
not_held {s} {t} o (inl a) h = let r = held_run h o in omega (arith, low_pos t, r.0, r.1)
not_held {s} {t} o (inr a) h = let r = held_run h o in omega (arith, low_pos t, r.0, r.1)

-- of two tiles that meet, the one with the longer run holds the other
longer_holds : (s t : Tile) → OfMap s → OfMap t → start_of s < end_of t → start_of t < end_of s → low_of t ≤ low_of s → Holds s t
longer_holds s t m n a b h = pick (lies s t m n)
  where
    pick : Lie s t → Holds s t
    pick (holding k) = k
    pick (held k) =
        let r = held_run k m in
        let e : location_of t ≡ location_of s = omega (arith, r.0, r.1, low_below s, low_below t) in
        let f : t ≡ s = sym (location_tile_lem t n) ∙ (ap location_tile e ∙ location_tile_lem s m) in
        subst (λ (u : Tile). Holds s u) (sym f) (holds_refl s)
    pick (before k) = absurd (omega arith)
    pick (after k) = absurd (omega arith)

pub gone_at : (l : List ℕ) {g : Tile} → Memᴰ g (map location_tile l) → (i : ℕ) × (i < length l) × (g ≡ tiles l i)
gone_at l m =
    let s = in_map location_tile l m in
    let k = in_get_d l 0 s.1 in
    (k.0, k.1, s.2 ∙ ap location_tile (sym k.2))

pub at_gone : (l : List ℕ) (i : ℕ) → i < length l → Memᴰ (tiles l i) (map location_tile l)
at_gone l i h = into_map location_tile l (get_d_in l i 0 h)

module _ (l : List ℕ) (runs : Runs l) (t : Tile) (o : OfMap t) (d : ℕ) where
  of_map : (i : ℕ) → i < length l → OfMap (tiles l i)
  of_map i h = (runs.each i h).of_map

  none_touch : ((i : ℕ) → i < length l → RunsApart (tiles l i) t) → left_of d (map location_tile l) t ≡ t ∷ []
  none_touch f =
      left_kept (map location_tile l) t d
      (λ g m h. let s = gone_at l m in not_held o (f s.0 s.1) (rw s.2 at h))
      (λ g m h. let s = gone_at l m in not_held (of_map s.0 s.1) (swapped (tiles l s.0) t (f s.0 s.1)) (rw s.2 at h))

  module _ (next : ℕ) (b : Behind l (start_of t) next) where
    pub past_all : next ≡ length l → left_of d (map location_tile l) t ≡ t ∷ []
    past_all e = none_touch (λ i h. inl (b.each i (omega arith)))

    module _ (h : next < length l) where
      pub before_next : end_of t ≤ start_of (tiles l next) → left_of d (map location_tile l) t ≡ t ∷ []
      before_next k = none_touch (λ i a. pick i a (dec_lt i next) (dec_lt next i))
        where
          pick : (i : ℕ) → i < length l → Dec (i < next) → Dec (next < i) → RunsApart (tiles l i) t
          pick i a (yes p) q = inl (b.each i p)
          pick i a (no p) (yes q) = inr (omega (arith, runs.rise next i q a, low_pos (tiles l next)))
          pick i a (no p) (no q) = let e : i ≡ next = omega arith in rw e (inr k)

      module _ (x : start_of (tiles l next) < end_of t) (y : start_of t < end_of (tiles l next)) where
        pub in_next : low_of t ≤ low_of (tiles l next) → left_of d (map location_tile l) t ≡ []
        in_next k = left_dropped (map location_tile l) t d (tiles l next) (at_gone l next h)
            (longer_holds (tiles l next) t (of_map next h) o x y k)

        module _ (k : low_of (tiles l next) < low_of t) where
          holds_next : Holds t (tiles l next)
          holds_next = longer_holds t (tiles l next) o (of_map next h) y x (omega arith)

          -- a tile that held t would meet the next one
          bare : (g : Tile) → Memᴰ g (map location_tile l) → Holds g t → ⊥
          bare g m a = let s = gone_at l m in pick s.0 s.1 (rw s.2 at a) (dec_lt s.0 next) (dec_lt next s.0)
            where
              pick : (i : ℕ) → i < length l → Holds (tiles l i) t → Dec (i < next) → Dec (next < i) → ⊥
              pick i a v (yes p) q = not_held (of_map next h) (inl (runs.rise i next p h)) (holds_trans v holds_next)
              pick i a v (no p) (yes q) = not_held (of_map next h) (inr (runs.rise next i q a)) (holds_trans v holds_next)
              pick i a v (no p) (no q) =
                  let e : i ≡ next = omega arith in
                  let r = held_run (subst (λ (n : ℕ). Holds (tiles l n) t) e v) o in
                  omega (arith, r.0, r.1, low_below (tiles l next), low_below t)

          pub over_next : left_of (suc d) (map location_tile l) t ≡ of_four (left_of d (map location_tile l)) t
          over_next = left_four (map location_tile l) t d (tiles l next) (at_gone l next h) holds_next bare

          pub not_deepest : t.z < max_zoom
          not_deepest = pick (dec_lt t.z (tiles l next).z)
            where
              pick : Dec (t.z < (tiles l next).z) → t.z < max_zoom
              pick (yes a) = omega (arith, (of_map next h).zoom)
              pick (no a) =
                  let e : t ≡ tiles l next = holds_level holds_next (omega arith) in
                  let f : low_of t ≡ low_of (tiles l next) = ap low_of e in
                  absurd (omega arith)
