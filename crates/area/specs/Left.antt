-- What is left of one settled list when another is taken away: it covers the ground that is only the first one's, no parent of a tile
-- is full, and no tile is left twice.
use Rattle.std.specs.Prelude.{◌≡◌, refl, Bool, true, false, not, ◌&&◌, ℕ, ◌-◌, ◌^◌, ◌≤◌, ◌<◌}
use Rattle.std.proofs.Common.{sym, ap, ◌∙◌, inl, inr, true≢false, arith}
use mathlib.Core.List.Memᴰ
use mathlib.Core.List.{List, map, Memᴰ}
use Rattle.area.specs.Pairs.{full_more}
use Rattle.bits.specs.Tests.{and_parts, not_true, in_map, into_map}
use Rattle.constants.specs.Limits.{max_zoom}
use Rattle.difference.specs.Ground.{Needed, left_covers, left_needed, left_valid, in_left_all, left_all_in}
use Rattle.difference.specs.Left.{left_of, without}
use Rattle.ground.proofs.Cells.{first_cell, cell_on_map, full_cells}
use Rattle.ground.specs.Largest.{Full, Cover}
use Rattle.quadtree.specs.Numbers.{location_of, location_tile}
use Rattle.quadtree.specs.OneTile.{location_tile_lem}
use Rattle.tile.specs.OnMap.{tile_at}
use Rattle.tile.specs.declared.Tile.{Tile}
use Rattle.tile_list.specs.Laws.{named_by, names}
use Rattle.quadtree.specs.Locations.{map_tile}
use Rattle.tile_list.specs.List.{named}
use Rattle.tile_set.specs.Holds.{Holds, holds_trans, Valid}
use Rattle.tile_set.specs.Merged.{is_false}
use Rattle.tile_set.specs.Set.{parent_tile}

module _ (kept gone : List ℕ) (G H : ℕ → ℕ → Bool) (C : Cover max_zoom G (λ t. named location_tile kept t ≡ true))
    (E : Cover max_zoom H (λ t. named location_tile gone t ≡ true)) where
  abbrev taken : List Tile
  taken = map location_tile gone

  abbrev pub LeftTile : Tile → Type 0
  LeftTile t = named location_tile (map location_of (without kept gone)) t ≡ true

  abbrev only : ℕ → ℕ → Bool
  only X Y = G X Y && not (H X Y)

  of_taken : (g : Tile) → Memᴰ g taken → named location_tile gone g ≡ true
  of_taken g m = let s = in_map location_tile gone m in names location_tile gone s.0 g s.1 (sym s.2)

  in_taken : (g : Tile) → named location_tile gone g ≡ true → Memᴰ g taken
  in_taken g e = let s = named_by location_tile gone g e in Memᴰ.cast (sym s.2) (into_map location_tile gone s.1)

  deep : (g : Tile) → Memᴰ g taken → g.z ≤ max_zoom
  deep g m = (E.of_map g (of_taken g m)).zoom

  -- where a tile that is left comes from
  pub record From (t : Tile) : Type 0 where
    pub whole : Tile
    pub in_kept : named location_tile kept whole ≡ true
    pub valid : Valid max_zoom whole
    pub part : Memᴰ t (left_of (max_zoom - whole.z) taken whole)

  from_list : (t : Tile) → Memᴰ t (without kept gone) → From t
  from_list t m =
      let r = in_left_all max_zoom taken (map location_tile kept) m in
      let s = in_map location_tile kept r.1 in
      let e = names location_tile kept s.0 r.0 s.1 (sym s.2) in
      record { whole = r.0; in_kept = e; valid = C.of_map r.0 e; part = r.2 }

  left_of_map : (t : Tile) → Memᴰ t (without kept gone) → Valid max_zoom t
  left_of_map t m = let f = from_list t m in left_valid max_zoom taken deep f.whole f.valid t f.part

  in_list : (t : Tile) → LeftTile t → Memᴰ t (without kept gone)
  in_list t e =
      let s = named_by location_tile (map location_of (without kept gone)) t e in
      let u = in_map location_of (without kept gone) s.1 in
      let v = left_of_map u.0 u.1 in
      Memᴰ.cast (sym (sym (location_tile_lem u.0 (map_tile u.0 v)) ∙ (ap location_tile (sym u.2) ∙ s.2))) u.1

  list_in : (t : Tile) → Memᴰ t (without kept gone) → LeftTile t
  list_in t m =
      names location_tile (map location_of (without kept gone)) (location_of t) t (into_map location_of (without kept gone) m)
      (location_tile_lem t (map_tile t (left_of_map t m)))

  -- no tile that is taken away holds the cell, exactly where the cell is not in its ground
  spared : (X Y : ℕ) → X < 2 ^ max_zoom → Y < 2 ^ max_zoom → H X Y ≡ false → (g : Tile) → Memᴰ g taken → Holds g (tile_at X Y max_zoom) → ⊥
  spared X Y a b e g m h = true≢false (sym (E.covered X Y g (of_taken g m) h) ∙ e)

  not_in : (X Y : ℕ) → X < 2 ^ max_zoom → Y < 2 ^ max_zoom → ((g : Tile) → Memᴰ g taken → Holds g (tile_at X Y max_zoom) → ⊥)
      → H X Y ≡ false
  not_in X Y a b none = is_false (H X Y) (λ e. let r = E.covers X Y a b e in none r.0 (in_taken r.0 r.1) r.2)

  pub difference_covers : Cover max_zoom only LeftTile
  difference_covers = record { of_map = λ t e. left_of_map t (in_list t e); covers = covers; covered = covered }
    where
      covers : (X Y : ℕ) → X < 2 ^ max_zoom → Y < 2 ^ max_zoom → only X Y ≡ true → (r : Tile) × LeftTile r × Holds r (tile_at X Y max_zoom)
      covers X Y a b e =
          let p = and_parts (G X Y) (not (H X Y)) e in
          let w = C.covers X Y a b p.0 in
          let v = C.of_map w.0 w.1 in
          let r = (left_covers max_zoom taken deep (tile_at X Y max_zoom) refl w.0 v.zoom).1
          (w.2, spared X Y a b (not_true (H X Y) p.1)) in
          let s = named_by location_tile kept w.0 w.1 in (
            r.0,
            list_in r.0
                (left_all_in max_zoom taken (map location_tile kept) (Memᴰ.cast (sym s.2) (into_map location_tile kept s.1)) r.1),
            r.2,
          )

      covered : (X Y : ℕ) (t : Tile) → LeftTile t → Holds t (tile_at X Y max_zoom) → only X Y ≡ true
      covered X Y t e h =
          let f = from_list t (in_list t e) in
          let r = (left_covers max_zoom taken deep (tile_at X Y max_zoom) refl f.whole f.valid.zoom).0 (t, f.part, h) in
          let b = cell_on_map f.valid r.0 in
          rw (C.covered X Y f.whole f.in_kept r.0, not_in X Y b.0 b.1 r.1)

  -- the parent of a tile that is left is not full: it is no larger part of the first list's ground, or it holds a tile that is taken away
  pub difference_tops : ((t : Tile) → named location_tile kept t ≡ true → 0 < t.z → Full max_zoom G (parent_tile t) → ⊥)
      → (t : Tile) → LeftTile t → 0 < t.z → Full max_zoom only (parent_tile t) → ⊥
  difference_tops tops t e l full = pick (left_needed max_zoom taken deep f.whole f.valid.zoom t f.part)
    where
      f : From t
      f = from_list t (in_list t e)

      low : (parent_tile t).z ≤ max_zoom
      low = let v = difference_covers.of_map t e in omega (arith, v.zoom)

      pick : Needed max_zoom taken deep f.whole t → ⊥
      pick (inl s) = tops t (rw s f.in_kept) l
          (full_more max_zoom only G (parent_tile t) low (λ X Y k. (and_parts (G X Y) (not (H X Y)) k).0) full)
      pick (inr (h, (g, m, k))) =
          let c = first_cell g (deep g m) in
          let o = full_cells max_zoom only (parent_tile t) full (holds_trans k c) in
          true≢false (sym (E.covered _ _ g (of_taken g m) c) ∙ not_true _ (and_parts (G _ _) _ o).1)
