-- What the Rust's `from_tiles` does, as a function on values, and that for tiles of zoom 0 to 29 it comes to the definition.
use Rattle.std.specs.Prelude.{◌≡◌, refl, Bool, true, false, cond, List, [], ◌∷◌, map, ℕ, ◌-◌, ◌^◌, ◌≤◌, min, max, ltb, eqb}
use Rattle.std.proofs.Common.{sym, ap, ◌∙◌, le_of_lt, arith, pow_mono, ltb-true, ltb-false}
use Rattle.std.proofs.Math.Nat.{min-eq_left, min-eq_right, max-eq_left, max-eq_right}
use Rattle.bits.specs.Tests.{all_of, and_parts}
use Rattle.ids.specs.Entry.{entry_tile}
use Rattle.tile.specs.declared.Tile.{Tile}
use Rattle.tile_zbox.specs.Box.{box_at}
use Rattle.tile_zbox.specs.declared.TileZBox.{TileZBox}
use Rattle.tile_zbox_around.specs.Around.{of_zoom, zoom_of_first, tiles_refusal, least, greatest, entry_column, entry_row, box_around}
use Rattle.tile_zbox_around.specs.Laws.{accepted_one_zoom}
use Rattle.tile_zbox_around.specs.Theorems.{from_tiles_gives_a_box}

-- `from_tiles`: the four numbers start at u32::MAX and 0, and each tile moves them; the first one's zoom is expected of all
pub record Found : Type 0 where
  pub fine : Bool
  pub box : TileZBox

abbrev pub moved : TileZBox → Tile → TileZBox
moved b t =
    box_at b.zoom (cond (ltb t.x b.minx) t.x b.minx) (cond (ltb b.maxx t.x) t.x b.maxx)
    (cond (ltb t.y b.miny) t.y b.miny) (cond (ltb b.maxy t.y) t.y b.maxy)

unfoldable pub rust_walk : TileZBox → List Tile → Found
rust_walk b [] = record { fine = true; box = b }
rust_walk b (t ∷ ts) = cond (eqb t.z b.zoom) (rust_walk (moved b t) ts) (record { fine = false; box = b })

unfoldable pub rust_from_tiles : List Tile → Found
rust_from_tiles [] = record { fine = false; box = box_at 0 0 0 0 0 }
rust_from_tiles (t ∷ ts) = rust_walk (box_at t.z (2 ^ 32 - 1) 0 (2 ^ 32 - 1) 0) (t ∷ ts)

lower_is : (a b : ℕ) → cond (ltb a b) a b ≡ min a b
lower_is a b = pick (ltb a b) refl
  where
    pick : (t : Bool) → ltb a b ≡ t → cond t a b ≡ min a b
    pick true e = sym (min-eq_left (le_of_lt (ltb-true a b e)))
    pick false e = sym (min-eq_right (ltb-false a b e))

higher_is : (a b : ℕ) → cond (ltb b a) a b ≡ max a b
higher_is a b = pick (ltb b a) refl
  where
    pick : (t : Bool) → ltb b a ≡ t → cond t a b ≡ max a b
    pick true e = sym (max-eq_left (le_of_lt (ltb-true b a e)))
    pick false e = sym (max-eq_right (ltb-false b a e))

moved_is : (b : TileZBox) (t : Tile)
    → moved b t ≡ box_at b.zoom (min t.x b.minx) (max t.x b.maxx) (min t.y b.miny) (max t.y b.maxy)
moved_is b t = rw (lower_is t.x b.minx, higher_is t.x b.maxx, lower_is t.y b.miny, higher_is t.y b.maxy)

-- the four numbers and those of a list of at least one tile
abbrev moved_by : TileZBox → List ℕ → TileZBox
moved_by b l = box_at b.zoom (min b.minx (least (map entry_column l))) (max b.maxx (greatest (map entry_column l)))
    (min b.miny (least (map entry_row l))) (max b.maxy (greatest (map entry_row l)))

walk_fine : (b : TileZBox) (t : Tile) (ts : List Tile) → eqb t.z b.zoom ≡ true → rust_walk b (t ∷ ts) ≡ rust_walk (moved b t) ts
unfolding rust_walk
walk_fine b t ts e = rw e

walk_none : (b : TileZBox) → rust_walk b [] ≡ record { fine = true; box = b }
unfolding rust_walk
walk_none b = refl

moved_one : (b : TileZBox) (n : ℕ) → moved b (entry_tile n) ≡ moved_by b (n ∷ [])
unfolding least greatest
moved_one b n =
    let p : min (entry_column n) b.minx ≡ min b.minx (entry_column n) = omega arith in
    let q : max (entry_column n) b.maxx ≡ max b.maxx (max (entry_column n) 0) = omega arith in
    let r : min (entry_row n) b.miny ≡ min b.miny (entry_row n) = omega arith in
    let s : max (entry_row n) b.maxy ≡ max b.maxy (max (entry_row n) 0) = omega arith in
    moved_is b (entry_tile n) ∙ rw (p, q, r, s)

min_turned : (a b c : ℕ) → min (min a b) c ≡ min b (min a c)
min_turned a b c = omega arith

max_turned : (a b c : ℕ) → max (max a b) c ≡ max b (max a c)
max_turned a b c = omega arith

moved_more : (b : TileZBox) (n m : ℕ) (ms : List ℕ) → moved_by (moved b (entry_tile n)) (m ∷ ms) ≡ moved_by b (n ∷ (m ∷ ms))
unfolding least greatest
moved_more b n m ms =
    ap (λ (v : TileZBox). moved_by v (m ∷ ms)) (moved_is b (entry_tile n))
    ∙ rw (
      min_turned (entry_column n) b.minx,
      max_turned (entry_column n) b.maxx,
      min_turned (entry_row n) b.miny,
      max_turned (entry_row n) b.maxy,
    )

walked : (n : ℕ) (ns : List ℕ) (b : TileZBox) → all_of (of_zoom b.zoom) (n ∷ ns) ≡ true
    → rust_walk b (map entry_tile (n ∷ ns)) ≡ record { fine = true; box = moved_by b (n ∷ ns) }
unfolding all_of
walked n [] b e =
    let h = and_parts (of_zoom b.zoom n) true e in
    walk_fine b (entry_tile n) [] h.0
    ∙ (walk_none (moved b (entry_tile n)) ∙ ap (λ (v : TileZBox). record { fine = true; box = v }) (moved_one b n))
walked n (m ∷ ms) b e =
    let h = and_parts (of_zoom b.zoom n) (all_of (of_zoom b.zoom) (m ∷ ms)) e in
    walk_fine b (entry_tile n) (map entry_tile (m ∷ ms)) h.0
    ∙ (walked m ms (moved b (entry_tile n)) h.1 ∙ ap (λ (v : TileZBox). record { fine = true; box = v }) (moved_more b n m ms))

-- of a list of tiles of zoom 0 to 29 that is not refused it is the same box
pub rust_from_tiles_lem : (l : List ℕ) → tiles_refusal l ≡ 0 → zoom_of_first l ≤ 29
    → rust_from_tiles (map entry_tile l) ≡ record { fine = true; box = box_around l }
unfolding rust_from_tiles box_around
rust_from_tiles_lem [] e d = let s = (accepted_one_zoom [] e).some in absurd (omega arith)
rust_from_tiles_lem (n ∷ ns) e d =
    let k = accepted_one_zoom (n ∷ ns) e in
    let i = from_tiles_gives_a_box (n ∷ ns) e in
    let w = pow_mono {j = 29} d in
    let p : min (2 ^ 32 - 1) (least (map entry_column (n ∷ ns))) ≡ least (map entry_column (n ∷ ns)) = omega (arith, i.columns, i.east) in
    let r : min (2 ^ 32 - 1) (least (map entry_row (n ∷ ns))) ≡ least (map entry_row (n ∷ ns)) = omega (arith, i.rows, i.south) in
    let q : max 0 (greatest (map entry_column (n ∷ ns))) ≡ greatest (map entry_column (n ∷ ns)) = omega arith in
    let s : max 0 (greatest (map entry_row (n ∷ ns))) ≡ greatest (map entry_row (n ∷ ns)) = omega arith in
    walked n ns (box_at (entry_tile n).z (2 ^ 32 - 1) 0 (2 ^ 32 - 1) 0) k.zooms ∙ rw (p, q, r, s)
