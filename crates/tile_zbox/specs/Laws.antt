-- Laws of boxes: which are refused, that their numbers fit, and which tiles they hold.
use Rattle.std.specs.Prelude.{◌≡◌, refl, Result, Ok, Bool, true, false, ◌||◌, ℕ, ◌+◌, ◌-◌, ◌*◌, ◌^◌, ◌≤◌, ◌<◌, leb, ltb, eqb}
use Rattle.std.proofs.Common.{mul-le-mul, lt_of_le_of_lt, lt_of_lt_of_le, arith, pow_pos, pow-add, leb-true, leb-false, ltb-false, le-leb, lt-ltb, le-ltb, eqb-true, eq-eqb}
use Rattle.std.proofs.Math.Arith.{digits_lt}
use Rattle.std.proofs.lemmas.Bool.{lt-leb}
use Rattle.bits.specs.Tests.{and_parts}
use Rattle.constants.specs.Limits.{max_zoom}
use Rattle.errors.specs.Answer.{◌when◌, ◌else◌}
use Rattle.errors.specs.Cases.{check_number}
use Rattle.errors.specs.Laws.{check_fine}
use Rattle.errors.specs.declared.Refusal.{Refusal}
use Rattle.tile.specs.OnMap.{side_small}
use Rattle.tile.specs.declared.Tile.{Tile}
use Rattle.tile_zbox.specs.Box.{IsBox, wrong_run, wrong_edges, box_refusal, in_range, in_box, HoldsTile, zoomed_in, zoomed_by, columns_of}
use Rattle.tile_zbox.specs.Box.{rows_of, box_length}
use Rattle.tile_zbox.specs.declared.TileZBox.{TileZBox}

-- of two tests neither holds
pub neither_of_two : (a b : Bool) → (a || b) ≡ false → (a ≡ false) × (b ≡ false)
neither_of_two true b e = let z : ◌≡◌ {A = ℕ} 0 1 = cc in absurd (omega arith)
neither_of_two false b e = (refl, e)

-- a run of numbers below the end
pub run_fine : {min max end : ℕ} → min ≤ max → max < end → wrong_run min max end ≡ false
run_fine h k = rw (le-ltb _ _ h, lt-leb _ _ k)

pub fine_run : (min max end : ℕ) → wrong_run min max end ≡ false → (min ≤ max) × (max < end)
fine_run min max end e = let n = neither_of_two (ltb max min) (leb end max) e in (ltb-false _ _ n.0, leb-false _ _ n.1)

pub box_too_deep : (b : TileZBox) → max_zoom < b.zoom → box_refusal b ≡ 1
unfolding box_refusal
box_too_deep b h = rw (lt-ltb _ _ h)

pub edges_wrong : (b : TileZBox) → b.zoom ≤ max_zoom → wrong_edges b ≡ true → box_refusal b ≡ 10
unfolding box_refusal
edges_wrong b d e = rw (le-ltb _ _ d, e)

pub edges_fine : (b : TileZBox) → b.zoom ≤ max_zoom → wrong_edges b ≡ false → IsBox b
unfolding wrong_edges
edges_fine b d e =
    let n = neither_of_two (wrong_run b.minx b.maxx (2 ^ b.zoom)) (wrong_run b.miny b.maxy (2 ^ b.zoom)) e in
    let x = fine_run _ _ _ n.0 in
    let y = fine_run _ _ _ n.1 in
    record { zoom = d; columns = x.0; east = x.1; rows = y.0; south = y.1 }

pub fine_edges : {b : TileZBox} → IsBox b → wrong_edges b ≡ false
unfolding wrong_edges
fine_edges h = rw (run_fine h.columns h.east, run_fine h.rows h.south)

-- exactly the boxes are not refused
pub box_accepted : {b : TileZBox} → IsBox b → box_refusal b ≡ 0
unfolding box_refusal
box_accepted h = rw (le-ltb _ _ h.zoom, fine_edges h)

pub accepted_box : (b : TileZBox) → box_refusal b ≡ 0 → IsBox b
unfolding box_refusal
accepted_box b e = pick (ltb max_zoom b.zoom) refl (wrong_edges b) refl e
  where
    pick : (p : Bool) → ltb max_zoom b.zoom ≡ p → (q : Bool) → wrong_edges b ≡ q → (1 when p else 10 when q) ≡ 0 → IsBox b
    pick true f q g e = absurd (omega arith)
    pick false f true g e = absurd (omega arith)
    pick false f false g e = edges_fine b (ltb-false _ _ f) g

-- what `check` leaves where it refuses nothing
pub checked_box : {A : Type 0} {v : A} {r : Result A Refusal} (b : TileZBox) → r ≡ Ok v → check_number r ≡ box_refusal b → IsBox b
checked_box b p e = accepted_box b (check_fine p e)

-- how many columns and rows a box can have
pub columns_fit : {b : TileZBox} → IsBox b → columns_of b ≤ 2 ^ b.zoom
columns_fit h = omega (arith, h.columns, h.east)

pub rows_fit : {b : TileZBox} → IsBox b → rows_of b ≤ 2 ^ b.zoom
rows_fit h = omega (arith, h.rows, h.south)

-- no box has more tiles than its zoom, and so none has 2 ^ 61
pub length_within : {b : TileZBox} → IsBox b → box_length b ≤ 2 ^ b.zoom * 2 ^ b.zoom
unfolding box_length
length_within h = mul-le-mul (columns_fit h) (rows_fit h)

pub length_small : {b : TileZBox} → IsBox b → box_length b < 2 ^ 61
length_small {b} h = lt_of_le_of_lt (length_within h)
    (lt_of_le_of_lt (mul-le-mul (side_small h.zoom) (side_small h.zoom)) (omega arith))

-- d zooms deeper, a run of numbers below 2 ^ z is one below 2 ^ (z + d)
pub scaled_below : {n : ℕ} (z d : ℕ) → n < 2 ^ z → n * 2 ^ d + (2 ^ d - 1) < 2 ^ (z + d)
scaled_below z d h = rw (pow-add 2 z d) (digits_lt h (omega (arith, pow_pos d)))

pub scaled_small : {n : ℕ} (z d : ℕ) → n < 2 ^ z → z + d ≤ max_zoom → n * 2 ^ d + (2 ^ d - 1) < 2 ^ 30
scaled_small z d h l = lt_of_lt_of_le (scaled_below z d h) (side_small l)

pub zoomed_once : (b : TileZBox) → zoomed_by b 1 ≡ zoomed_in b
unfolding zoomed_by zoomed_in
zoomed_once b = refl

-- a tile is one of the box exactly where the test says so
pub holds_in : (b : TileZBox) (t : Tile) → HoldsTile b t → in_box b t.x t.y t.z ≡ true
unfolding in_box
holds_in b t h = rw (eq-eqb _ _ h.zoom, le-leb _ _ h.west, le-leb _ _ h.east, le-leb _ _ h.north, le-leb _ _ h.south)

pub in_holds : (b : TileZBox) (t : Tile) → in_box b t.x t.y t.z ≡ true → HoldsTile b t
unfolding in_box
in_holds b t e =
    let p = and_parts (eqb t.z b.zoom) _ e in
    let q = and_parts (in_range t.x b.minx b.maxx) (in_range t.y b.miny b.maxy) p.1 in
    let x = and_parts (leb b.minx t.x) (leb t.x b.maxx) q.0 in
    let y = and_parts (leb b.miny t.y) (leb t.y b.maxy) q.1 in
    record {
      zoom = eqb-true _ _ p.0;
      west = leb-true _ _ x.0;
      east = leb-true _ _ x.1;
      north = leb-true _ _ y.0;
      south =
          leb-true _ _ y.1;
    }
