-- The Rust's iterator over a box, as a function on values in 32 bits, that over a box of zoom 0 to 29 it gives the tiles of our
-- cursor, and its hint.
use Rattle.std.specs.Prelude.{◌≡◌, refl, Bool, true, false, cond, List, [], ◌∷◌, ℕ, zero, suc, ◌+◌, ◌-◌, ◌*◌, ◌^◌, ◌≤◌, ◌<◌, ltb, eqb}
use Rattle.std.proofs.Common.{sym, ap, ◌∙◌, subst, mul_comm, le_of_lt, mod-eq_of_lt, suc-mul, le_of_mul-le-mul_right, lt_of_mul-lt-mul_right, add-one, arith, ltb-true, ltb-false, lt-ltb, le-ltb}
use Rattle.std.proofs.Math.Decide.{dec_lt}
use Rattle.std.proofs.Math.Arith.{digits_lt}
use Rattle.errors.specs.Laws.{else_zero}
use Rattle.tile.specs.OnMap.{tile_at}
use Rattle.tile.specs.declared.Tile.{Tile}
use Rattle.tile_zbox.specs.Box.{columns_of, rows_of, box_length}
use Rattle.tile_zbox.specs.Laws.{accepted_box}
use Rattle.tile_zbox.specs.Rust.{u32, Compared, boxes_compared, edges_small, rust_length, rust_length_lem}
use Rattle.tile_zbox.specs.declared.TileZBox.{TileZBox}
use Rattle.tile_zbox_iter.specs.Cursor.{kth_tile, next_refusal, size_hint_of}
use Rattle.tile_zbox_iter.specs.Tiles.{box_tiles, numbered_from, kth_at, numbered_all}
use Rattle.tile_zbox_iter.specs.declared.TileZBoxIterator.{TileZBoxIterator}

-- the iterator's state: the column and the row that come next; the column may be one past the last, and the next call then moves the row on
pub record RustState : Type 0 where
  pub column : ℕ
  pub row : ℕ

-- `next`: how many tiles it gives, that tile, and the state after it
pub record RustNext : Type 0 where
  pub count : ℕ
  pub tile : Tile
  pub state : RustState

abbrev pub state_at : ℕ → ℕ → RustState
state_at x y = record { column = x; row = y }

abbrev pub rust_turned : TileZBox → RustState → RustState
rust_turned b s = cond (ltb b.maxx s.column) (state_at b.minx (u32 (s.row + 1))) s

abbrev pub rust_taken : TileZBox → RustState → RustNext
rust_taken b s =
    cond (ltb b.maxy s.row) (record { count = 0; tile = tile_at 0 0 0; state = s })
    (record { count = 1; tile = tile_at s.column s.row b.zoom; state = state_at (u32 (s.column + 1)) s.row })

abbrev pub rust_next : TileZBox → RustState → RustNext
rust_next b s = rust_taken b (rust_turned b s)

-- the state after k tiles
pub record After (b : TileZBox) (k : ℕ) (s : RustState) : Type 0 where
  pub west : b.minx ≤ s.column
  pub east : s.column ≤ b.maxx + 1
  pub north : b.miny ≤ s.row
  pub place : (s.row - b.miny) * columns_of b + (s.column - b.minx) ≡ k

pub rust_starts : (b : TileZBox) → Compared b → After b 0 (state_at b.minx b.miny)
rust_starts b i =
    let e : b.miny - b.miny ≡ 0 = omega arith in
    record { west = omega arith; east = omega (arith, i.columns); north = omega arith; place = rw e (omega arith) }

-- until all tiles were given, column and row have room for one more
pub rust_fits : (b : TileZBox) (k : ℕ) (s : RustState) → Compared b → After b k s → k ≤ box_length b
    → (s.column ≤ 2 ^ 29) × (s.row ≤ 2 ^ 29)
unfolding box_length
rust_fits b k s i a h =
    let w = edges_small i in
    let p : (s.row - b.miny) * columns_of b ≤ rows_of b * columns_of b = rw (mul_comm (rows_of b) (columns_of b)) (omega (arith, a.place)) in
    let o : 0 < columns_of b = omega arith in
    let r = le_of_mul-le-mul_right p o in
    (omega (arith, a.east), omega (arith, a.north, i.rows))

-- the row's end, turned or not, is the same place; and then the column is one of the box
row_turned : (b : TileZBox) (k : ℕ) (s : RustState) → Compared b → After b k s → b.maxx < s.column
    → After b k (state_at b.minx (s.row + 1))
row_turned b k s i a h =
    let n = a.north in
    let w : s.column - b.minx ≡ columns_of b = omega (arith, a.west, a.east, i.columns) in
    let r : s.row + 1 - b.miny ≡ suc (s.row - b.miny) = omega arith in
    let z : b.minx - b.minx ≡ 0 = omega arith in
    let p : (s.row - b.miny) * columns_of b + columns_of b ≡ k = rw w at a.place in
    record {
      west = omega arith;
      east = omega (arith, i.columns);
      north = omega arith;
      place =
          rw (r, z, suc-mul (s.row - b.miny) (columns_of b)) (omega arith);
    }

turned_after : (b : TileZBox) (k : ℕ) (s : RustState) → Compared b → After b k s → k ≤ box_length b
    → After b k (rust_turned b s) × ((rust_turned b s).column ≤ b.maxx)
turned_after b k s i a l = let h : s.row + 1 < 2 ^ 32 = omega (arith, rust_fits b k s i a l) in
    rw (mod-eq_of_lt h) (pick (ltb b.maxx s.column) refl)
  where
    pick : (t : Bool) → ltb b.maxx s.column ≡ t
        → After b k (cond t (state_at b.minx (s.row + 1)) s) × ((cond t (state_at b.minx (s.row + 1)) s).column ≤ b.maxx)
    pick true e = (row_turned b k s i a (ltb-true _ _ e), i.columns)
    pick false e = (a, ltb-false _ _ e)

-- the row is one of the box exactly before all tiles were given
row_inside : (b : TileZBox) (k : ℕ) (s : RustState) → Compared b → After b k s → k < box_length b → s.row ≤ b.maxy
unfolding box_length
row_inside b k s i a h =
    let p = a.place in
    let q : (s.row - b.miny) * columns_of b < rows_of b * columns_of b = rw (mul_comm (rows_of b) (columns_of b)) (omega arith) in
    let l = lt_of_mul-lt-mul_right (columns_of b) q in
    omega (arith, i.rows, a.north)

row_past : (b : TileZBox) (s : RustState) → Compared b → After b (box_length b) s → s.column ≤ b.maxx → b.maxy < s.row
unfolding box_length
row_past b s i a l = pick (dec_lt b.maxy s.row)
  where
    pick : Dec (b.maxy < s.row) → b.maxy < s.row
    pick (yes h) = h
    pick (no h) =
        let w : s.column - b.minx < columns_of b = omega (arith, a.west) in
        let r : s.row - b.miny < rows_of b = omega (arith, a.north) in
        absurd (omega (arith, digits_lt r w, a.place, mul_comm (rows_of b) (columns_of b)))

step_inside : (b : TileZBox) (k : ℕ) (s : RustState) → Compared b → After b k s → s.column ≤ b.maxx → s.row ≤ b.maxy
    → ((rust_taken b s).count ≡ 1) × ((rust_taken b s).tile ≡ kth_tile b k) × After b (k + 1) (rust_taken b s).state
step_inside b k s i a l r =
    let h : s.column + 1 < 2 ^ 32 = omega (arith, edges_small i) in
    let x : b.minx + (s.column - b.minx) ≡ s.column = omega (arith, a.west) in
    let y : b.miny + (s.row - b.miny) ≡ s.row = omega (arith, a.north) in
    let t : tile_at s.column s.row b.zoom ≡ kth_tile b k =
    sym (ap (kth_tile b) (sym a.place) ∙ (kth_at b (s.row - b.miny) (s.column - b.minx) (omega (arith, a.west)) ∙ rw (x, y))) in
    let p : s.column + 1 - b.minx ≡ s.column - b.minx + 1 = omega (arith, a.west) in
    rw (le-ltb _ _ r, mod-eq_of_lt h)
    (refl, t, record { west = omega (arith, a.west); east = omega arith; north = a.north; place = rw p (omega (arith, a.place)) })

step_past : (b : TileZBox) (s : RustState) → b.maxy < s.row → ((rust_taken b s).count ≡ 0) × ((rust_taken b s).state ≡ s)
step_past b s h = rw (lt-ltb _ _ h) (refl, refl)

-- after k tiles, fewer than the box has, the Rust gives tile number k and is after k + 1
pub rust_gives : (b : TileZBox) (k : ℕ) (s : RustState) → Compared b → After b k s → k < box_length b
    → ((rust_next b s).count ≡ 1) × ((rust_next b s).tile ≡ kth_tile b k) × After b (k + 1) (rust_next b s).state
rust_gives b k s i a h = let t = turned_after b k s i a (le_of_lt h) in
    step_inside b k (rust_turned b s) i t.0 t.1 (row_inside b k (rust_turned b s) i t.0 h)

-- after all of them it gives none, and is still after all of them
pub rust_ends : (b : TileZBox) (s : RustState) → Compared b → After b (box_length b) s
    → ((rust_next b s).count ≡ 0) × After b (box_length b) (rust_next b s).state
rust_ends b s i a =
    let t = turned_after b (box_length b) s i a (omega arith) in
    let p = step_past b (rust_turned b s) (row_past b (rust_turned b s) i t.0 t.1) in
    (p.0, subst (After b (box_length b)) (sym p.1) t.0)

-- a box's iterator is called until it gives none, here with a bound on the calls
unfoldable pub rust_drained : ℕ → TileZBox → RustState → List Tile
rust_drained zero b s = []
rust_drained (suc calls) b s = cond (eqb (rust_next b s).count 0) [] ((rust_next b s).tile ∷ rust_drained calls b (rust_next b s).state)

drained : (b : TileZBox) (calls n k : ℕ) (s : RustState) → Compared b → After b k s → k + n ≡ box_length b → n < calls
    → rust_drained calls b s ≡ numbered_from b k n
unfolding rust_drained numbered_from
drained b zero n k s i a e h = absurd (omega arith)
drained b (suc calls) zero k s i a e h =
    let f : k ≡ box_length b = omega arith in
    rw (rust_ends b s i (rw f at a)).0
drained b (suc calls) (suc n) k s i a e h =
    let g = rust_gives b k s i a (omega arith) in
    let o = drained b calls n (suc k) (rust_next b s).state i (rw (add-one k) at g.2) (omega arith) (omega arith) in
    rw (g.0, g.1, o)

-- one box of zoom 0 to 29: its iterator ends by itself, however many calls there may be
pub rust_drained_lem : (b : TileZBox) (calls : ℕ) → Compared b → box_length b < calls
    → rust_drained calls b (state_at b.minx b.miny) ≡ box_tiles b
rust_drained_lem b calls i h =
    drained b calls (box_length b) 0 (state_at b.minx b.miny) i (rust_starts b i) (omega arith) h ∙ numbered_all b

-- `size_hint` multiplies in 32 bits, as `length` does, and asks nothing of where the iterator stands: its two numbers are the same
abbrev pub rust_size_hint : TileZBox → ℕ
rust_size_hint b = rust_length b

pub rust_size_hint_lem : (c : TileZBoxIterator) → next_refusal c ≡ 0 → c.range.zoom ≤ 29 → box_length c.range < 2 ^ 32
    → size_hint_of c ≡ record { number = 0; value = rust_size_hint c.range }
rust_size_hint_lem c e z h = rw (e, rust_length_lem c.range (boxes_compared (accepted_box c.range (else_zero _ _ e).0) z) h)
