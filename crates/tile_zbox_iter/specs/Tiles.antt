-- The tiles of a box: their list row by row, their numbers in it, and what a cursor gives call by call.
use Rattle.std.specs.Prelude.{◌≡◌, refl, ◌⊎◌, ℕ, zero, suc, ◌+◌, ◌-◌, ◌*◌, ◌/◌, ◌%◌, ◌≤◌, ◌<◌, length, get_or}
use Rattle.std.proofs.Common.{sym, ap, ap₂, ◌∙◌, inl, inr, mul_comm, mod-lt, div-lt_iff_lt-mul, div-add-mod', suc-mul, suc-add, add-one, arith, lt-ltb, le-ltb}
use mathlib.Core.List.Memᴰ
use mathlib.Core.List.{List, [], ◌∷◌, ◌++◌, Memᴰ}
use Rattle.std.proofs.Math.Arith.{digits_lt, digits_div, digits_mod}
use Rattle.tile.specs.Cursor.{step_given, step_ended}
use Rattle.tile.specs.OnMap.{tile_at, no_tile_of}
use Rattle.tile.specs.Order.{tile_ext}
use Rattle.tile.specs.declared.Tile.{Tile}
use Rattle.tile_zbox.specs.Box.{IsBox, HoldsTile, columns_of, rows_of, box_length}
use Rattle.tile_zbox.specs.Laws.{box_accepted}
use Rattle.tile_zbox.specs.declared.TileZBox.{TileZBox}
use Rattle.tile_zbox_iter.specs.Cursor.{cursor_at, kth_tile, next_of}
use Rattle.tile_zbox_iter.specs.declared.TileZBoxIterator.{TileZBoxIterator}

-- the n tiles of a row from column x on
unfoldable pub row_from : ℕ → ℕ → ℕ → ℕ → List Tile
row_from z y x zero = []
row_from z y x (suc n) = tile_at x y z ∷ row_from z y (suc x) n

-- the n rows of a box from row y on
unfoldable pub rows_from : TileZBox → ℕ → ℕ → List Tile
rows_from b y zero = []
rows_from b y (suc n) = row_from b.zoom y b.minx (columns_of b) ++ rows_from b (suc y) n

-- the box's tiles, row by row
abbrev pub box_tiles : TileZBox → List Tile
box_tiles b = rows_from b b.miny (rows_of b)

-- the tiles with the n numbers from k on
unfoldable pub numbered_from : TileZBox → ℕ → ℕ → List Tile
numbered_from b k zero = []
numbered_from b k (suc n) = kth_tile b k ∷ numbered_from b (suc k) n

-- the tile's number that stands in row r and column j of the box
pub kth_at : (b : TileZBox) (r j : ℕ) → j < columns_of b → kth_tile b (r * columns_of b + j) ≡ tile_at (b.minx + j) (b.miny + r) b.zoom
unfolding kth_tile
kth_at b r j h = rw (digits_mod r h, digits_div r h)

numbered_append : (b : TileZBox) (k m n : ℕ) → numbered_from b k (m + n) ≡ numbered_from b k m ++ numbered_from b (k + m) n
unfolding numbered_from
numbered_append b k zero n = let e : k + 0 ≡ k = omega arith in let f : 0 + n ≡ n = omega arith in rw (e, f)
numbered_append b k (suc m) n =
    let e : suc k + m ≡ k + suc m = omega arith in
    rw (suc-add m n, ← e) (ap (λ (l : List Tile). kth_tile b k ∷ l) (numbered_append b (suc k) m n))

numbered_row : (b : TileZBox) (r j n : ℕ) → j + n ≤ columns_of b
    → numbered_from b (r * columns_of b + j) n ≡ row_from b.zoom (b.miny + r) (b.minx + j) n
unfolding numbered_from row_from
numbered_row b r j zero h = refl
numbered_row b r j (suc n) h =
    let l : j < columns_of b = omega arith in
    let e : suc (r * columns_of b + j) ≡ r * columns_of b + suc j = omega arith in
    let f : suc (b.minx + j) ≡ b.minx + suc j = omega arith in
    rw (kth_at b r j l, e, f)
    (ap (λ (t : List Tile). tile_at (b.minx + j) (b.miny + r) b.zoom ∷ t) (numbered_row b r (suc j) n (omega arith)))

numbered_rows : (b : TileZBox) (r n : ℕ) → numbered_from b (r * columns_of b) (n * columns_of b) ≡ rows_from b (b.miny + r) n
unfolding numbered_from rows_from
numbered_rows b r zero = let e : 0 * columns_of b ≡ 0 = omega arith in rw e
numbered_rows b r (suc n) =
    let c = columns_of b in
    let m : suc n * c ≡ c + n * c = omega (arith, suc-mul n c) in
    let p : r * c + c ≡ suc r * c = omega (arith, suc-mul r c) in
    let q : r * c ≡ r * c + 0 = omega arith in
    let s : suc (b.miny + r) ≡ b.miny + suc r = omega arith in
    let x : b.minx ≡ b.minx + 0 = omega arith in
    let row : numbered_from b (r * c) c ≡ row_from b.zoom (b.miny + r) b.minx c =
    ap (λ (k : ℕ). numbered_from b k c) q
    ∙ (numbered_row b r 0 c (omega arith) ∙ ap (λ (k : ℕ). row_from b.zoom (b.miny + r) k c) (sym x)) in
    ap (numbered_from b (r * c)) m
    ∙ (numbered_append b (r * c) c (n * c)
    ∙ ap₂ ◌++◌ row (ap (λ (k : ℕ). numbered_from b k (n * c)) p
    ∙ (numbered_rows b (suc r) n ∙ ap (λ (y : ℕ). rows_from b y n) (sym s))))

pub numbered_all : (b : TileZBox) → numbered_from b 0 (box_length b) ≡ box_tiles b
unfolding box_length
numbered_all b =
    let z : 0 * columns_of b ≡ 0 = omega arith in
    let y : b.miny + 0 ≡ b.miny = omega arith in
    ap (numbered_from b 0) (mul_comm (columns_of b) (rows_of b))
    ∙ (ap (λ (k : ℕ). numbered_from b k (rows_of b * columns_of b)) (sym z)
    ∙ (numbered_rows b 0 (rows_of b) ∙ ap (λ (k : ℕ). rows_from b k (rows_of b)) y))

pub numbered_length : (b : TileZBox) (k n : ℕ) → length (numbered_from b k n) ≡ n
unfolding numbered_from
numbered_length b k zero = refl
numbered_length b k (suc n) = ap suc (numbered_length b (suc k) n)

-- a box's tile number k stands at place k of its list
numbered_at : (b : TileZBox) (k n i : ℕ) → i < n → get_or (numbered_from b k n) i no_tile_of ≡ kth_tile b (k + i)
unfolding numbered_from
numbered_at b k zero i h = absurd (omega arith)
numbered_at b k (suc n) zero h = let e : k + 0 ≡ k = omega arith in rw e
numbered_at b k (suc n) (suc i) h = let e : suc k + i ≡ k + suc i = omega arith in
    numbered_at b (suc k) n i (omega arith) ∙ ap (kth_tile b) e

pub tile_of_box_at : (b : TileZBox) (k : ℕ) → k < box_length b → get_or (box_tiles b) k no_tile_of ≡ kth_tile b k
tile_of_box_at b k h =
    let e : 0 + k ≡ k = omega arith in
    ap (λ (ts : List Tile). get_or ts k no_tile_of) (sym (numbered_all b)) ∙ (numbered_at b 0 (box_length b) k h ∙ ap (kth_tile b) e)

-- a tile of the list is one of the numbers, and each number's tile is in the list
pub member_number : (b : TileZBox) (t : Tile) (k n : ℕ) → Memᴰ t (numbered_from b k n) → (j : ℕ) × (j < k + n) × (kth_tile b j ≡ t)
unfolding numbered_from
member_number b t k zero m = absurd (Memᴰ.not-nil m)
member_number b t k (suc n) m = pick (Memᴰ.cases_cons m) (member_number b t (suc k) n)
  where
    pick : (t ≡ kth_tile b k) ⊎ Memᴰ t (numbered_from b (suc k) n)
        → (Memᴰ t (numbered_from b (suc k) n) → (j : ℕ) × (j < suc k + n) × (kth_tile b j ≡ t))
        → (j : ℕ) × (j < k + suc n) × (kth_tile b j ≡ t)
    pick (inl e) f = (k, omega arith, sym e)
    pick (inr i) f = let r = f i in let h = r.1 in (r.0, omega arith, r.2)

pub number_member : (b : TileZBox) (k n j : ℕ) → j < n → Memᴰ (kth_tile b (k + j)) (numbered_from b k n)
unfolding numbered_from
number_member b k zero j h = absurd (omega arith)
number_member b k (suc n) zero h = let e : k + 0 ≡ k = omega arith in rw e (Memᴰ.head refl)
number_member b k (suc n) (suc j) h = let e : k + suc j ≡ suc k + j = omega arith in
    rw e (Memᴰ.tail (number_member b (suc k) n j (omega arith)))

-- the column and the row of a tile's number are within the box
pub column_below : (b : TileZBox) (k : ℕ) → k % columns_of b < columns_of b
column_below b k = mod-lt k (omega arith)

pub row_below : (b : TileZBox) (k : ℕ) → k < box_length b → k / columns_of b < rows_of b
unfolding box_length
row_below b k h = let p : 0 < columns_of b = omega arith in (div-lt_iff_lt-mul p).1 (rw (mul_comm (rows_of b) (columns_of b)) h)

-- a number's tile is in the box
pub kth_holds : (b : TileZBox) (k : ℕ) → IsBox b → k < box_length b → HoldsTile b (kth_tile b k)
unfolding kth_tile
kth_holds b k i h =
    let x = column_below b k in
    let y = row_below b k h in
    record { zoom = refl; west = omega arith; east = omega (arith, i.columns); north = omega arith; south = omega (arith, i.rows) }

-- the number of a tile of the box
abbrev pub index_of : TileZBox → Tile → ℕ
index_of b t = (t.y - b.miny) * columns_of b + (t.x - b.minx)

pub index_below : (b : TileZBox) (t : Tile) → HoldsTile b t → index_of b t < box_length b
unfolding box_length
index_below b t h = rw (mul_comm (columns_of b) (rows_of b)) (digits_lt (omega (arith, h.north, h.south)) (omega (arith, h.west, h.east)))

pub kth_of_index : (b : TileZBox) (t : Tile) → HoldsTile b t → kth_tile b (index_of b t) ≡ t
kth_of_index b t h =
    kth_at b (t.y - b.miny) (t.x - b.minx) (omega (arith, h.west, h.east))
    ∙ tile_ext (tile_at (b.minx + (t.x - b.minx)) (b.miny + (t.y - b.miny)) b.zoom) t (omega (arith, h.west))
    (omega (arith, h.north)) (sym h.zoom)

pub index_of_kth : (b : TileZBox) (k : ℕ) → index_of b (kth_tile b k) ≡ k
unfolding kth_tile
index_of_kth b k =
    let x : b.minx + k % columns_of b - b.minx ≡ k % columns_of b = omega arith in
    let y : b.miny + k / columns_of b - b.miny ≡ k / columns_of b = omega arith in
    rw (x, y) (div-add-mod' k (columns_of b))

-- calls of `next` from a cursor on: the tiles that they give one by one, and the cursor that they leave
pub data CursorGives : TileZBoxIterator → List Tile → TileZBoxIterator → Type 0 where
  none : {c : TileZBoxIterator} → CursorGives c [] c
  more : {c d e : TileZBoxIterator} {t : Tile} {ts : List Tile} → next_of c ≡ record { number = 0; value = step_given t d }
      → CursorGives d ts e → CursorGives c (t ∷ ts) e

pub next_gives : (b : TileZBox) (k : ℕ) → IsBox b → k < box_length b
    → next_of (cursor_at b k) ≡ record { number = 0; value = step_given (kth_tile b k) (cursor_at b (k + 1)) }
next_gives b k i h = let l : k ≤ box_length b = omega arith in rw (box_accepted i, le-ltb _ _ l, lt-ltb _ _ h)

pub next_ends : (b : TileZBox) → IsBox b
    → next_of (cursor_at b (box_length b)) ≡ record { number = 0; value = step_ended (cursor_at b (box_length b)) }
next_ends b i = let l : box_length b ≤ box_length b = omega arith in rw (box_accepted i, le-ltb _ _ l)

pub gives_numbered : (b : TileZBox) (k n : ℕ) → IsBox b → k + n ≤ box_length b
    → CursorGives (cursor_at b k) (numbered_from b k n) (cursor_at b (k + n))
unfolding numbered_from
gives_numbered b k zero i h = let e : k + 0 ≡ k = omega arith in rw e none
gives_numbered b k (suc n) i h =
    let e : k + suc n ≡ suc k + n = omega arith in
    let f : next_of (cursor_at b k) ≡ record { number = 0; value = step_given (kth_tile b k) (cursor_at b (suc k)) } =
    next_gives b k i (omega arith) ∙ ap (λ (m : ℕ). record { number = 0; value = step_given (kth_tile b k) (cursor_at b m) }) (add-one k) in
    rw e (more f (gives_numbered b (suc k) n i (omega arith)))
