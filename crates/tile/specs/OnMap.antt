-- What a tile of the map is, and refusals 1 and 2 of whoever names one.
use Rattle.std.specs.Prelude.{◌≡◌, refl, Bool, true, false, ◌||◌, ℕ, ◌%◌, ◌^◌, ◌≤◌, ◌<◌, leb, ltb, Result, Ok, Err}
use Rattle.std.proofs.Common.{sym, ap, ◌∙◌, arith, pow_pos, pow_mono, leb-false, ltb-false, le-leb, le-ltb, lt-ltb}
use Rattle.std.proofs.lemmas.Bool.{lt-leb}
use Rattle.bits.specs.Powers.{pow_within}
use Rattle.constants.specs.Limits.{max_zoom, max_zoom_small}
use Rattle.errors.specs.Answer.{Answer, answer, number_of, ◌when◌, ◌else◌}
use Rattle.errors.specs.Cases.{case_of, number_case}
use Rattle.errors.specs.Laws.{answer_found, answer_refused}
use Rattle.errors.specs.declared.Refusal.{Refusal}
use Rattle.tile.specs.declared.Tile.{Tile}

-- the tile at column x and row y of zoom z
abbrev pub tile_at : ℕ → ℕ → ℕ → Tile
tile_at x y z = record { x = x; y = y; z = z }

-- the zero of the type: also the root
abbrev pub no_tile_of : Tile
no_tile_of = tile_at 0 0 0

pub record OnMap (x y z : ℕ) : Type 0 where
  pub zoom : z ≤ max_zoom
  pub column : x < 2 ^ z
  pub row : y < 2 ^ z

unfoldable pub tile_refusal : ℕ → ℕ → ℕ → ℕ
tile_refusal x y z = 1 when ltb max_zoom z else 2 when (leb (2 ^ z) x || leb (2 ^ z) y)

-- an answer that is a tile, as document 01's number and value
abbrev pub tile_case : Result Tile Refusal → Answer Tile
tile_case r = case_of no_tile_of r

-- how many columns and rows the tile's zoom has
abbrev pub side_of : ℕ → ℕ → ℕ → Answer ℕ
side_of x y z = answer (tile_refusal x y z) 0 (2 ^ z)

abbrev pub try_new : ℕ → ℕ → ℕ → Answer Tile
try_new x y z = answer (tile_refusal x y z) no_tile_of (tile_at x y z)

pub too_deep_lem : {z : ℕ} (x y : ℕ) → max_zoom < z → tile_refusal x y z ≡ 1
unfolding tile_refusal
too_deep_lem x y h = rw (lt-ltb _ _ h)

pub off_column : {x z : ℕ} (y : ℕ) → z ≤ max_zoom → 2 ^ z ≤ x → tile_refusal x y z ≡ 2
unfolding tile_refusal
off_column y d h = rw (le-ltb _ _ d, le-leb _ _ h)

pub off_row : {x y z : ℕ} → z ≤ max_zoom → x < 2 ^ z → 2 ^ z ≤ y → tile_refusal x y z ≡ 2
unfolding tile_refusal
off_row d l h = rw (le-ltb _ _ d, lt-leb _ _ l, le-leb _ _ h)

-- exactly the tiles of the map are not refused
pub on_map_accepted : {x y z : ℕ} → OnMap x y z → tile_refusal x y z ≡ 0
unfolding tile_refusal
on_map_accepted h = rw (le-ltb _ _ h.zoom, lt-leb _ _ h.column, lt-leb _ _ h.row)

pub accepted_on_map : (x y z : ℕ) → tile_refusal x y z ≡ 0 → OnMap x y z
unfolding tile_refusal
accepted_on_map x y z e = pick (ltb max_zoom z) refl (leb (2 ^ z) x) refl (leb (2 ^ z) y) refl e
  where
    pick : (a : Bool) → ltb max_zoom z ≡ a → (b : Bool) → leb (2 ^ z) x ≡ b → (c : Bool) → leb (2 ^ z) y ≡ c
        → (1 when a else 2 when (b || c)) ≡ 0 → OnMap x y z
    pick true p b q c r e = absurd (omega arith)
    pick false p true q c r e = absurd (omega arith)
    pick false p false q true r e = absurd (omega arith)
    pick false p false q false r e = record { zoom = ltb-false _ _ p; column = leb-false _ _ q; row = leb-false _ _ r }

-- the power that the code computes in 32 bits is the number of columns, and of rows
pub side_is : {z : ℕ} → z ≤ max_zoom → 2 ^ z % 2 ^ 32 ≡ 2 ^ z
side_is {z} h = pow_within z 32 (omega (arith, max_zoom_small))

-- what `side` tells its callers
pub side_found : {r : Result ℕ Refusal} {end : ℕ} (x y z : ℕ) → number_case r ≡ side_of x y z → r ≡ Ok end → OnMap x y z × (end ≡ 2 ^ z)
side_found x y z e p = let f = answer_found (tile_refusal x y z) 0 (2 ^ z) _ (sym (ap number_case p) ∙ e) in (accepted_on_map x y z f.0, f.1)

pub side_refused : {r : Result ℕ Refusal} {why : Refusal} (x y z : ℕ) → number_case r ≡ side_of x y z → r ≡ Err why
    → number_of why ≡ tile_refusal x y z
side_refused {why = why} x y z e p = sym (answer_refused why (tile_refusal x y z) 0 (2 ^ z) (sym (ap number_case p) ∙ e))

-- every zoom has a column 0 and a row 0
pub column_zero : (y z : ℕ) → tile_refusal 0 y z ≡ 1 when ltb max_zoom z else 2 when leb (2 ^ z) y
unfolding tile_refusal
column_zero y z = rw (lt-leb _ _ (pow_pos z))

pub corner_zero : (z : ℕ) → tile_refusal 0 0 z ≡ 1 when ltb max_zoom z
corner_zero z = column_zero 0 z ∙ rw (lt-leb _ _ (pow_pos z)) (pick (ltb max_zoom z))
  where
    pick : (b : Bool) → (1 when b else 0) ≡ 1 when b
    pick true = refl
    pick false = refl

-- columns and rows are few enough for what the code adds to them
pub side_small : {z : ℕ} → z ≤ max_zoom → 2 ^ z ≤ 2 ^ 30
side_small h = pow_mono {j = 30} (omega (arith, max_zoom_small))

pub on_map_small : {x y z : ℕ} → OnMap x y z → (x < 2 ^ 30) × (y < 2 ^ 30)
on_map_small m = let l = side_small m.zoom in (omega (arith, m.column), omega (arith, m.row))
