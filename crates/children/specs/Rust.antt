-- The Rust's `children`, `children_zorder` and `children1_zorder` as functions on values, in 32 bits for x and y and 8 for z, with its
-- checks: a queue of tiles, with a bound on the turns of its loop.
use Rattle.std.specs.Prelude.{cond, List, [], ◌∷◌, ◌++◌, ℕ, zero, suc, ltb, Option, unwrap_or}
use Rattle.bits.specs.Checked.{Run, stops, returns, ◌then◌, plus, times}
use Rattle.tile.specs.Rust.{rust_new}
use Rattle.tile.specs.declared.Tile.{Tile}

-- `x * 2` and `x * 2 + 1`
abbrev pub even : ℕ → Run ℕ
even n = times 32 n 2

abbrev pub odd : ℕ → Run ℕ
odd n = times 32 n 2 then λ twice. plus 32 twice 1

-- `utile!(.., .., z + 1)`, by the column and the row
abbrev pub rust_child : (ℕ → Run ℕ) → (ℕ → Run ℕ) → Tile → Run Tile
rust_child column row t = column t.x then λ x. row t.y then λ y. plus 8 t.z 1 then λ z. rust_new x y z

-- `vec![..]`
unfoldable pub vec : List (Run Tile) → Run (List Tile)
vec [] = returns []
vec (r ∷ rs) = r then λ t. vec rs then λ ts. returns (t ∷ ts)

-- the four tiles that `children` appends: top-left, top-right, bottom-right, bottom-left
abbrev pub rust_clockwise : Tile → Run (List Tile)
rust_clockwise t = vec (rust_child even even t ∷ rust_child odd even t ∷ rust_child odd odd t ∷ rust_child even odd t ∷ [])

-- those of `children_zorder` and `children1_zorder`: top-left, top-right, bottom-left, bottom-right
abbrev pub rust_zOrder : Tile → Run (List Tile)
rust_zOrder t = vec (rust_child even even t ∷ rust_child odd even t ∷ rust_child even odd t ∷ rust_child odd odd t ∷ [])

-- `while tiles[0].z < zoom`: the four of the first tile are put at the end, and the first tile is taken off
unfoldable pub rust_queue : (Tile → Run (List Tile)) → ℕ → ℕ → List Tile → Run (List Tile)
rust_queue four zoom zero tiles = returns tiles
rust_queue four zoom (suc turns) [] = stops
rust_queue four zoom (suc turns) (t ∷ tiles) =
    cond (ltb t.z zoom) (four t then λ l. rust_queue four zoom turns (tiles ++ l)) (returns (t ∷ tiles))

-- `zoom.unwrap_or(z + 1)`, whose argument is computed first, and the tile that the queue begins with
abbrev pub rust_descend : (Tile → Run (List Tile)) → ℕ → ℕ → ℕ → ℕ → Option ℕ → Run (List Tile)
rust_descend four turns x y z zoom = plus 8 z 1 then λ next. rust_new x y z then λ t. rust_queue four (unwrap_or zoom next) turns (t ∷ [])

abbrev pub rust_children : ℕ → ℕ → ℕ → ℕ → Option ℕ → Run (List Tile)
rust_children = rust_descend rust_clockwise

abbrev pub rust_children_zOrder : ℕ → ℕ → ℕ → ℕ → Option ℕ → Run (List Tile)
rust_children_zOrder = rust_descend rust_zOrder
