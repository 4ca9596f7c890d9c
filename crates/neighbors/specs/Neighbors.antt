-- The tiles around a tile, in the Rust's orders, as document 01 states them.
use Rattle.std.specs.Prelude.{Option, Some, None, Bool, cond, ◌&&◌, List, [], ◌∷◌, ◌++◌, ℕ, zero, suc, ◌+◌, ◌-◌, ◌/◌, ◌%◌, ◌^◌, leb, length, take, drop}
use Rattle.children.specs.Children.{gather}
use Rattle.ids.specs.Entry.{entries_of}
use Rattle.errors.specs.Answer.{Lent, written}
use Rattle.siblings.specs.Siblings.{siblings_of}
use Rattle.tile.specs.OnMap.{OnMap, tile_at, tile_refusal}
use Rattle.tile.specs.declared.Tile.{Tile}
use Rattle.neighbors.specs.declared.Seam.{Seam}
use Rattle.neighbors.specs.declared.Seam.TheVariants.{Cut, Wrapped}

-- the orders in which the block of nine squares around a tile is gone through. They are numbered column by column:
--     0 3 6
--     1 4 7
--     2 5 8
abbrev pub around : List ℕ
around = 7 ∷ 5 ∷ 8 ∷ 1 ∷ 3 ∷ 0 ∷ 6 ∷ 2 ∷ []

abbrev pub around_wrapped : List ℕ
around_wrapped = 0 ∷ 1 ∷ 2 ∷ 3 ∷ 5 ∷ 6 ∷ 7 ∷ 8 ∷ []

-- whether there is a column, or row, n + s − 1 of so many, for a step s of 0, 1 or 2
abbrev pub step_on_map : ℕ → ℕ → ℕ → Bool
step_on_map side n s = leb 1 (n + s) && leb (n + s) side

-- the tile of square s, struck out where it is off the map
abbrev pub near : ℕ → ℕ → ℕ → ℕ → List Tile
near x y z s = cond (step_on_map (2 ^ z) x (s / 3) && step_on_map (2 ^ z) y (s % 3)) (tile_at (x + s / 3 - 1) (y + s % 3 - 1) z ∷ []) []

-- the same where the last column stands beside the first
abbrev pub near_wrapped : ℕ → ℕ → ℕ → ℕ → List Tile
near_wrapped x y z s = cond (step_on_map (2 ^ z) y (s % 3)) (tile_at ((x + s / 3 + 2 ^ z - 1) % 2 ^ z) (y + s % 3 - 1) z ∷ []) []

-- the two kinds: on a map that is wrapped at its seam, and on one that is cut there
abbrev pub order_of : Seam → List ℕ
order_of Wrapped = around_wrapped
order_of Cut = around

abbrev pub near_of : Seam → ℕ → ℕ → ℕ → ℕ → List Tile
near_of Wrapped = near_wrapped
near_of Cut = near

-- zoom 0 none, zoom 1 the siblings
abbrev pub neighbors_of : Seam → ℕ → ℕ → ℕ → List Tile
neighbors_of seam x y zero = []
neighbors_of seam x y (suc zero) = siblings_of x y 1
neighbors_of seam x y (suc (suc z)) = gather (near_of seam x y (suc (suc z))) (order_of seam)

abbrev pub neighbors_written : Seam → ℕ → ℕ → ℕ → List ℕ → Lent ℕ
neighbors_written seam x y z memory = written (tile_refusal x y z) (entries_of (neighbors_of seam x y z)) memory

-- the same from zoom 2 on
abbrev pub around_written : Seam → ℕ → ℕ → ℕ → List ℕ → Lent ℕ
around_written seam x y z memory = written (tile_refusal x y z) (entries_of (gather (near_of seam x y z) (order_of seam))) memory

-- how the code holds the tile of a square
abbrev pub spot_tiles : Option Tile → List Tile
spot_tiles (Some t) = t ∷ []
spot_tiles None = []

abbrev pub SpotOnMap : Option Tile → Type 0
SpotOnMap (Some t) = OnMap t.x t.y t.z
SpotOnMap None = Unit {0}

-- a list written over another from place n on
abbrev pub pasted : ℕ → List ℕ → List ℕ → List ℕ
pasted n items memory = take n memory ++ (items ++ drop (n + length items) memory)
