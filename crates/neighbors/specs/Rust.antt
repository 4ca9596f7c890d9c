-- What the Rust does for the tiles around a tile, as functions on values in its own widths and with the checks of its arithmetic: 32 bits
-- for x and y, 64 with a sign for the steps of `neighbors_wrap_x`.
use Rattle.std.specs.Prelude.{Bool, true, false, cond, ◌&&◌, ◌||◌, ℕ, zero, suc, ◌-◌, ◌%◌, ◌^◌, eqb, ltb, ℤ, pos, negsuc, ◌+ℤ◌}
use mathlib.Core.List.{List, [], ◌∷◌, ◌++◌, map, flat_map}
use Rattle.std.specs.Int.Signed.{mag, lt_z, le_z}
use Rattle.bits.specs.Checked.{Run, returns, ◌then◌, only, power, shift_up}
use Rattle.siblings.specs.Rust.{rust_tiles, rust_siblings}
use Rattle.tile.specs.OnMap.{tile_at}
use Rattle.tile.specs.Steps.{stepped}
use Rattle.tile.specs.declared.Step.{Step}
use Rattle.tile.specs.declared.Step.TheVariants.{Back, Stay, On}
use Rattle.tile.specs.declared.Tile.{Tile}

pub data TileEdgeInfo : Type 0 where
  Bottom : TileEdgeInfo
  BottomLeft : TileEdgeInfo
  BottomRight : TileEdgeInfo
  Left : TileEdgeInfo
  Right : TileEdgeInfo
  Top : TileEdgeInfo
  TopLeft : TileEdgeInfo
  TopRight : TileEdgeInfo
  Middle : TileEdgeInfo

-- `tile_edge_info` after its first test, in its order: whether x is 0, whether y is, and whether they are 2^z
abbrev pub edge_by : Bool → Bool → Bool → Bool → TileEdgeInfo
edge_by x0 y0 xmax ymax =
    cond (xmax && ymax) BottomRight
    (cond (xmax && y0) TopRight
    (cond (x0 && ymax) BottomLeft
    (cond x0 Left
    (cond xmax Right
    (cond y0 Top
    (cond ymax Bottom Middle))))))

-- `2u32.pow(z)` is computed after the first test
abbrev pub rust_edge : ℕ → ℕ → ℕ → Run TileEdgeInfo
rust_edge x y z =
    cond (eqb x 0 && eqb y 0) (returns TopLeft)
    (power 32 2 z then λ max. returns (edge_by (eqb x 0) (eqb y 0) (eqb x max) (eqb y max)))

-- the nine arms of `neighbors`, each in its order
abbrev pub neighbors_arm : TileEdgeInfo → List (Step × Step)
neighbors_arm Middle =
    (On, Stay)
    ∷ (Stay, On)
    ∷ (On, On)
    ∷ (Back, Stay)
    ∷ (Stay, Back)
    ∷ (Back, Back)
    ∷ (On, Back)
    ∷ (Back, On)
    ∷ []
neighbors_arm TopLeft = (On, Stay) ∷ (Stay, On) ∷ (On, On) ∷ []
neighbors_arm TopRight = (Back, Stay) ∷ (Stay, On) ∷ (Back, On) ∷ []
neighbors_arm BottomLeft = (On, Stay) ∷ (Stay, Back) ∷ (On, Back) ∷ []
neighbors_arm BottomRight = (Back, Stay) ∷ (Stay, Back) ∷ (Back, Back) ∷ []
neighbors_arm Left = (On, Stay) ∷ (Stay, On) ∷ (On, On) ∷ (Stay, Back) ∷ (On, Back) ∷ []
neighbors_arm Right = (Back, Stay) ∷ (Stay, On) ∷ (Back, On) ∷ (Stay, Back) ∷ (Back, Back) ∷ []
neighbors_arm Top = (On, Stay) ∷ (Stay, On) ∷ (On, On) ∷ (Back, Stay) ∷ (Back, On) ∷ []
neighbors_arm Bottom = (On, Stay) ∷ (Stay, Back) ∷ (On, Back) ∷ (Back, Stay) ∷ (Back, Back) ∷ []

abbrev pub rust_neighbors : ℕ → ℕ → ℕ → Run (List Tile)
rust_neighbors x y zero = returns []
rust_neighbors x y (suc zero) = rust_siblings x y 1
rust_neighbors x y (suc (suc z)) = rust_edge x y (suc (suc z)) then λ kind. rust_tiles (neighbors_arm kind) x y (suc (suc z))

-- `rem_euclid` of a signed number by a positive one
abbrev pub rem_euclid : ℤ → ℕ → ℕ
rem_euclid (pos n) m = n % m
rem_euclid (negsuc n) m = m - 1 - n % m

-- `as u32` keeps the lowest 32 bits
abbrev pub as_u32 : ℤ → ℕ
as_u32 n = rem_euclid n (2 ^ 32)

-- a sum of `i64`s
abbrev pub plus_i64 : ℤ → ℤ → Run ℤ
plus_i64 a b = only (ltb (mag (a +ℤ b)) (2 ^ 63)) (a +ℤ b)

-- NEIGHBOR_IDXS: a step in x and a step in y
abbrev pub neighbor_idxs : List (ℤ × ℤ)
neighbor_idxs =
    (negsuc 0, negsuc 0)
    ∷ (negsuc 0, pos 0)
    ∷ (negsuc 0, pos 1)
    ∷ (pos 0, negsuc 0)
    ∷ (pos 0, pos 1)
    ∷ (pos 1, negsuc 0)
    ∷ (pos 1, pos 0)
    ∷ (pos 1, pos 1)
    ∷ []

-- what the filter of `neighbors_wrap_x` makes of one of them: nothing off the top or bottom edge
abbrev pub filtered : ℕ → ℕ → ℤ → ℤ → List Tile
filtered side z nx ny = cond (lt_z ny (pos 0) || le_z (pos side) ny) [] (tile_at (as_u32 (pos (rem_euclid nx side))) (as_u32 ny) z ∷ [])

abbrev pub wrap_step : ℕ → ℕ → ℕ → ℕ → ℤ × ℤ → Run (List Tile)
wrap_step side x y z d = plus_i64 (pos x) d.0 then λ nx. plus_i64 (pos y) d.1 then λ ny. returns (filtered side z nx ny)

unfoldable pub wrap_steps : ℕ → ℕ → ℕ → ℕ → List (ℤ × ℤ) → Run (List Tile)
wrap_steps side x y z [] = returns []
wrap_steps side x y z (d ∷ ds) = wrap_step side x y z d then λ a. wrap_steps side x y z ds then λ b. returns (a ++ b)

-- `1u32 << z` is computed first
abbrev pub wrap_tiles : ℕ → ℕ → ℕ → Run (List Tile)
wrap_tiles x y z = shift_up 32 1 z then λ side. wrap_steps side x y z neighbor_idxs

abbrev pub rust_neighbors_wrap_x : ℕ → ℕ → ℕ → Run (List Tile)
rust_neighbors_wrap_x x y zero = returns []
rust_neighbors_wrap_x x y (suc zero) = rust_siblings x y 1
rust_neighbors_wrap_x x y (suc (suc z)) = wrap_tiles x y (suc (suc z))

-- the kind that a tile of the map is taken for, by whether x is 0 and whether y is
abbrev pub arm_by : Bool → Bool → TileEdgeInfo
arm_by true true = TopLeft
arm_by true false = Left
arm_by false true = Top
arm_by false false = Middle

abbrev pub arm_of : ℕ → ℕ → TileEdgeInfo
arm_of x y = arm_by (eqb x 0) (eqb y 0)

-- an arm's list in unbounded numbers
abbrev pub tiles_at : List (Step × Step) → ℕ → ℕ → ℕ → List Tile
tiles_at steps x y z = map (λ (s : Step × Step). tile_at (stepped s.0 x) (stepped s.1 y) z) steps

-- "that arm's list with off-map tiles struck out"
abbrev pub if_on_map : Tile → List Tile
if_on_map t = cond (ltb t.x (2 ^ t.z) && ltb t.y (2 ^ t.z)) (t ∷ []) []

abbrev pub struck : List Tile → List Tile
struck ts = flat_map if_on_map ts
