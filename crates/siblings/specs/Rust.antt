-- What the Rust does for the siblings of a tile, as functions on values in its own widths and with the checks of its arithmetic: 32 bits
-- for x and y.
use Rattle.std.specs.Prelude.{Bool, true, false, List, [], ◌∷◌, map, ℕ, ◌%◌, eqb}
use Rattle.bits.specs.Checked.{Run}
use Rattle.children.specs.Rust.{vec}
use Rattle.tile.specs.OnMap.{tile_at}
use Rattle.tile.specs.Rust.{rust_step}
use Rattle.tile.specs.declared.Step.{Step}
use Rattle.tile.specs.declared.Step.TheVariants.{Back, Stay, On}
use Rattle.tile.specs.declared.Tile.{Tile}

-- `vec![utile!(x + 1, y, z), ..]`, by the steps in x and in y: On is n + 1, Stay n and Back n - 1. `utile!` is taken without its debug
-- assertion, since past the right and bottom edges, and at zoom 0, the Rust names tiles off the map.
abbrev pub rust_tiles : List (Step × Step) → ℕ → ℕ → ℕ → Run (List Tile)
rust_tiles steps x y z = vec (map (λ (s : Step × Step). rust_step s.0 s.1 (tile_at x y z)) steps)

-- the four arms of `siblings`, by whether the tile is in its family's left column and in its top row
abbrev pub siblings_arm : Bool → Bool → List (Step × Step)
siblings_arm true true = (On, Stay) ∷ (Stay, On) ∷ (On, On) ∷ []
siblings_arm false true = (Back, Stay) ∷ (Stay, On) ∷ (Back, On) ∷ []
siblings_arm true false = (On, Stay) ∷ (Stay, Back) ∷ (On, Back) ∷ []
siblings_arm false false = (Back, Stay) ∷ (Stay, Back) ∷ (Back, Back) ∷ []

abbrev pub rust_siblings : ℕ → ℕ → ℕ → Run (List Tile)
rust_siblings x y z = rust_tiles (siblings_arm (eqb (x % 2) 0) (eqb (y % 2) 0)) x y z
