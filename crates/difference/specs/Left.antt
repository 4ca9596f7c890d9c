-- What is left of tiles when others are taken away: "a tile is kept, dropped, or handed to its four children, and each child is
-- treated as a tile again".
use Rattle.std.specs.Prelude.{Bool, cond, ◌&&◌, List, [], ◌∷◌, ◌++◌, map, ℕ, zero, suc, ◌-◌, ◌/◌, ◌^◌, leb, eqb}
use Rattle.bits.specs.Tests.{any_of}
use Rattle.constants.specs.Limits.{max_zoom}
use Rattle.quadtree.specs.Numbers.{location_tile}
use Rattle.tile.specs.declared.Tile.{Tile}
use Rattle.tile_set.specs.Set.{child}

-- whether s is t or an ancestor of t
unfoldable pub holds : Tile → Tile → Bool
holds s t = leb s.z t.z && (eqb (t.x / 2 ^ (t.z - s.z)) s.x && eqb (t.y / 2 ^ (t.z - s.z)) s.y)

-- one list of each of the four children, in the quadtree's order
abbrev pub of_four : (Tile → List Tile) → Tile → List Tile
of_four f t = f (child t 0 0) ++ (f (child t 1 0) ++ (f (child t 0 1) ++ f (child t 1 1)))

-- what is left of a tile with d levels below it when the tiles of `gone` are taken away: nothing where one of them holds it,
-- what is left of its four children where it holds one of them, else the tile
unfoldable pub left_of : ℕ → List Tile → Tile → List Tile
left_of zero gone t = cond (any_of (λ g. holds g t) gone) [] (t ∷ [])
left_of (suc d) gone t = cond (any_of (λ g. holds g t) gone) [] (cond (any_of (λ g. holds t g) gone) (of_four (left_of d gone) t) (t ∷ []))

-- of the tiles of a list, one after the other; D is the deepest zoom
unfoldable pub left_of_all : ℕ → List Tile → List Tile → List Tile
left_of_all D gone [] = []
left_of_all D gone (t ∷ l) = left_of (D - t.z) gone t ++ left_of_all D gone l

-- of the tile at location k, and of its four children, when the tiles at the locations `gone` are taken away
abbrev pub left_at : List ℕ → ℕ → List Tile
left_at gone k = left_of (max_zoom - (location_tile k).z) (map location_tile gone) (location_tile k)

abbrev pub four_at : List ℕ → ℕ → List Tile
four_at gone k = of_four (left_of (max_zoom - suc (location_tile k).z) (map location_tile gone)) (location_tile k)

-- of the tiles at the locations `kept`
abbrev pub without : List ℕ → List ℕ → List Tile
without kept gone = left_of_all max_zoom (map location_tile gone) (map location_tile kept)
