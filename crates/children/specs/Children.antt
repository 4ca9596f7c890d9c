-- The descendants of a tile, in the order of document 01.
use Rattle.std.specs.Prelude.{Bool, true, false, List, [], ◌∷◌, ◌++◌, ℕ, zero, suc, ◌+◌, ◌-◌, ◌*◌, ◌/◌, ◌%◌, ltb}
use Rattle.constants.specs.Limits.{max_zoom}
use Rattle.errors.specs.Answer.{Lent, written, ◌when◌, ◌else◌}
use Rattle.ids.specs.Entry.{entries_of}
use Rattle.tile.specs.OnMap.{tile_at, tile_refusal}
use Rattle.tile.specs.declared.Tile.{Tile}

-- the order within a family, by quadkey digits
abbrev pub clockwise : List ℕ
clockwise = 0 ∷ 1 ∷ 3 ∷ 2 ∷ []

abbrev pub z_order : List ℕ
z_order = 0 ∷ 1 ∷ 2 ∷ 3 ∷ []

-- the lists that f gives for a list of numbers, one after the other
unfoldable pub gather : {A : Type 0} → (ℕ → List A) → List ℕ → List A
gather f [] = []
gather f (q ∷ qs) = f q ++ gather f qs

-- the descendants d zooms down: the tile itself, or each child's, in the family's order
unfoldable pub descendants : List ℕ → ℕ → ℕ → ℕ → ℕ → List Tile
descendants family zero x y z = tile_at x y z ∷ []
descendants family (suc d) x y z = gather (λ q. descendants family d (2 * x + q % 2) (2 * y + q / 2) (suc z)) family

-- 1 for a target zoom too deep, or the tile's own, then 2; `target - z` is 0 for a target of z or less
abbrev pub children_of : List ℕ → ℕ → ℕ → ℕ → ℕ → List ℕ → Lent ℕ
children_of family x y z target memory =
    written (1 when ltb max_zoom target else tile_refusal x y z) (entries_of (descendants family (target - z) x y z)) memory

-- the order of the code's family, clockwise or not
abbrev pub family_of : Bool → List ℕ
family_of false = z_order
family_of true = clockwise
