-- What the pass leaves of a list of Morton codes.
use Rattle.std.specs.Prelude.{Bool, cond, ◌&&◌, List, [], ◌∷◌, ℕ, zero, suc, ◌+◌, ◌/◌, ◌%◌, ◌^◌, leb, ltb, eqb, length, get_or}
use Rattle.constants.specs.Limits.{max_zoom}

-- the list begins with the four Morton codes of one family, the first of them from `from` on. The codes rise, so the first and the fourth
-- decide.
unfoldable pub four_from : ℕ → List ℕ → Bool
four_from from l = leb 4 (length l) && (leb from (get_or l 0 0) && (eqb (get_or l 0 0 % 4) 0 && eqb (get_or l 0 0 + 3) (get_or l 3 0)))

-- the list after `skip` more of its numbers
unfoldable pub join_after : ℕ → ℕ → List ℕ → List ℕ
join_after from skip [] = []
join_after from (suc skip) (q ∷ l) = join_after from skip l
join_after from zero (q ∷ l) = cond (four_from from (q ∷ l)) (q / 4 ∷ join_after from 3 l) (q ∷ join_after from 0 l)

-- each family, the first of its Morton codes from `from` on, is its parent
abbrev pub join_of : ℕ → List ℕ → List ℕ
join_of from l = join_after from 0 l

-- the least Morton code of a zoom above m, or of one that there is not
unfoldable pub first_morton : ℕ → ℕ
first_morton m = 4 ^ (cond (ltb m max_zoom) m max_zoom + 1)
