-- Sets of zooms, and of other small numbers, as the bits of a number: which bits a number has, the numbers below a bound that pass a test,
-- and the number with just these bits. Lists of zooms, and their sets.
use Rattle.std.specs.Prelude.{Bool, false, cond, ◌&&◌, ◌||◌, List, [], ◌∷◌, ◌++◌, ℕ, zero, suc, ◌+◌, ◌-◌, ◌/◌, ◌%◌, ◌^◌, eqb, leb, ltb}
use Rattle.std.specs.List.{list_any}

-- the deepest zoom of a set or a list, which stays 30 whatever the deepest zoom of the map is
abbrev pub last_zoom : ℕ
last_zoom = 30

-- the bit that says that a set is read the other way round
abbrev pub turn_bit : ℕ
turn_bit = 31

-- whether bit i of n is set
unfoldable pub has_bit : ℕ → ℕ → Bool
has_bit n i = eqb (n / 2 ^ i % 2) 1

-- the numbers below n that pass the test, rising
unfoldable pub those : (ℕ → Bool) → ℕ → List ℕ
those has zero = []
those has (suc n) = those has n ++ cond (has n) (n ∷ []) []

-- the number whose bits below n are those that pass the test, with no other bit
unfoldable pub set_of : (ℕ → Bool) → ℕ → ℕ
set_of has zero = 0
set_of has (suc n) = set_of has n + cond (has n) (2 ^ n) 0

-- the test of the numbers from a to b
abbrev pub between : ℕ → ℕ → ℕ → Bool
between a b i = leb a i && leb i b

-- the numbers from a to b
unfoldable pub from_to : ℕ → ℕ → List ℕ
from_to a b = those (between a b) (suc b)

-- the bits of a set counted down from `top`
abbrev pub down_from : ℕ → ℕ → ℕ → Bool
down_from top zset i = has_bit zset (top - i)

-- ---- a list of zooms

unfoldable pub zooms_in : List ℕ → ℕ → Bool
zooms_in [] z = false
zooms_in (a ∷ l) z = eqb z a || zooms_in l z

-- whether a zoom of the list is too deep
unfoldable pub any_deeper : List ℕ → Bool
any_deeper zooms = list_any (λ z. ltb last_zoom z) zooms

-- bit z is zoom z
abbrev pub set_of_zooms : List ℕ → ℕ
set_of_zooms zooms = set_of (zooms_in zooms) (suc last_zoom)
