-- The order in which refusals are tested, and which of two comes first.
--   test_order     the refusals in the order of their tests
--   turn_of n      the turn of the test of refusal n
--   first_of n m   of two refusals the one that is tested first; 0 is none
use Rattle.std.specs.Prelude.{◌≡◌, refl, cond, List, [], ◌∷◌, ℕ, zero, suc, ◌-◌, ◌≤◌, ◌<◌, eqb, ltb}
use Rattle.std.proofs.Common.{arith, lt-ltb, le-ltb}
use Rattle.errors.specs.Answer.{number_of}
use Rattle.errors.specs.declared.Refusal.{Refusal}
use Rattle.errors.specs.declared.Refusal.TheVariants.{Zoom, OffMap, NoRelative, KeyLength, KeyByte, TooMany, NoTile, EmptyList}
use Rattle.errors.specs.declared.Refusal.TheVariants.{MixedZooms, NoBox, NotSettled, Memory, LineLength, Brackets, NoForm, NoState}

-- "The lowest number that applies is given", says document 01. Request K4 of document 02 has 16 "tested before 4", for a reader of keys.
-- From then on it is the first of this order that applies. Whatever takes the first of several goes by it, so that a request that has one
-- tested earlier changes it here
unfoldable pub test_order : List ℕ
test_order = 1 ∷ 2 ∷ 3 ∷ 16 ∷ 4 ∷ 5 ∷ 6 ∷ 7 ∷ 8 ∷ 9 ∷ 10 ∷ 11 ∷ 12 ∷ 13 ∷ 14 ∷ 15 ∷ []

-- the place of a number in a list, the length where it is not in it
unfoldable pub place_in : List ℕ → ℕ → ℕ
place_in [] n = 0
place_in (m ∷ ms) n = cond (eqb n m) 0 (suc (place_in ms n))

unfoldable pub turn_of : ℕ → ℕ
turn_of n = place_in test_order n

unfoldable pub first_of : ℕ → ℕ → ℕ
first_of zero m = m
first_of (suc n) zero = suc n
first_of (suc n) (suc m) = cond (ltb (turn_of (suc m)) (turn_of (suc n))) (suc m) (suc n)

pub first_alone : (n : ℕ) → first_of n 0 ≡ n
unfolding first_of
first_alone zero = refl
first_alone (suc n) = refl

pub the_earlier_is_first : (n m : ℕ) → 0 < n → turn_of n ≤ turn_of m → n ≡ first_of n m
unfolding first_of
the_earlier_is_first zero m h k = absurd (omega arith)
the_earlier_is_first (suc n) zero h k = refl
the_earlier_is_first (suc n) (suc m) h k = rw (le-ltb _ _ k)

pub the_later_is_second : (n m : ℕ) → 0 < n → 0 < m → turn_of m < turn_of n → m ≡ first_of n m
unfolding first_of
the_later_is_second zero m h i k = absurd (omega arith)
the_later_is_second (suc n) zero h i k = absurd (omega arith)
the_later_is_second (suc n) (suc m) h i k = rw (lt-ltb _ _ k)

-- the turn of a refusal by its number: what is before 4 moves up by one for 16
pub turn_by_number : (why : Refusal)
    → turn_of (number_of why) ≡ cond (eqb (number_of why) 16) 3 (cond (ltb (number_of why) 4) (number_of why - 1) (number_of why))
unfolding turn_of place_in test_order
turn_by_number Zoom = refl
turn_by_number OffMap = refl
turn_by_number NoRelative = refl
turn_by_number KeyLength = refl
turn_by_number KeyByte = refl
turn_by_number TooMany = refl
turn_by_number NoTile = refl
turn_by_number EmptyList = refl
turn_by_number MixedZooms = refl
turn_by_number NoBox = refl
turn_by_number NotSettled = refl
turn_by_number Memory = refl
turn_by_number LineLength = refl
turn_by_number Brackets = refl
turn_by_number NoForm = refl
turn_by_number NoState = refl
