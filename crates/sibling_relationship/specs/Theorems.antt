-- What the relation of a tile to its family comes to. Nothing is assumed.
use Rattle.std.specs.Prelude.{◌≡◌, refl, Bool, true, false, ℕ, zero, suc, ◌+◌, ◌*◌, ◌/◌, ◌%◌, ◌<◌, eqb}
use Rattle.std.proofs.Common.{arith, eqb-true}
use Rattle.std.proofs.lemmas.Bool.{eqb-false}
use Rattle.sibling_relationship.specs.Relation.{relation_number, relation_at}
use Rattle.sibling_relationship.specs.Rust.{rust_match, rust_from}
use Rattle.sibling_relationship.specs.declared.SiblingRelationship.{SiblingRelationship}
use Rattle.sibling_relationship.specs.declared.SiblingRelationship.TheVariants.{UpperLeft, UpperRight, LowerLeft, LowerRight}

-- the Rust's match gives the relation of every column and row
pub rust_from_lem : (x y : ℕ) → relation_number (rust_from x y) ≡ relation_at x y
rust_from_lem x y = pick (eqb (x % 2) 0) refl (eqb (y % 2) 0) refl
  where
    pick : (a : Bool) → eqb (x % 2) 0 ≡ a → (b : Bool) → eqb (y % 2) 0 ≡ b → relation_number (rust_match a b) ≡ relation_at x y
    pick true p true q = omega (arith, eqb-true (x % 2) 0 p, eqb-true (y % 2) 0 q)
    pick true p false q = omega (arith, eqb-true (x % 2) 0 p, eqb-false (y % 2) 0 q)
    pick false p true q = omega (arith, eqb-false (x % 2) 0 p, eqb-true (y % 2) 0 q)
    pick false p false q = omega (arith, eqb-false (x % 2) 0 p, eqb-false (y % 2) 0 q)

-- the four relations are the four numbers 0 to 3: each has one of them, each of them is one's, and no two share one
pub a_number_below_four : (r : SiblingRelationship) → relation_number r < 4
a_number_below_four UpperLeft = omega arith
a_number_below_four UpperRight = omega arith
a_number_below_four LowerLeft = omega arith
a_number_below_four LowerRight = omega arith

pub numbered : ℕ → SiblingRelationship
numbered zero = UpperLeft
numbered (suc zero) = UpperRight
numbered (suc (suc zero)) = LowerLeft
numbered (suc (suc (suc n))) = LowerRight

pub each_number_is_ones : (n : ℕ) → n < 4 → relation_number (numbered n) ≡ n
unfolding numbered
each_number_is_ones zero h = refl
each_number_is_ones (suc zero) h = refl
each_number_is_ones (suc (suc zero)) h = refl
each_number_is_ones (suc (suc (suc zero))) h = refl
each_number_is_ones (suc (suc (suc (suc n)))) h = absurd (omega arith)

pub the_number_tells_the_relation : (r : SiblingRelationship) → numbered (relation_number r) ≡ r
unfolding numbered
the_number_tells_the_relation UpperLeft = refl
the_number_tells_the_relation UpperRight = refl
the_number_tells_the_relation LowerLeft = refl
the_number_tells_the_relation LowerRight = refl

-- "Digit 2·(bit of y) + (bit of x)": the child of (a, b) at column i and row j of the family has the digit 2·j + i
pub the_digit_within_the_family : (a b i j : ℕ) → i < 2 → j < 2 → relation_at (2 * a + i) (2 * b + j) ≡ 2 * j + i
the_digit_within_the_family a b i j h k = omega arith

-- the tile is found again from its parent and the relation
pub the_tile_from_its_parent : (x y : ℕ) → (2 * (x / 2) + relation_at x y % 2 ≡ x) × (2 * (y / 2) + relation_at x y / 2 ≡ y)
the_tile_from_its_parent x y = (omega arith, omega arith)
