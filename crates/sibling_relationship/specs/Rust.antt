-- What the Rust's `from` does, of a column and a row and of a tile, as a function on values.
use Rattle.std.specs.Prelude.{Bool, true, false, ℕ, ◌%◌, eqb}
use Rattle.sibling_relationship.specs.declared.SiblingRelationship.{SiblingRelationship}
use Rattle.sibling_relationship.specs.declared.SiblingRelationship.TheVariants.{UpperLeft, UpperRight, LowerLeft, LowerRight}

-- the match on (is_left, is_top)
abbrev pub rust_match : Bool → Bool → SiblingRelationship
rust_match true true = UpperLeft
rust_match true false = LowerLeft
rust_match false true = UpperRight
rust_match false false = LowerRight

-- `is_multiple_of(2)` of the column and of the row
abbrev pub rust_from : ℕ → ℕ → SiblingRelationship
rust_from x y = rust_match (eqb (x % 2) 0) (eqb (y % 2) 0)
