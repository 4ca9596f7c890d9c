-- Which child of its parent a tile is, by the Rust's numbers 0 to 3.
use Rattle.std.specs.Prelude.{ℕ, ◌+◌, ◌*◌, ◌%◌}
use Rattle.sibling_relationship.specs.declared.SiblingRelationship.{SiblingRelationship}
use Rattle.sibling_relationship.specs.declared.SiblingRelationship.TheVariants.{UpperLeft, UpperRight, LowerLeft, LowerRight}

abbrev pub relation_number : SiblingRelationship → ℕ
relation_number UpperLeft = 0
relation_number UpperRight = 1
relation_number LowerLeft = 2
relation_number LowerRight = 3

-- an odd column is a right one, an odd row a lower one
abbrev pub relation_at : ℕ → ℕ → ℕ
relation_at x y = 2 * (y % 2) + x % 2
