-- What `merge` gives: the number that it returns, two values, and the lent memory.
use Rattle.std.specs.Prelude.{cond, List, ℕ}
use Rattle.errors.specs.Answer.{Lent}
use Rattle.merge.specs.declared.Merged.{Merged}

-- of `merge` two values: the count, and 1 or 0 for `changed`
pub record MergeGiven : Type 0 where
  pub number : ℕ
  pub count : ℕ
  pub changed : ℕ
  pub memory : List ℕ

abbrev pub given_merge : ℕ → ℕ → ℕ → List ℕ → MergeGiven
given_merge number count changed memory = record { number = number; count = count; changed = changed; memory = memory }

abbrev pub in_numbers : Lent Merged → MergeGiven
in_numbers a = given_merge a.number a.value.count (cond a.value.changed 1 0) a.memory
