-- What a call on lent memory gives: the refusal, or the items that it leaves at the front of the memory.
--   answer_of r        the answer of a call that left r
--   Gives r n items   r is refused by n, or gives the items where n is 0
use Rattle.std.specs.Prelude.{◌≡◌, List, [], ℕ, ◌≤◌, length, take}
use Rattle.errors.specs.Answer.{answer, Lent}

-- "the answer is the first places of the lent memory, as many as the count returned, as the call left them"
abbrev pub answer_of : Lent ℕ → List ℕ
answer_of r = take r.value r.memory

pub record Gives (r : Lent ℕ) (n : ℕ) (items : List ℕ) : Type 0 where
  pub number : r.number ≡ n
  pub front : answer_of r ≡ (answer n [] items).value
  pub count : r.value ≡ length (answer_of r)
  pub within : r.value ≤ length r.memory
