-- Document 01's build: a list of calls of `simplify` at m = 0, union, common part and difference, each fed lists of the caller's own
-- or answers given earlier in the build; and what comes back of them, by the definitions that the four functions promise.
use Rattle.std.specs.Prelude.{List, [], ℕ, get_or}
use Rattle.area.specs.Area.{union_of, common_of, difference_of}
use Rattle.builds.specs.InTurn.{in_turn}
use Rattle.errors.specs.Answer.{Lent}
use Rattle.errors.specs.Gives.{answer_of}
use Rattle.merge.specs.Merge.{simplify_of}

-- a list handed in: the caller's own, or the answer of an earlier call, by that call's number in the build from 0 on
pub data Operand : Type 0 where
  own : List ℕ → Operand
  earlier : ℕ → Operand

pub data Operation : Type 0 where
  settling : Operand → Operation
  union : Operand → Operand → Operation
  common_part : Operand → Operand → Operation
  difference : Operand → Operand → Operation

-- what is asked, and the memory that is lent for it as it stands before the call: of any length, however filled
pub record Call : Type 0 where
  pub asked : Operation
  pub memory : List ℕ

abbrev pub Build : Type 0
Build = List Call

-- what is read where a call was not made
abbrev pub nothing_back : Lent ℕ
nothing_back = record { number = 0; value = 0; memory = [] }

-- The answer of call i. "A refused call gives no answer": its count is 0. An operand that names a refused call, or none that was made,
-- is no build; here it is read as the empty list, so that nothing has to be assumed.
abbrev pub answer_at : List (Lent ℕ) → ℕ → List ℕ
answer_at back i = answer_of (get_or back i nothing_back)

-- the entries of a list handed in, after the calls that came back so far
abbrev pub handed_in : List (Lent ℕ) → Operand → List ℕ
handed_in back (own list) = list
handed_in back (earlier i) = answer_at back i

-- what comes back of a call whose operands are these lists
abbrev pub performed : (Operand → List ℕ) → Operation → List ℕ → Lent ℕ
performed list (settling a) memory = simplify_of (list a) 0 memory
performed list (union a b) memory = union_of (list a) (list b) memory
performed list (common_part a b) memory = common_of (list a) (list b) memory
performed list (difference a b) memory = difference_of (list a) (list b) memory

abbrev pub comes_back : List (Lent ℕ) → Call → Lent ℕ
comes_back back c = performed (handed_in back) c.asked c.memory

-- what has come back after the calls of a build, one after the other
abbrev pub run : List (Lent ℕ) → Build → List (Lent ℕ)
run back build = in_turn comes_back back build
