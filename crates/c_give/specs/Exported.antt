-- What an exported call gives: the number that it returns, what stands behind its pointers, and the lent memory.
use Rattle.std.specs.Prelude.{◌≡◌, refl, Bool, true, false, cond, List, ℕ}
use Rattle.std.proofs.Common.{ap, ◌∙◌}
use Rattle.errors.specs.Answer.{Answer, Lent}
use mir.Val.{bool_byte}

abbrev pub answered : {A : Type 0} → ℕ → A → Answer A
answered number value = record { number = number; value = value }

-- the value of a call that is never refused
abbrev pub never : {A : Type 0} → A → Answer A
never value = answered 0 value

abbrev pub answered_in : ℕ → ℕ → List ℕ → Lent ℕ
answered_in number count memory = record { number = number; value = count; memory = memory }

-- a yes or no is 1 or 0
abbrev pub as_byte : Answer Bool → Answer ℕ
as_byte a = answered a.number (cond a.value 1 0)

pub bool_goes_out_as_1_or_0 : (b : Bool) → bool_byte b ≡ cond b 1 0
bool_goes_out_as_1_or_0 true = refl
bool_goes_out_as_1_or_0 false = refl

-- a count that is handed on is the answer's, beside the memory that the call left
pub handed_on : {r n : ℕ} {memory : List ℕ} {a : Answer ℕ} {L : Lent ℕ} → answered r n ≡ a
    → answered_in a.number a.value memory ≡ L → answered_in r n memory ≡ L
handed_on {memory = memory} e f = ap (λ (a : Answer ℕ). answered_in a.number a.value memory) e ∙ f
