-- What a call answers that may be refused, as document 01's number and value.
--   case_of none r     the answer r, where a refused call's value is `none`, the zero of its type
--   number_case r      the same of a number, and `bool_case r` of yes or no
--   check_number r     the refusal's number alone, 0 where there is none
use Rattle.std.specs.Prelude.{Bool, false, ℕ, List, Result, Ok, Err}
use Rattle.errors.specs.Answer.{Answer, Lent, number_of}
use Rattle.errors.specs.declared.Refusal.{Refusal}

-- a refused call of any type: the number, and the type's zero
abbrev pub refused_as : {A : Type 0} → Refusal → A → Answer A
refused_as why none = record { number = number_of why; value = none }

abbrev pub case_of : {A : Type 0} → A → Result A Refusal → Answer A
case_of none (Ok v) = record { number = 0; value = v }
case_of none (Err why) = refused_as why none

abbrev pub number_case : Result ℕ Refusal → Answer ℕ
number_case r = case_of 0 r

abbrev pub bool_case : Result Bool Refusal → Answer Bool
bool_case r = case_of false r

abbrev pub check_number : {A : Type 0} → Result A Refusal → ℕ
check_number (Ok v) = 0
check_number (Err why) = number_of why

-- a counting call beside its memory
abbrev pub left : Result ℕ Refusal → List ℕ → Lent ℕ
left r memory = record { number = (number_case r).number; value = (number_case r).value; memory = memory }
