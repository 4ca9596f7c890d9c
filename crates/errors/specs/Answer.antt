-- What a call answers, in the terms of document 01: the refusal's number, 0 where nothing is refused, and the value.
use Rattle.std.specs.Prelude.{Bool, cond, List, ◌++◌, ℕ, zero, suc, ltb, length, drop}
use Rattle.errors.specs.declared.Refusal.{Refusal}
use Rattle.errors.specs.declared.Refusal.TheVariants.{Zoom, OffMap, NoRelative, KeyLength, KeyByte, TooMany, NoTile, EmptyList}
use Rattle.errors.specs.declared.Refusal.TheVariants.{MixedZooms, NoBox, NotSettled, Memory, LineLength, Brackets, NoForm, NoState}

infixr 20 ◌else◌
infix 25 ◌when◌
abbrev pub number_of : Refusal → ℕ
number_of Zoom = 1
number_of OffMap = 2
number_of NoRelative = 3
number_of KeyLength = 4
number_of KeyByte = 5
number_of TooMany = 6
number_of NoTile = 7
number_of EmptyList = 8
number_of MixedZooms = 9
number_of NoBox = 10
number_of NotSettled = 11
number_of Memory = 12
number_of LineLength = 13
number_of Brackets = 14
number_of NoForm = 15
number_of NoState = 16

-- the refusals of a call, in the order of their tests: `1 when a else 2 when b` is 1 where a holds, else 2 where b does, else 0
abbrev pub ◌when◌ : ℕ → Bool → ℕ
n when b = cond b n 0

abbrev pub ◌else◌ : ℕ → ℕ → ℕ
zero else m = m
suc n else m = suc n

-- an answer with one value
pub record Answer (A : Type 0) : Type 0 where
  pub number : ℕ
  pub value : A

-- the value where nothing is refused; a refused call's value is `none`, the zero of its type
abbrev pub answer : {A : Type 0} → ℕ → A → A → Answer A
answer zero none v = record { number = 0; value = v }
answer (suc n) none v = record { number = suc n; value = none }

-- an answer beside what the call left in the memory that was lent to it
pub record Lent (A : Type 0) : Type 0 where
  pub number : ℕ
  pub value : A
  pub memory : List ℕ

-- a list written to the front of the memory, with its count; a refusal leaves the memory as it was
abbrev pub lent : ℕ → List ℕ → List ℕ → Lent ℕ
lent zero items memory = record { number = 0; value = length items; memory = items ++ drop (length items) memory }
lent (suc n) items memory = record { number = suc n; value = 0; memory = memory }

-- refusal 12 of a call that needs as many places as its result has entries
abbrev pub short : List ℕ → List ℕ → ℕ
short items memory = 12 when ltb (length memory) (length items)

-- a call that tests its arguments and then its memory, and writes a list
abbrev pub written : ℕ → List ℕ → List ℕ → Lent ℕ
written n items memory = lent (n else short items memory) items memory
