-- Laws of refusals: a refusal's number is never 0, so the first one of a chain stands.
use Rattle.std.specs.Prelude.{◌≡◌, refl, List, ℕ, zero, suc, Result, Ok, Err}
use Rattle.std.proofs.Common.{sym, ap, ◌∙◌, arith}
use Rattle.errors.specs.Answer.{answer, lent, number_of, ◌else◌}
use Rattle.errors.specs.Cases.{refused_as, check_number, left}
use Rattle.errors.specs.declared.Refusal.{Refusal}
use Rattle.errors.specs.declared.Refusal.TheVariants.{Zoom, OffMap, NoRelative, KeyLength, KeyByte, TooMany, NoTile, EmptyList}
use Rattle.errors.specs.declared.Refusal.TheVariants.{MixedZooms, NoBox, NotSettled, Memory, LineLength, Brackets, NoForm, NoState}

pub positive : (why : Refusal) → (n : ℕ) × (number_of why ≡ suc n)
positive Zoom = (0, refl)
positive OffMap = (1, refl)
positive NoRelative = (2, refl)
positive KeyLength = (3, refl)
positive KeyByte = (4, refl)
positive TooMany = (5, refl)
positive NoTile = (6, refl)
positive EmptyList = (7, refl)
positive MixedZooms = (8, refl)
positive NoBox = (9, refl)
positive NotSettled = (10, refl)
positive Memory = (11, refl)
positive LineLength = (12, refl)
positive Brackets = (13, refl)
positive NoForm = (14, refl)
positive NoState = (15, refl)

-- a refusal that applies decides, whatever is tested after it
pub stands : (why : Refusal) {n : ℕ} (m : ℕ) → number_of why ≡ n → n else m ≡ number_of why
stands why m e = let p = positive why in rw (← e, p.1)

pub refused_answer : {A : Type 0} (why : Refusal) {n : ℕ} (none v : A) → n ≡ number_of why → refused_as why none ≡ answer n none v
refused_answer why none v e = let p = positive why in rw (e, p.1)

pub refused_lent : (why : Refusal) {n : ℕ} (items memory : List ℕ) → n ≡ number_of why
    → left (Err why) memory ≡ lent n items memory
refused_lent why items memory e = let p = positive why in rw (e, p.1)

-- where a chain refuses nothing, no part of it does
pub else_zero : (n m : ℕ) → n else m ≡ 0 → (n ≡ 0) × (m ≡ 0)
else_zero zero m e = (refl, e)
else_zero (suc n) m e = absurd (omega (arith, e))

-- what a check says, in either case
pub check_fine : {A : Type 0} {v : A} {r : Result A Refusal} {n : ℕ} → r ≡ Ok v → check_number r ≡ n → n ≡ 0
check_fine p e = sym e ∙ ap check_number p

pub check_refused : {A : Type 0} {r : Result A Refusal} {why : Refusal} {n : ℕ} → r ≡ Err why → check_number r ≡ n → number_of why ≡ n
check_refused p e = sym (ap check_number p) ∙ e

-- what an answer says of its refusal and its value, in either case
pub answer_found : {A : Type 0} (n : ℕ) (none v w : A) → record { number = 0; value = w } ≡ answer n none v → (n ≡ 0) × (w ≡ v)
answer_found zero none v w e = (refl, ap (λ r. r.value) e)
answer_found (suc n) none v w e = let z : 0 ≡ suc n = ap (λ r. r.number) e in absurd (omega arith)

pub answer_refused : {A : Type 0} (why : Refusal) (n : ℕ) (none v : A) → refused_as why none ≡ answer n none v → n ≡ number_of why
answer_refused why zero none v e = let p = positive why in let z : number_of why ≡ 0 = ap (λ r. r.number) e in absurd (omega (arith, p.1))
answer_refused why (suc n) none v e = sym (ap (λ r. r.number) e)

-- the number of an answer is its refusal's, and the value of a refused one is the zero
pub answer_number : {A : Type 0} (n : ℕ) (none v : A) → (answer n none v).number ≡ n
answer_number zero none v = refl
answer_number (suc n) none v = refl

pub answer_none : {A : Type 0} (n : ℕ) (none v : A) {k : ℕ} → n ≡ suc k → (answer n none v).value ≡ none
answer_none n none v e = rw e

pub never_zero : (why : Refusal) → number_of why ≡ 0 → ⊥
never_zero why e = omega (arith, (positive why).1)

-- a chain in two parts
pub else_assoc : (n m k : ℕ) → n else (m else k) ≡ (n else m) else k
else_assoc zero m k = refl
else_assoc (suc n) m k = refl

pub else_none : (n : ℕ) → n else 0 ≡ n
else_none zero = refl
else_none (suc n) = refl
