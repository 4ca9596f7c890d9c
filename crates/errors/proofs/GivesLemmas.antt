-- What a call gives, from what it leaves: the items at the front of the memory, or its refusal.
use Rattle.std.specs.Prelude.{◌≡◌, refl, List, [], ◌++◌, ℕ, zero, suc, length, drop}
use Rattle.std.proofs.Common.{sym, ap, ◌∙◌, arith, length-append, take_at}
use Rattle.errors.specs.Answer.{answer, Lent, lent}
use Rattle.errors.specs.Gives.{Gives, answer_of}

-- items at the front of some memory
pub front_gives : (items rest : List ℕ) → Gives (record { number = 0; value = length items; memory = items ++ rest }) 0 items
front_gives items rest =
    let t = take_at items rest (length items) refl in
    record { number = refl; front = t; count = ap length (sym t); within = omega (arith, length-append items rest) }

pub none_given : (n : ℕ) (items memory : List ℕ) → Gives (record { number = suc n; value = 0; memory = memory }) (suc n) items
none_given n items memory = record { number = refl; front = refl; count = refl; within = omega arith }

pub lent_gives : (n : ℕ) (items memory : List ℕ) → Gives (lent n items memory) n items
lent_gives zero items memory = front_gives items (drop (length items) memory)
lent_gives (suc n) items memory = none_given n items memory

-- an accepted call gives the items
pub accepted_items : (r : Lent ℕ) (n : ℕ) (items : List ℕ) → Gives r n items → r.number ≡ 0 → answer_of r ≡ items
accepted_items r n items g e = g.front ∙ go n (sym g.number ∙ e)
  where
    go : (n : ℕ) → n ≡ 0 → (answer n [] items).value ≡ items
    go zero e = refl
    go (suc n) e = absurd (omega (arith, e))
