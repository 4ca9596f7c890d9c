-- What the code hands back is what is told: the ends of a work.
use Rattle.std.specs.Prelude.{◌≡◌, refl, ◌⊎◌, Bool, true, false, not, ◌&&◌, ◌||◌, List, ℕ, zero, suc, ◌≤◌, ◌<◌, ltb, length, Result, Err}
use Rattle.std.proofs.Common.{ap, ◌∙◌, inl, inr, arith, lt-ltb, le-ltb}
use Rattle.std.proofs.Math.Bool.{or-true}
use Rattle.bits.specs.Tests.{all_of}
use Rattle.constants.specs.Limits.{max_entries}
use Rattle.errors.specs.Answer.{number_of, ◌when◌, ◌else◌}
use Rattle.errors.specs.Laws.{positive}
use Rattle.errors.specs.declared.Refusal.{Refusal}
use Rattle.errors.specs.declared.Refusal.TheVariants.{TooMany}
use Rattle.ids.specs.Entry.{is_entry}
use Rattle.settled.specs.Settled.{is_settled}
use Rattle.work.specs.Steps.{InScratch}
use Rattle.work.specs.Work.{told_left, told_as, few_of, outcome_of, work_refusal, locations_of, overlay_places}
use Rattle.work.specs.declared.Outcome.{Outcome}
use Rattle.work.specs.declared.Work.{Work}
use Rattle.work.specs.declared.Work.TheVariants.{Simplified, Tested, Overlaid}

pub refused_told : (why : Refusal) {n : ℕ} (v : Outcome) (after memory : List ℕ) → number_of why ≡ n
    → told_left (Err why) memory ≡ told_as n v after memory
refused_told why v after memory e = let p = positive why in rw (← e, p.1)

-- lists that are not too long are not refused by 6
pub few_whole : (work : Work) (m : ℕ) (a b memory : List ℕ) → length a ≤ max_entries → length b ≤ max_entries
    → few_of work m a b memory ≡ outcome_of work m a b memory
few_whole work m a b memory h k = rw (le-ltb _ _ h, le-ltb _ _ k)

-- once the work is known
pub known_whole : {work : Work} {places : ℕ} (known : Work) (m : ℕ) (r : Result Outcome Refusal) (a b after memory : List ℕ) → work ≡ known
    → InScratch a b places → told_left r after ≡ few_of known m a b memory → told_left r after ≡ outcome_of work m a b memory
known_whole known m r a b after memory e f p = rw e (p ∙ few_whole known m a b memory f.first_few f.second_few)

pub too_many : (work : Work) (m : ℕ) (a b memory : List ℕ) (n : ℕ) → (n ≡ length a) ⊎ (n ≡ length b) → max_entries < n
    → told_left (Err TooMany) memory ≡ outcome_of work m a b memory
too_many work m a b memory n (inl e) h = rw (lt-ltb max_entries (length a) (omega (arith, e, h)))
too_many work m a b memory n (inr e) h =
    rw (lt-ltb max_entries (length b) (omega (arith, e, h)), or-true (ltb max_entries (length a)))

-- the refusals that a list can meet
abbrev pub OfLists : ℕ → Type 0
OfLists n = (n ≡ 6) ⊎ (n ≡ 7) ⊎ (n ≡ 11) ⊎ (n ≡ 12)

first_of : (c6 c7 c11 c12 : Bool) (n : ℕ) → n ≡ (6 when c6 else 7 when c7 else 11 when c11 else 12 when c12) → 0 < n → OfLists n
first_of true c7 c11 c12 n e h = inl e
first_of false true c11 c12 n e h = inr (inl e)
first_of false false true c12 n e h = inr (inr (inl e))
first_of false false false true n e h = inr (inr (inr e))
first_of false false false false n e h = absurd (omega (arith, e, h))

one_of : (c6 c7 : Bool) (n : ℕ) → n ≡ (6 when c6 else 7 when c7) → 0 < n → OfLists n
one_of true c7 n e h = inl e
one_of false true n e h = inr (inl e)
one_of false false n e h = absurd (omega (arith, e, h))

of_lists : (work : Work) (a b memory : List ℕ) (c6 : Bool) (n : ℕ) → n ≡ (6 when c6 else work_refusal work a b memory) → 0 < n → OfLists n
of_lists (Simplified which) a b memory c6 n e h = first_of c6 (not (all_of is_entry a)) false (ltb (length memory) (length a)) n e h
of_lists Tested a b memory c6 n e h = one_of c6 (not (all_of is_entry a)) n e h
of_lists (Overlaid which) a b memory c6 n e h =
    pairs c6 (not (all_of is_entry a && all_of is_entry b)) (not (is_settled a && is_settled b))
    (ltb (length memory) (overlay_places which (locations_of a) (locations_of b))) e
  where
    pairs : (c6 c7 c11 c12 : Bool) → n ≡ (6 when c6 else ((7 when c7 else 11 when c11) else 12 when c12)) → OfLists n
    pairs c6 true c11 c12 e = first_of c6 true c11 c12 n e h
    pairs c6 false true c12 e = first_of c6 false true c12 n e h
    pairs c6 false false c12 e = first_of c6 false false c12 n e h

told_as_number : (n : ℕ) (v : Outcome) (after memory : List ℕ) → (told_as n v after memory).number ≡ n
told_as_number zero v after memory = refl
told_as_number (suc n) v after memory = refl

-- a work is refused by one of these
pub told_refusal : (work : Work) (m : ℕ) (why : Refusal) (a b after memory : List ℕ) → told_left (Err why) after ≡ outcome_of work m a b memory
    → OfLists (number_of why)
told_refusal work m why a b after memory e =
    of_lists work a b memory (ltb max_entries (length a) || ltb max_entries (length b)) (number_of why) (number ∙ told_as_number _ _ _ memory)
    (omega (arith, (positive why).1))
  where
    number : number_of why ≡ (outcome_of work m a b memory).number
    number = ap (λ l. l.number) e
