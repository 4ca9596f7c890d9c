-- What the boundary does with two lists, and with one that is only tested, is what document 01 asks.
use Rattle.std.specs.Prelude.{◌≡◌, Bool, false, not, ◌||◌, List, [], ◌++◌, length, Ok, Err}
use Rattle.std.proofs.Math.Path.{refl}
use Rattle.std.proofs.Common.{ap, ap₂, ◌∙◌, arith, le-ltb, length-append}
use Rattle.std.proofs.Math.Bool.{or-false}
use Prim.Native.Nat.{ℕ, zero, suc, ◌+◌, ◌-◌}
use Rattle.std.proofs.Math.Dec.{ltb}
use Rattle.area.specs.Area.{pair_refusal, pair_places_refusal, union_entries, common_entries, difference_entries}
use Rattle.area.specs.Area.{union_of, common_of, difference_of}
use Rattle.area.proofs.Passed.{locations_length, union_entries_lem, common_entries_lem, left_entries_lem}
use Rattle.bits.specs.Tests.{all_of}
use Rattle.constants.specs.Limits.{max_entries}
use Rattle.errors.specs.Answer.{Answer, answer, Lent, lent, short, written, ◌when◌, ◌else◌}
use Rattle.errors.specs.Cases.{bool_case}
use Rattle.errors.specs.Laws.{else_zero, else_assoc}
use Rattle.errors.specs.declared.Refusal.{Refusal}
use Rattle.ids.specs.Entry.{is_entry}
use Rattle.settled.specs.Answers.{is_settled_of}
use Rattle.settled.specs.Settled.{is_settled}
use Rattle.tile_list.specs.List.{list_refusal, filled, list_answer}
use Rattle.work.specs.Work.{locations_of, overlay_items, pair_tests, told_as, outcome_of, count_of, told_left}
use Rattle.work.specs.declared.Outcome.{Outcome}
use Rattle.work.specs.declared.Overlay.TheVariants.{Union, Common, Difference}
use Rattle.work.specs.declared.Work.TheVariants.{Tested, Overlaid}

-- what is told of a list that was made
abbrev counted : ℕ → List ℕ → List ℕ → List ℕ → Lent ℕ
counted n made after memory = count_of (told_as n (record { count = length made; yes = false }) after memory)

module _ (a b memory : List ℕ) where
  abbrev too_many_of : ℕ
  too_many_of = 6 when (ltb max_entries (length a) || ltb max_entries (length b))

  -- what is left where so many places are asked for, by the order of the tests; 12 is the last
  abbrev made_in : ℕ → List ℕ → Lent ℕ
  made_in places made =
      counted (too_many_of else (pair_tests a b else 12 when ltb (length memory) places)) made (filled places made memory) memory

  refusal_first : (k : ℕ) → too_many_of else (pair_tests a b else k) ≡ pair_refusal a b else k
  unfolding pair_refusal
  refusal_first k = else_assoc too_many_of (pair_tests a b) k

  none_refused : pair_refusal a b ≡ 0 → pair_tests a b ≡ 0
  unfolding pair_refusal
  none_refused e = (else_zero too_many_of (pair_tests a b) e).1

  abbrev both : ℕ
  both = length a + length b

  both_locations : length (locations_of a) + length (locations_of b) ≡ both
  both_locations = ap₂ (λ (n m : ℕ). n + m) (locations_length a) (locations_length b)

  -- a place for each entry of both lists
  joined : (made items : List ℕ) → (pair_tests a b ≡ 0 → made ≡ items)
      → made_in (length (locations_of a) + length (locations_of b)) made
      ≡ list_answer (pair_places_refusal a b memory) 0 (length items) (a ++ b) items memory
  unfolding pair_places_refusal
  joined made items same = rw (both_locations, refusal_first (12 when ltb (length memory) both))
      (pick (pair_refusal a b) (λ e. same (none_refused e)))
    where
      done : (n : ℕ) → counted n items (filled both items memory) memory ≡ list_answer n 0 (length items) (a ++ b) items memory
      done zero = rw (length-append a b)
      done (suc n) = refl

      pick : (n : ℕ) → (n ≡ 0 → made ≡ items)
          → counted (n else 12 when ltb (length memory) both) made (filled both made memory) memory
          ≡ list_answer (n else 12 when ltb (length memory) both) 0 (length items) (a ++ b) items memory
      pick zero f = rw (f refl) (done (12 when ltb (length memory) both))
      pick (suc n) f = refl

  pub union_door : count_of (outcome_of (Overlaid Union) 0 a b memory) ≡ union_of a b memory
  union_door = joined (overlay_items Union (locations_of a) (locations_of b)) (union_entries a b) (union_entries_lem a b)

  pub common_door : count_of (outcome_of (Overlaid Common) 0 a b memory) ≡ common_of a b memory
  common_door = joined (overlay_items Common (locations_of a) (locations_of b)) (common_entries a b) (common_entries_lem a b)

  -- a place for each entry of the result
  remaining : (made items : List ℕ) → (pair_tests a b ≡ 0 → made ≡ items)
      → made_in (length made) made ≡ written (pair_refusal a b) items memory
  remaining made items same = rw (refusal_first (12 when ltb (length memory) (length made)))
      (pick (pair_refusal a b) (λ e. same (none_refused e)))
    where
      done : (n : ℕ) → counted n items (filled (length items) items memory) memory ≡ lent n items memory
      done zero = let none : length items - length items ≡ 0 = omega arith in rw none
      done (suc n) = refl

      pick : (n : ℕ) → (n ≡ 0 → made ≡ items)
          → counted (n else 12 when ltb (length memory) (length made)) made (filled (length made) made memory) memory
          ≡ written n items memory
      pick zero f = rw (f refl) (done (short items memory))
      pick (suc n) f = refl

  pub difference_door : count_of (outcome_of (Overlaid Difference) 0 a b memory) ≡ difference_of a b memory
  difference_door = remaining (overlay_items Difference (locations_of a) (locations_of b)) (difference_entries a b) (left_entries_lem a b)

-- a list that is tested: the empty second list is never too long
abbrev said_in : Lent Outcome → Answer Bool
said_in l = record { number = l.number; value = l.value.yes }

settled_door : (list memory : List ℕ) → said_in (outcome_of Tested 0 list [] memory) ≡ is_settled_of list
unfolding list_refusal
settled_door list memory =
    rw (le-ltb max_entries 0 (omega arith), or-false (ltb max_entries (length list)))
    (pick (6 when ltb max_entries (length list) else 7 when not (all_of is_entry list)) (is_settled list))
  where
    pick : (n : ℕ) (b : Bool) → said_in (told_as n (record { count = 0; yes = b }) memory memory) ≡ answer n false b
    pick zero b = refl
    pick (suc n) b = refl

module _ (list memory after : List ℕ) where
  pub settled_refused : (why : Refusal) → told_left (Err why) after ≡ outcome_of Tested 0 list [] memory → bool_case (Err why) ≡ is_settled_of list
  settled_refused why told = ap said_in told ∙ settled_door list memory

  pub settled_told : (done : Outcome) → told_left (Ok done) after ≡ outcome_of Tested 0 list [] memory → bool_case (Ok done.yes) ≡ is_settled_of list
  settled_told done told = ap said_in told ∙ settled_door list memory
