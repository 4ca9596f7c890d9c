-- What the boundary does with one list is what document 01 asks of `merge` and of both settlings.
use Rattle.std.specs.Prelude.{◌≡◌, refl, false, not, ◌||◌, List, [], ℕ, zero, suc, ltb, length, Ok, Err}
use Rattle.std.proofs.Common.{ap, ◌∙◌, arith, le-ltb}
use Rattle.std.proofs.Math.Bool.{or-false}
use Rattle.bits.specs.Tests.{all_of}
use Rattle.constants.specs.Limits.{max_entries}
use Rattle.errors.specs.Answer.{Lent, ◌when◌, ◌else◌}
use Rattle.errors.specs.Laws.{else_assoc}
use Rattle.errors.specs.declared.Refusal.{Refusal}
use Rattle.ids.specs.Entry.{is_entry}
use Rattle.tile_list.specs.List.{list_refusal, places_refusal, filled, list_answer}
use Rattle.work.specs.Work.{merge_changes, simplification_items, work_refusal, told_as, outcome_of, count_of, told_left}
use Rattle.work.specs.declared.Outcome.{Outcome}
use Rattle.work.specs.declared.Simplification.{Simplification}
use Rattle.work.specs.declared.Simplification.TheVariants.{Merge, SimplifyV1, Simplify}
use Rattle.work.specs.declared.Work.TheVariants.{Simplified}
use Rattle.merge.specs.Merge.{no_merge, merged_left, merge_of, simplify_v1_of, simplify_of}
use Rattle.merge.specs.declared.Merged.{Merged}

-- the refusals, in the order of their tests: the empty second list is never too long
abbrev refusal_of : Simplification → List ℕ → List ℕ → ℕ
refusal_of which list memory =
    6 when (ltb max_entries (length list) || ltb max_entries 0) else work_refusal (Simplified which) list [] memory

same_refusal : (which : Simplification) (list memory : List ℕ) → refusal_of which list memory ≡ places_refusal list memory
unfolding list_refusal places_refusal
same_refusal which list memory =
    rw (le-ltb max_entries 0 (omega arith), or-false (ltb max_entries (length list)))
    (else_assoc (6 when ltb max_entries (length list)) (7 when not (all_of is_entry list)) (12 when ltb (length memory) (length list)))

-- a work whose value is the count
counted : (which : Simplification) (list items memory : List ℕ)
    → count_of (told_as (refusal_of which list memory) (record { count = length items; yes = false }) (filled (length list) items memory) memory)
    ≡ list_answer (places_refusal list memory) 0 (length items) list items memory
counted which list items memory =
    pick (refusal_of which list memory)
    ∙ ap (λ (n : ℕ). list_answer n 0 (length items) list items memory) (same_refusal which list memory)
  where
    pick : (n : ℕ) → count_of (told_as n (record { count = length items; yes = false }) (filled (length list) items memory) memory)
        ≡ list_answer n 0 (length items) list items memory
    pick zero = refl
    pick (suc n) = refl

pub simplify_v1_door : (m : ℕ) (list memory : List ℕ) → count_of (outcome_of (Simplified SimplifyV1) m list [] memory) ≡ simplify_v1_of list m memory
simplify_v1_door m list memory = counted SimplifyV1 list (simplification_items SimplifyV1 m list) memory

pub simplify_door : (m : ℕ) (list memory : List ℕ) → count_of (outcome_of (Simplified Simplify) m list [] memory) ≡ simplify_of list m memory
simplify_door m list memory = counted Simplify list (simplification_items Simplify m list) memory

-- what the work says of `merge`
abbrev merged_in : Lent Outcome → Lent Merged
merged_in l = record { number = l.number; value = record { count = l.value.count; changed = l.value.yes }; memory = l.memory }

merge_door : (m : ℕ) (list memory : List ℕ) → merged_in (outcome_of (Simplified Merge) m list [] memory) ≡ merge_of list m memory
merge_door m list memory =
    pick (refusal_of Merge list memory)
    ∙ ap (λ (n : ℕ). list_answer n no_merge value list items memory) (same_refusal Merge list memory)
  where
    items : List ℕ
    items = simplification_items Merge m list

    value : Merged
    value = record { count = length items; changed = merge_changes m list }

    pick : (n : ℕ)
        → merged_in (told_as n (record { count = length items; yes = merge_changes m list }) (filled (length list) items memory) memory)
        ≡ list_answer n no_merge value list items memory
    pick zero = refl
    pick (suc n) = refl

-- both ends of the code: a refusal, or the count and the change
module _ (m : ℕ) (list memory after : List ℕ) where
  pub merge_refused : (why : Refusal) → told_left (Err why) after ≡ outcome_of (Simplified Merge) m list [] memory
      → merged_left (Err why) after ≡ merge_of list m memory
  merge_refused why told = ap merged_in told ∙ merge_door m list memory

  pub merge_found : (done : Outcome) → told_left (Ok done) after ≡ outcome_of (Simplified Merge) m list [] memory
      → merged_left (Ok (record { count = done.count; changed = done.yes })) after ≡ merge_of list m memory
  merge_found done told = ap merged_in told ∙ merge_door m list memory
