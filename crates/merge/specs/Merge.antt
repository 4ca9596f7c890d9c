-- What the calls on tile lists answer, from document 01.
use Rattle.errors.specs.declared.Refusal.{Refusal}
use Rattle.std.specs.Prelude.{false, List, ℕ, length, Result, Ok, Err}
use Rattle.constants.specs.Limits.{max_zoom}
use Rattle.errors.specs.Answer.{Answer, Lent}
use Rattle.errors.specs.Cases.{refused_as}
use Rattle.tile_list.specs.List.{listed, entries_in_order, places_refusal, list_answer}
use Rattle.tile_set.specs.Set.{merged, simplified, simplified_v1}
use Rattle.work.specs.Work.{merge_changes}
use Rattle.merge.specs.declared.Merged.{Merged}

abbrev pub no_merge : Merged
no_merge = record { count = 0; changed = false }

abbrev pub merge_case : Result Merged Refusal → Answer Merged
merge_case (Ok r) = record { number = 0; value = r }
merge_case (Err why) = refused_as why no_merge

-- an answer beside its memory
abbrev pub merged_left : Result Merged Refusal → List ℕ → Lent Merged
merged_left r memory = record { number = (merge_case r).number; value = (merge_case r).value; memory = memory }

-- the list's set after one pass, in order
abbrev pub merge_of : List ℕ → ℕ → List ℕ → Lent Merged
merge_of list m memory =
    list_answer (places_refusal list memory) no_merge
    (record { count = length (entries_in_order (merged m (listed list))); changed = merge_changes m list })
    list (entries_in_order (merged m (listed list))) memory

-- the list's set, simplified as the first version does, in order
abbrev pub simplify_v1_of : List ℕ → ℕ → List ℕ → Lent ℕ
simplify_v1_of list m memory =
    list_answer (places_refusal list memory) 0 (length (entries_in_order (simplified_v1 max_zoom m (listed list))))
    list (entries_in_order (simplified_v1 max_zoom m (listed list))) memory

-- the list's set, simplified, in order
abbrev pub simplify_of : List ℕ → ℕ → List ℕ → Lent ℕ
simplify_of list m memory =
    list_answer (places_refusal list memory) 0 (length (entries_in_order (simplified max_zoom m (listed list))))
    list (entries_in_order (simplified max_zoom m (listed list))) memory
