-- What the boundary of lists does: of each work the refusal, the value, and what is left in the lent memory, by the sets of tiles. The
-- doors (`merge`, `area`) say the same in document 01's words.
--
--   changes_of      what `merge` says of change
--   work_refusal    the refusals behind 6, in the order of their tests
--   work_value      what it says where nothing is refused
--   work_left       what the lent memory holds then
--   outcome_of      the three together, with 6
--   count_of        of that the count alone
--   told_left       what the code hands back
use Rattle.std.specs.Prelude.{Bool, false, not, ◌&&◌, ◌||◌, List, map, ℕ, zero, suc, ◌+◌, ltb, length, Result}
use Rattle.bits.specs.Tests.{all_of, any_of}
use Rattle.work.specs.declared.Overlay.{Overlay}
use Rattle.work.specs.declared.Overlay.TheVariants.{Union, Common, Difference}
use Rattle.work.specs.declared.Simplification.{Simplification}
use Rattle.work.specs.declared.Simplification.TheVariants.{Merge, SimplifyV1, Simplify}
use Rattle.work.specs.declared.Outcome.{Outcome}
use Rattle.work.specs.declared.Work.{Work}
use Rattle.work.specs.declared.Work.TheVariants.{Simplified, Tested, Overlaid}
use Rattle.constants.specs.Limits.{max_zoom, max_entries}
use Rattle.errors.specs.Answer.{Lent, ◌when◌, ◌else◌}
use Rattle.errors.specs.Cases.{case_of}
use Rattle.errors.specs.declared.Refusal.{Refusal}
use Rattle.ids.specs.Entry.{entry_tile, is_entry}
use Rattle.overlay.specs.Overlay.{union_set, common_set, left_entries}
use Rattle.quadtree.specs.Lists.{entry_key}
use Rattle.quadtree.specs.declared.Key.{Key}
use Rattle.quadtree.specs.declared.Key.TheVariants.{Location, Morton}
use Rattle.settled.specs.Settled.{is_settled}
use Rattle.sort.specs.Sort.{sort_n}
use Rattle.tile.specs.declared.Tile.{Tile}
use Rattle.tile_list.specs.List.{listed, entries_in_order, filled}
use Rattle.tile_set.specs.Set.{joins, merged, simplified, simplified_v1}

-- works of one list: the set that is left of its tiles

abbrev pub simplification_set : Simplification → ℕ → (Tile → Bool) → Tile → Bool
simplification_set Merge m S = merged m S
simplification_set SimplifyV1 m S = simplified_v1 max_zoom m S
simplification_set Simplify m S = simplified max_zoom m S

abbrev pub simplification_items : Simplification → ℕ → List ℕ → List ℕ
simplification_items which m list = entries_in_order (simplification_set which m (listed list))

-- whether some tile of the list becomes its parent, with its three siblings
unfoldable pub merge_changes : ℕ → List ℕ → Bool
merge_changes m list = any_of (λ n. joins m (listed list) (entry_tile n)) list

abbrev pub changes_of : Simplification → ℕ → List ℕ → Bool
changes_of Merge m list = merge_changes m list
changes_of SimplifyV1 m list = false
changes_of Simplify m list = false

-- the number of a tile that its list is sorted by
abbrev pub sorted_by : Simplification → Key
sorted_by Merge = Morton
sorted_by SimplifyV1 = Location
sorted_by Simplify = Location

-- works of two lists, by the locations of their tiles, each list's in order

abbrev pub locations_of : List ℕ → List ℕ
locations_of list = sort_n (map (entry_key Location) list)

abbrev pub overlay_items : Overlay → List ℕ → List ℕ → List ℕ
overlay_items Union a b = entries_in_order (union_set a b)
overlay_items Common a b = entries_in_order (common_set a b)
overlay_items Difference a b = left_entries a b

-- the places that are asked for: one for each entry of both lists, or "its result's count and no more"
abbrev pub overlay_places : Overlay → List ℕ → List ℕ → ℕ
overlay_places Union a b = length a + length b
overlay_places Common a b = length a + length b
overlay_places Difference a b = length (left_entries a b)

-- all works

-- refusals 7 and 11 of two lists
abbrev pub pair_tests : List ℕ → List ℕ → ℕ
pair_tests a b = 7 when not (all_of is_entry a && all_of is_entry b) else 11 when not (is_settled a && is_settled b)

abbrev pub work_refusal : Work → List ℕ → List ℕ → List ℕ → ℕ
work_refusal (Simplified which) a b memory = 7 when not (all_of is_entry a) else 12 when ltb (length memory) (length a)
work_refusal Tested a b memory = 7 when not (all_of is_entry a)
work_refusal (Overlaid which) a b memory =
    pair_tests a b else 12 when ltb (length memory) (overlay_places which (locations_of a) (locations_of b))

abbrev pub work_value : Work → ℕ → List ℕ → List ℕ → Outcome
work_value (Simplified which) m a b = record { count = length (simplification_items which m a); yes = changes_of which m a }
work_value Tested m a b = record { count = 0; yes = is_settled a }
work_value (Overlaid which) m a b = record { count = length (overlay_items which (locations_of a) (locations_of b)); yes = false }

abbrev pub work_left : Work → ℕ → List ℕ → List ℕ → List ℕ → List ℕ
work_left (Simplified which) m a b memory = filled (length a) (simplification_items which m a) memory
work_left Tested m a b memory = memory
work_left (Overlaid which) m a b memory =
    filled (overlay_places which (locations_of a) (locations_of b)) (overlay_items which (locations_of a) (locations_of b)) memory

-- the zero of the type
abbrev pub no_outcome : Outcome
no_outcome = record { count = 0; yes = false }

-- a refusal and the memory as it was, or a value and what is left in the memory
abbrev pub told_as : ℕ → Outcome → List ℕ → List ℕ → Lent Outcome
told_as zero value after memory = record { number = 0; value = value; memory = after }
told_as (suc n) value after memory = record { number = suc n; value = no_outcome; memory = memory }

-- of lists that are not too long
abbrev pub few_of : Work → ℕ → List ℕ → List ℕ → List ℕ → Lent Outcome
few_of work m a b memory = told_as (work_refusal work a b memory) (work_value work m a b) (work_left work m a b memory) memory

-- 6 is tested first, also of a second list that is not worked on: the doors of such works hand on an empty one
abbrev pub outcome_of : Work → ℕ → List ℕ → List ℕ → List ℕ → Lent Outcome
outcome_of work m a b memory =
    told_as (6 when (ltb max_entries (length a) || ltb max_entries (length b)) else work_refusal work a b memory)
    (work_value work m a b) (work_left work m a b memory) memory

abbrev pub count_of : Lent Outcome → Lent ℕ
count_of l = record { number = l.number; value = l.value.count; memory = l.memory }

-- an answer of the code beside its memory
abbrev pub told_left : Result Outcome Refusal → List ℕ → Lent Outcome
told_left r memory = record { number = (case_of no_outcome r).number; value = (case_of no_outcome r).value; memory = memory }
