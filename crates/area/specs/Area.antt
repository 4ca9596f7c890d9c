-- Union, common part and difference of two settled lists, from document 01's "Tile list": what each call answers and leaves in the
-- lent memory.
use Rattle.std.specs.Prelude.{Bool, not, ◌&&◌, ◌||◌, List, ◌++◌, map, ℕ, ◌+◌, ltb, length}
use Rattle.bits.specs.Tests.{all_of}
use Rattle.constants.specs.Limits.{max_zoom, max_entries}
use Rattle.errors.specs.Answer.{Lent, written, ◌when◌, ◌else◌}
use Rattle.ground.specs.Ground.{ground, settled_list}
use Rattle.ids.specs.Entry.{entry_tile, entries_of, is_entry}
use Rattle.settled.specs.Settled.{is_settled}
use Rattle.tile.specs.declared.Tile.{Tile}
use Rattle.tile_list.specs.List.{list_answer}

abbrev pub tiles_of : List ℕ → List Tile
tiles_of list = map entry_tile list

-- the deepest tiles inside any listed tile
abbrev pub ground_of : List ℕ → ℕ → ℕ → Bool
ground_of list = ground max_zoom (tiles_of list)

-- the one settled list with that ground
abbrev pub settled_entries : (ℕ → ℕ → Bool) → List ℕ
settled_entries G = entries_of (settled_list max_zoom G)

-- too many entries in either list, then a number of either that is no tile's, then a list of the two that is not settled
unfoldable pub pair_refusal : List ℕ → List ℕ → ℕ
pair_refusal a b =
    6 when (ltb max_entries (length a) || ltb max_entries (length b))
    else 7 when not (all_of is_entry a && all_of is_entry b)
    else 11 when not (is_settled a && is_settled b)

-- then less memory than a place for each entry of both lists
unfoldable pub pair_places_refusal : List ℕ → List ℕ → List ℕ → ℕ
pair_places_refusal a b memory = pair_refusal a b else 12 when ltb (length memory) (length a + length b)

abbrev pub union_entries : List ℕ → List ℕ → List ℕ
union_entries a b = settled_entries (λ X Y. ground_of a X Y || ground_of b X Y)

abbrev pub common_entries : List ℕ → List ℕ → List ℕ
common_entries a b = settled_entries (λ X Y. ground_of a X Y && ground_of b X Y)

abbrev pub difference_entries : List ℕ → List ℕ → List ℕ
difference_entries a b = settled_entries (λ X Y. ground_of a X Y && not (ground_of b X Y))

abbrev pub union_of : List ℕ → List ℕ → List ℕ → Lent ℕ
union_of a b memory = list_answer (pair_places_refusal a b memory) 0 (length (union_entries a b)) (a ++ b) (union_entries a b) memory

abbrev pub common_of : List ℕ → List ℕ → List ℕ → Lent ℕ
common_of a b memory = list_answer (pair_places_refusal a b memory) 0 (length (common_entries a b)) (a ++ b) (common_entries a b) memory

-- "Difference needs its result's count and no more": nothing behind the answer is set to 0
abbrev pub difference_of : List ℕ → List ℕ → List ℕ → Lent ℕ
difference_of a b memory = written (pair_refusal a b) (difference_entries a b) memory
