-- Document 01's "Tile list": what a list of entries stands for, when it is refused, and how an answer stands in the lent memory.
use Rattle.std.specs.Prelude.{Bool, not, ◌&&◌, List, ◌++◌, ℕ, zero, suc, ◌-◌, eqb, ltb, length, drop, replicate}
use Rattle.bits.specs.Tests.{all_of, any_of}
use Rattle.constants.specs.Limits.{max_zoom, max_entries}
use Rattle.errors.specs.Answer.{Lent, ◌when◌, ◌else◌}
use Rattle.ids.specs.Entry.{entry_tile, entries_of, is_entry}
use Rattle.tile.specs.declared.Tile.{Tile}
use Rattle.tile_set.specs.Set.{tiles_in_order}

abbrev pub same : Tile → Tile → Bool
same s t = (eqb s.x t.x && eqb s.y t.y) && eqb s.z t.z

-- the set of the tiles that numbers stand for, each number for one: any order, repeats read as one
unfoldable pub named : (ℕ → Tile) → List ℕ → Tile → Bool
named tile list t = any_of (λ n. same (tile n) t) list

-- the set of the tiles that a list of entries names
abbrev pub listed : List ℕ → Tile → Bool
listed list = named entry_tile list

-- a set as a list: its tiles' entries in the order of `Tile`'s `cmp`
abbrev pub entries_in_order : (Tile → Bool) → List ℕ
entries_in_order S = entries_of (tiles_in_order max_zoom S)

-- too many entries, then a number that is no tile's
unfoldable pub list_refusal : List ℕ → ℕ
list_refusal list = 6 when ltb max_entries (length list) else 7 when not (all_of is_entry list)

-- then less memory than a place for each entry as it was sent
unfoldable pub places_refusal : List ℕ → List ℕ → ℕ
places_refusal list memory = list_refusal list else 12 when ltb (length memory) (length list)

-- the answer at the front, 0 in the other places that were asked for, and the memory behind them as it was
abbrev pub filled : ℕ → List ℕ → List ℕ → List ℕ
filled places items memory = items ++ (replicate (places - length items) 0 ++ drop places memory)

-- a call on a list that gives a list: `value` beside it, or the refusal, the zero of the type and the memory as it was
abbrev pub list_answer : {A : Type 0} → ℕ → A → A → List ℕ → List ℕ → List ℕ → Lent A
list_answer zero none value list items memory = record { number = 0; value = value; memory = filled (length list) items memory }
list_answer (suc n) none value list items memory = record { number = suc n; value = none; memory = memory }
