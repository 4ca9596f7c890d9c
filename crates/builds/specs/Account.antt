-- Document 01's plain account beside a build. It is fed with the calls alone: the operation, the caller's own lists, which earlier
-- calls' answers go in, and the length of the lent memory. It keeps sets of deepest tiles and sees nothing of what comes back.
use Rattle.std.specs.Prelude.{Bool, false, not, ◌&&◌, ◌||◌, List, ℕ, zero, suc, ◌+◌, ltb, length, get_or}
use Rattle.area.specs.Area.{ground_of, settled_entries, pair_refusal}
use Rattle.builds.specs.Build.{Operand, own, earlier, Operation, settling, union, common_part, difference, Call}
use Rattle.builds.specs.InTurn.{in_turn}
use Rattle.errors.specs.Answer.{◌when◌, ◌else◌}
use Rattle.tile_list.specs.List.{list_refusal}

-- what it is told of a call
pub record Told : Type 0 where
  pub asked : Operation
  pub places : ℕ

abbrev pub told : Call → Told
told c = record { asked = c.asked; places = length c.memory }

-- what it keeps of a call: the refusal's number, 0 where the call is accepted, and the set
pub record Kept : Type 0 where
  pub refusal : ℕ
  pub set : ℕ → ℕ → Bool

abbrev pub nothing : ℕ → ℕ → Bool
nothing X Y = false

-- what is read where a call was not made
abbrev pub nothing_kept : Kept
nothing_kept = record { refusal = 0; set = nothing }

abbrev pub set_at : List Kept → ℕ → ℕ → ℕ → Bool
set_at kept i = (get_or kept i nothing_kept).set

-- "A list of the caller's own stands for its ground, an answer for the set kept with it"
abbrev pub set_for : List Kept → Operand → ℕ → ℕ → Bool
set_for kept (own list) = ground_of list
set_for kept (earlier i) = set_at kept i

-- "Where a refusal below asks for the entries or the count of an answer, they are those of the one settled list whose ground is that set"
abbrev pub entries_for : List Kept → Operand → List ℕ
entries_for kept (own list) = list
entries_for kept (earlier i) = settled_entries (set_at kept i)

-- What follows is of a call whose operands stand for these sets, with these entries. "`simplify` keeps the set of the list handed in;
-- union keeps the zoom-29 tiles in either set, common part those in both, difference those in the first and not in the second";
-- by document 02 they are zoom-30 tiles
abbrev pub set_kept : (Operand → ℕ → ℕ → Bool) → Operation → ℕ → ℕ → Bool
set_kept set (settling a) X Y = set a X Y
set_kept set (union a b) X Y = set a X Y || set b X Y
set_kept set (common_part a b) X Y = set a X Y && set b X Y
set_kept set (difference a b) X Y = set a X Y && not (set b X Y)

-- the places that it needs: one for each entry handed in, and for a difference one for each entry of its result
abbrev pub places_for : (Operand → ℕ → ℕ → Bool) → (Operand → List ℕ) → Operation → ℕ
places_for set entries (settling a) = length (entries a)
places_for set entries (union a b) = length (entries a) + length (entries b)
places_for set entries (common_part a b) = length (entries a) + length (entries b)
places_for set entries (difference a b) = length (settled_entries (set_kept set (difference a b)))

-- refusals 6 and 7, and for two lists 11
abbrev pub lists_refusal : (Operand → List ℕ) → Operation → ℕ
lists_refusal entries (settling a) = list_refusal (entries a)
lists_refusal entries (union a b) = pair_refusal (entries a) (entries b)
lists_refusal entries (common_part a b) = pair_refusal (entries a) (entries b)
lists_refusal entries (difference a b) = pair_refusal (entries a) (entries b)

-- then 12
abbrev pub refusal_of : (Operand → ℕ → ℕ → Bool) → (Operand → List ℕ) → Told → ℕ
refusal_of set entries c = lists_refusal entries c.asked else 12 when ltb c.places (places_for set entries c.asked)

-- "A call to which a refusal below applies is refused and keeps nothing"
abbrev pub keep : ℕ → (ℕ → ℕ → Bool) → Kept
keep zero set = record { refusal = 0; set = set }
keep (suc n) set = record { refusal = suc n; set = nothing }

abbrev pub kept_of : (Operand → ℕ → ℕ → Bool) → (Operand → List ℕ) → Told → Kept
kept_of set entries c = keep (refusal_of set entries c) (set_kept set c.asked)

abbrev pub kept_next : List Kept → Told → Kept
kept_next kept c = kept_of (set_for kept) (entries_for kept) c

-- "At first it is empty": what it has kept after the calls of a build, one after the other
abbrev pub account : List Kept → List Told → List Kept
account kept calls = in_turn kept_next kept calls
