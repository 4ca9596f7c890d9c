-- What the refusals of a build's calls mean, in document 01's words: 6, 7, 11 and 12 come exactly where their words hold and no lower
-- number's do. In proofs/RefusalsLemmas.antt `a_list_is_refused` says it of `list_refusal`, `a_pair_is_refused` of `pair_refusal`,
-- `a_call_is_refused` of the account's `refusal_of`, and `what_comes_back_is_refused` of what the four functions promise.
use Rattle.std.specs.Prelude.{◌≡◌, ◌↔◌, ◌⊎◌, Bool, not, ◌&&◌, ℕ, ◌+◌, ◌<◌, length}
use mathlib.Core.List.{List, Memᴰ}
use Rattle.area.specs.Area.{tiles_of, ground_of}
use Rattle.builds.specs.Build.{Operand, Operation, settling, union, common_part, difference}
use Rattle.constants.specs.Limits.{max_zoom, max_entries}
use Rattle.ground.specs.Ground.{Same, Settled}
use Rattle.ids.specs.Entry.{entry_of}
use Rattle.tile.specs.declared.Tile.{Tile}
use Rattle.tile_set.specs.Holds.{Valid}

-- "6 over 65,536 entries"
abbrev pub TooLong : List ℕ → Type 0
TooLong list = max_entries < length list

-- "7 no tile's number": some entry is that of no tile of the map
abbrev pub NoTiles : List ℕ → Type 0
NoTiles list = (n : ℕ) × Memᴰ n list × ((t : Tile) → Valid max_zoom t → entry_of t.x t.y t.z ≡ n → ⊥)

-- "11 list not settled"
abbrev pub NotSettled : List ℕ → Type 0
NotSettled list = Settled max_zoom (tiles_of list) → ⊥

-- one of the lists that an operation is handed
abbrev pub OneOf : (List ℕ → Type 0) → (Operand → List ℕ) → Operation → Type 0
OneOf P entries (settling a) = P (entries a)
OneOf P entries (union a b) = P (entries a) ⊎ P (entries b)
OneOf P entries (common_part a b) = P (entries a) ⊎ P (entries b)
OneOf P entries (difference a b) = P (entries a) ⊎ P (entries b)

-- "Union, common part and difference take two settled lists"; `simplify` takes any
abbrev pub Unsettled : (Operand → List ℕ) → Operation → Type 0
Unsettled entries (settling a) = ⊥
Unsettled entries (union a b) = NotSettled (entries a) ⊎ NotSettled (entries b)
Unsettled entries (common_part a b) = NotSettled (entries a) ⊎ NotSettled (entries b)
Unsettled entries (difference a b) = NotSettled (entries a) ⊎ NotSettled (entries b)

-- "`merge`, both settlings, union and common part need as many places as their input entries together; every other call needs the
-- result's count": that of the settled list whose ground is what is in the first set and not in the second
abbrev pub TooShort : (Operand → ℕ → ℕ → Bool) → (Operand → List ℕ) → Operation → ℕ → Type 0
TooShort set entries (settling a) places = places < length (entries a)
TooShort set entries (union a b) places = places < length (entries a) + length (entries b)
TooShort set entries (common_part a b) places = places < length (entries a) + length (entries b)
TooShort set entries (difference a b) places =
    (result : List ℕ) × Settled max_zoom (tiles_of result) × Same max_zoom (ground_of result) (λ X Y. set a X Y && not (set b X Y))
    × (places < length result)

-- "The lowest number that applies is given"; from request K4 on that is the first in the order of tests, in which 6, 7, 11 and 12 stand so:
-- n is that number, and 0 where none applies
pub record TestedFirst (six seven eleven twelve : Type 0) (n : ℕ) : Type 0 where
  pub is_6 : (n ≡ 6) ↔ six
  pub is_7 : (n ≡ 7) ↔ ((six → ⊥) × seven)
  pub is_11 : (n ≡ 11) ↔ ((six → ⊥) × (seven → ⊥) × eleven)
  pub is_12 : (n ≡ 12) ↔ ((six → ⊥) × (seven → ⊥) × (eleven → ⊥) × twelve)
  pub accepted : (n ≡ 0) ↔ ((six → ⊥) × (seven → ⊥) × (eleven → ⊥) × (twelve → ⊥))
  pub no_other : (n ≡ 0 → ⊥) → (n ≡ 6 → ⊥) → (n ≡ 7 → ⊥) → (n ≡ 11 → ⊥) → (n ≡ 12 → ⊥) → ⊥

-- a call whose operands stand for these sets, with these entries, and that is lent so many places
abbrev pub Refuses : (Operand → ℕ → ℕ → Bool) → (Operand → List ℕ) → Operation → ℕ → ℕ → Type 0
Refuses set entries asked places n =
    TestedFirst (OneOf TooLong entries asked) (OneOf NoTiles entries asked) (Unsettled entries asked) (TooShort set entries asked places) n
