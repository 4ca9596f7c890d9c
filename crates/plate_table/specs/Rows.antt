-- The rows of the table of plates, and how the paper's words for an answer read in the terms of the promises.
use Rattle.std.specs.Prelude.{List, [], ◌∷◌, map, ℕ, ltb, length}
use Prim.Native.Char.{code}
use Prim.Native.String.{String, [] as empty, ◌∷◌ as ◌then◌}
use Rattle.errors.specs.Answer.{Answer, Lent, short, ◌when◌, ◌else◌}
use Rattle.ids.specs.Entry.{entries_of}
use Rattle.quadkey.specs.Key.{key_tile}
use Rattle.tile_list.specs.List.{list_answer}
use Rattle.zoom_ranges.specs.Ranges.{LentTwo, lent_two}

-- the plate in the paper's words, what the definition that the call promises gives, and what the paper says
pub record Row : Type 1 where
  pub words : String
  pub Answers : Type 0
  pub gives : Answers
  pub says : Answers

abbrev pub row : {A : Type 0} → String → A → A → Row
row {A} words gives says = record { words = words; Answers = A; gives = gives; says = says }

-- ---- what is sent

-- a key as its bytes
abbrev pub key : String → List ℕ
key empty = []
key (c then s) = code c ∷ key s

-- the tiles of keys, as a list holds them
abbrev pub entries_of_keys : List String → List ℕ
entries_of_keys keys = entries_of (map (λ s. (key_tile (key s)).value) keys)

-- ---- what is answered

abbrev pub answered_with : {A : Type 0} → A → Answer A
answered_with v = record { number = 0; value = v }

-- the number, and the zero of the type
abbrev pub refused : {A : Type 0} → ℕ → A → Answer A
refused n none = record { number = n; value = none }

-- of a list that is sent these entries are kept: their count, and they at the front of the memory with 0 in the other places that are
-- asked for; 12 where those places are not there
abbrev pub keeps : List ℕ → List ℕ → List ℕ → Lent ℕ
keeps sent kept memory = list_answer (12 when ltb (length memory) (length sent)) 0 (length kept) sent kept memory

-- ranges by their lowest and highest zooms; 12 where one of the two lists is too short
abbrev pub ranges : List ℕ → List ℕ → List ℕ → List ℕ → LentTwo
ranges from to lows highs = lent_two (short from lows else short to highs) from to lows highs
