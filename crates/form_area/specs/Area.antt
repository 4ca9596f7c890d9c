-- The area of a form, from document 01's "Form line": nested calls of the four operations on lists of 256 places, and which refusal
-- comes first.
use Rattle.std.specs.Prelude.{Bool, false, cond, List, [], ◌∷◌, map, ℕ, ltb, eqb, length, replicate}
use Rattle.area.specs.Area.{union_of, common_of, difference_of}
use Rattle.constants.specs.Limits.{max_line, form_places}
use Rattle.errors.specs.Answer.{Answer, answer, Lent, written, ◌when◌, ◌else◌}
use Rattle.errors.specs.Gives.{answer_of}
use Rattle.form.specs.Form.{Form, tiles, pair, Reads, too_deep}
use Rattle.form.specs.Reading.{reading}
use Rattle.form.specs.declared.Verb.{Verb}
use Rattle.form.specs.declared.Verb.TheVariants.{Plus, Both, Minus}
use Rattle.ids.specs.Entry.{entry_of}
use Rattle.merge.specs.Merge.{simplify_of}
use Rattle.quadkey.specs.Key.{key_refusal, column_of, row_of}

abbrev pub is_dash : List ℕ → Bool
is_dash [] = false
is_dash (b ∷ []) = eqb b 45
is_dash (b ∷ (c ∷ bs)) = false

-- "`-` is the empty key", only as the whole K
abbrev pub key_of_run : List ℕ → List ℕ
key_of_run run = cond (is_dash run) [] run

-- "in `tiles`, keys from the left": the first bad key decides
unfoldable pub keys_refusal : List (List ℕ) → ℕ
keys_refusal [] = 0
keys_refusal (run ∷ runs) = key_refusal (key_of_run run) else keys_refusal runs

-- the entry of the tile that a key spells
abbrev pub key_entry : List ℕ → ℕ
key_entry key = entry_of (column_of key) (row_of key) (length key)

abbrev pub run_entries : List (List ℕ) → List ℕ
run_entries runs = map (λ run. key_entry (key_of_run run)) runs

-- "Each list has 256 places"
abbrev pub places : List ℕ
places = replicate form_places 0

-- "the others are union, common part, difference"
abbrev pub operated : Verb → List ℕ → List ℕ → List ℕ → Lent ℕ
operated Plus = union_of
operated Both = common_of
operated Minus = difference_of

-- what a call gives where nothing was refused before it
abbrev pub area_given : ℕ → Lent ℕ → Answer (List ℕ)
area_given refusal r = answer (refusal else r.number) [] (answer_of r)

-- "`tiles` settles at 0"; "then the left operand before the right", each whole, and then the operation
unfoldable pub form_area : Form → Answer (List ℕ)
form_area (tiles runs) = area_given (keys_refusal runs) (simplify_of (run_entries runs) 0 places)
form_area (pair verb f g) =
    area_given ((form_area f).number else (form_area g).number) (operated verb (form_area f).value (form_area g).value places)

-- the area of the form that was read; 15 where none was
abbrev pub read_area : {line : List ℕ} → Dec ((f : Form) × Reads line f) → Answer (List ℕ)
read_area (yes r) = form_area r.0
read_area (no n) = record { number = 15; value = [] }

-- "13, 14, 15" on the whole line, then what the form says
unfoldable pub line_area : List ℕ → Answer (List ℕ)
line_area line =
    answer (13 when ltb max_line (length line) else 14 when too_deep 0 line else (read_area (reading line)).number) []
    (read_area (reading line)).value

-- the area in lent memory: as many places as the area has entries
abbrev pub area_written : List ℕ → List ℕ → Lent ℕ
area_written line memory = written (line_area line).number (line_area line).value memory
