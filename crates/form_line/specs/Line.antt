-- What is printed for a form line, from document 01's "Form line": "Output: count, then keys; or the refusal".
use Rattle.std.specs.Prelude.{List, [], ◌∷◌, ◌++◌, map, ℕ, zero, suc, length}
use Rattle.errors.specs.Answer.{Answer, Lent, written}
use Rattle.form.specs.Form.{space, opening, closing, spaced}
use Rattle.form_area.specs.Area.{line_area}
use Rattle.form_line.specs.Decimal.{decimal}
use Rattle.ids.specs.Entry.{entry_tile}
use Rattle.quadkey.specs.Key.{key_of}

-- "`-` is the empty key"
abbrev pub key_shown : List ℕ → List ℕ
key_shown [] = 45 ∷ []
key_shown (b ∷ bs) = b ∷ bs

-- the key of the tile that an entry stands for
unfoldable pub entry_shown : ℕ → List ℕ
entry_shown n = key_shown (key_of (entry_tile n).x (entry_tile n).y (entry_tile n).z)

-- the bytes of `refused`
abbrev pub refused_word : List ℕ
refused_word = 114 ∷ 101 ∷ 102 ∷ 117 ∷ 115 ∷ 101 ∷ 100 ∷ []

-- the keys of entries, a space before each
abbrev pub keys_text : List ℕ → List ℕ
keys_text entries = spaced (map entry_shown entries)

-- brackets around a word and what follows it
abbrev pub bracketed : List ℕ → List ℕ → List ℕ
bracketed word rest = opening ∷ (word ++ (rest ++ (closing ∷ [])))

abbrev pub list_text : List ℕ → List ℕ
list_text entries = bracketed (decimal (length entries)) (keys_text entries)

abbrev pub refusal_text : ℕ → List ℕ
refusal_text n = bracketed refused_word (space ∷ decimal n)

-- "count, then keys; or the refusal"
abbrev pub answer_text : ℕ → List ℕ → List ℕ
answer_text zero entries = list_text entries
answer_text (suc n) entries = refusal_text (suc n)

abbrev pub printed : Answer (List ℕ) → List ℕ
printed a = answer_text a.number a.value

-- the line's answer in lent memory, which is tested last
abbrev pub line_written : List ℕ → List ℕ → Lent ℕ
line_written line memory = written 0 (printed (line_area line)) memory
