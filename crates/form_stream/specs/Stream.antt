-- Standard input as lines, from document 01's "Form line": what is printed for the input, however it comes in.
use Rattle.std.specs.Prelude.{◌≡◌, refl, cond, List, [], ◌∷◌, ◌++◌, ℕ, ◌<◌, eqb, length}
use Rattle.std.proofs.Common.{arith}
use Rattle.form.specs.Form.{newline}
use Rattle.form_area.specs.Area.{line_area}
use Rattle.form_line.specs.Line.{printed}

-- "one form a line": the answer of a line, on a line of its own
unfoldable pub reply : List ℕ → List ℕ
reply line = printed (line_area line) ++ (newline ∷ [])

-- "A last line may lack its newline; empty input prints nothing"
abbrev pub last_reply : List ℕ → List ℕ
last_reply [] = []
last_reply (b ∷ bs) = reply (b ∷ bs)

pub last_replied : (line : List ℕ) → 0 < length line → last_reply line ≡ reply line
last_replied [] h = absurd (omega arith)
last_replied (b ∷ bs) h = refl

-- what is printed for the rest of the input, when the bytes of the current line so far are given; `said [] input` for all of it
unfoldable pub said : List ℕ → List ℕ → List ℕ
said line [] = last_reply line
said line (b ∷ rest) = cond (eqb b newline) (reply line ++ said [] rest) (said (line ++ (b ∷ [])) rest)

-- of that, the answers of the lines that end in a chunk
unfoldable pub ended : List ℕ → List ℕ → List ℕ
ended line [] = []
ended line (b ∷ rest) = cond (eqb b newline) (reply line ++ ended [] rest) (ended (line ++ (b ∷ [])) rest)

-- and the line so far behind it
unfoldable pub so_far : List ℕ → List ℕ → List ℕ
so_far line [] = line
so_far line (b ∷ rest) = cond (eqb b newline) (so_far [] rest) (so_far (line ++ (b ∷ [])) rest)
