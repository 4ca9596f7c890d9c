-- The reading of a line: the one form that it spells, or none. And the refusals that are judged on the whole line before any key.
use Rattle.std.specs.Prelude.{Bool, true, false, not, List, [], ℕ, suc, ltb, length}
use Rattle.std.proofs.Common.{sym, ◌∙◌, append-nil, arith}
use Rattle.constants.specs.Limits.{max_line}
use Rattle.errors.specs.Answer.{◌when◌, ◌else◌}
use Rattle.form.specs.Form.{Form, text, Reads, too_deep}
use Rattle.form.specs.Front.{FormFirst}
use Rattle.form.specs.Tried.{form_at}

pub at_front : (line : List ℕ) (f : Form) → Reads line f → FormFirst f [] line
at_front line f a = record { formed = a.formed; spelled = append-nil (text f) ∙ a.spelled }

-- the form that a line spells, or that there is none: all that is known of it is its type
unfoldable pub reading : (line : List ℕ) → Dec ((f : Form) × Reads line f)
reading line = pick (form_at (suc (length line)) [] line (omega arith))
  where
    pick : Dec ((f : Form) × FormFirst f [] line) → Dec ((f : Form) × Reads line f)
    pick (yes (f, a)) = yes (f, record { formed = a.formed; spelled = sym (append-nil (text f)) ∙ a.spelled })
    pick (no n) = no (λ r. n (r.0, at_front line r.0 r.1))

unfoldable pub is_reading : {line : List ℕ} → Dec ((f : Form) × Reads line f) → Bool
is_reading (yes r) = true
is_reading (no n) = false

-- "15 not a form"
unfoldable pub whole_refusal : List ℕ → ℕ
whole_refusal line = 15 when not (is_reading (reading line))

-- 13 for a line that is too long, 14 for too many open brackets, 15 for no form: judged on the whole line before any key
unfoldable pub line_refusal : List ℕ → ℕ
line_refusal line = 13 when ltb max_line (length line) else 14 when too_deep 0 line else whole_refusal line
