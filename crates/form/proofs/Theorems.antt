-- What the grammar of `Form.antt` says of lines, in the paper's words.
use Rattle.std.specs.Prelude.{◌≡◌, true, false, List, ◌↔◌, ℕ, ◌≤◌, ◌<◌, length}
use Rattle.std.proofs.Common.{arith}
use Rattle.constants.specs.Limits.{max_line}
use Rattle.form.specs.Form.{Form, Reads, too_deep}
use Rattle.form.specs.Reading.{line_refusal}
use Rattle.form.proofs.ReadingLemmas.{one_reading, whole_fine, whole_refused, line_too_long, line_too_deep, line_in_limits}

-- no line has two readings
pub no_line_has_two_readings : (line : List ℕ) (f g : Form) → Reads line f → Reads line g → f ≡ g
no_line_has_two_readings = one_reading

-- "13 over 4,096 bytes", whatever else is wrong with the line
pub thirteen_first : (line : List ℕ) → max_line < length line → line_refusal line ≡ 13
thirteen_first = line_too_long

-- "14 more than 16 brackets open at some byte", on a line that is not too long, whether or not it is a form
pub then_fourteen : (line : List ℕ) → length line ≤ max_line → too_deep 0 line ≡ true → line_refusal line ≡ 14
then_fourteen = line_too_deep

-- "15 not a form": then exactly the lines that no form spells are refused, and the others are not
module _ (line : List ℕ) (h : length line ≤ max_line) (d : too_deep 0 line ≡ false) where
  pub then_fifteen_is_no_form : (line_refusal line ≡ 15) ↔ ((f : Form) → Reads line f → ⊥)
  then_fifteen_is_no_form = (
    λ e f r. let z = line_in_limits line h d in let y = whole_fine line f r in omega (arith, e, z, y),
    λ never. rw (line_in_limits line h d) (whole_refused line never),
  )

  pub a_form_is_not_refused : (f : Form) → Reads line f → line_refusal line ≡ 0
  a_form_is_not_refused f r = rw (line_in_limits line h d) (whole_fine line f r)
