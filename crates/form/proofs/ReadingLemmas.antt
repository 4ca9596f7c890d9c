-- What the reading of a line is, and which lines are refused before any key.
use Rattle.std.specs.Prelude.{◌≡◌, refl, Bool, true, false, not, List, [], ◌++◌, ℕ, ◌≤◌, ◌<◌, ltb, length, drop, Some, None}
use Rattle.std.proofs.Common.{sym, ap, ◌∙◌, append-nil, arith, length-drop, ltb-false, lt-ltb, le-ltb}
use Rattle.std.proofs.Math.Seq.{drop-length}
use Rattle.constants.specs.Limits.{max_line}
use Rattle.errors.specs.Answer.{◌when◌, ◌else◌}
use Rattle.form.specs.Ends.{FormEnds}
use Rattle.form.specs.Form.{Form, text, Reads, too_deep}
use Rattle.form.proofs.OnceLemmas.{one_form}
use Rattle.form.specs.Reading.{at_front, is_reading, line_refusal, reading, whole_refusal}

-- no line has two readings
pub one_reading : (line : List ℕ) (f g : Form) → Reads line f → Reads line g → f ≡ g
one_reading line f g a b = (one_form f g [] [] line (at_front line f a) (at_front line g b)).0

-- a form that takes the whole line is its reading, and what stands at the front of a line otherwise is none
pub whole_line : (line : List ℕ) (n : ℕ) (e : FormEnds (Some n) line) → n ≡ length line → Reads line e.1.0
whole_line line n e h =
    record {
      formed = e.1.1.formed;
      spelled =
          sym (append-nil (text e.1.0)) ∙ (ap (λ (l : List ℕ). text e.1.0 ++ l) (sym (rw h (drop-length line))) ∙ e.1.1.spelled);
    }

pub part_of_line : (line : List ℕ) (n : ℕ) (e : FormEnds (Some n) line) → (n ≡ length line → ⊥) → (f : Form) → Reads line f → ⊥
part_of_line line n e d f a =
    let h = (one_form f e.1.0 [] (drop n line) line (at_front line f a) e.1.1).1 in
    d (omega (arith, e.0, ap length h, length-drop n line))

pub no_reading : (line : List ℕ) → FormEnds None line → (f : Form) → Reads line f → ⊥
no_reading line never f a = never f [] (at_front line f a)

pub whole_fine : (line : List ℕ) (f : Form) → Reads line f → whole_refusal line ≡ 0
unfolding whole_refusal is_reading
whole_fine line f r = go (reading line)
  where
    go : (d : Dec ((f : Form) × Reads line f)) → 15 when not (is_reading d) ≡ 0
    go (yes s) = refl
    go (no n) = absurd (n (f, r))

pub whole_refused : (line : List ℕ) → ((f : Form) → Reads line f → ⊥) → whole_refusal line ≡ 15
unfolding whole_refusal is_reading
whole_refused line never = go (reading line)
  where
    go : (d : Dec ((f : Form) × Reads line f)) → 15 when not (is_reading d) ≡ 15
    go (yes s) = absurd (never s.0 s.1)
    go (no n) = refl

pub line_too_long : (line : List ℕ) → max_line < length line → line_refusal line ≡ 13
unfolding line_refusal
line_too_long line h = rw (lt-ltb _ _ h)

pub line_too_deep : (line : List ℕ) → length line ≤ max_line → too_deep 0 line ≡ true → line_refusal line ≡ 14
unfolding line_refusal
line_too_deep line h e = rw (le-ltb _ _ h, e)

pub line_in_limits : (line : List ℕ) → length line ≤ max_line → too_deep 0 line ≡ false → line_refusal line ≡ whole_refusal line
unfolding line_refusal
line_in_limits line h e = rw (le-ltb _ _ h, e)

-- a line that is not refused before its keys are read has a reading
pub line_fine : (line : List ℕ) → line_refusal line ≡ 0 → (length line ≤ max_line) × ((f : Form) × Reads line f)
unfolding line_refusal whole_refusal is_reading
line_fine line e = long (ltb max_line (length line)) refl e
  where
    form : (d : Dec ((f : Form) × Reads line f)) → 15 when not (is_reading d) ≡ 0 → (f : Form) × Reads line f
    form (yes r) f = r
    form (no n) f = absurd (omega (arith, f))

    deep : (b : Bool) → 14 when b else 15 when not (is_reading (reading line)) ≡ 0 → (f : Form) × Reads line f
    deep true f = absurd (omega (arith, f))
    deep false f = form (reading line) f

    long : (b : Bool) → ltb max_line (length line) ≡ b
        → 13 when b else 14 when too_deep 0 line else 15 when not (is_reading (reading line)) ≡ 0
        → (length line ≤ max_line) × ((f : Form) × Reads line f)
    long true g f = absurd (omega (arith, f))
    long false g f = (ltb-false _ _ g, deep (too_deep 0 line) f)
