-- What is printed for a line: the keys of the settled list whose ground the plain account keeps, or the refusal's number.
use Rattle.std.specs.Prelude.{◌≡◌, refl, List, ℕ, zero, suc}
use Rattle.std.proofs.Common.{ap, ◌∙◌, arith}
use Rattle.form_area.specs.Area.{line_area}
use Rattle.form_builds.proofs.Line.{a_line's_answer_is_an_answer_of_a_build}
use Rattle.form_line.specs.Line.{answer_text, list_text, refusal_text, printed}
use Rattle.form_builds.specs.Printed.{KeysOfTheAccount}

accepted_text : (n : ℕ) (entries : List ℕ) → n ≡ 0 → answer_text n entries ≡ list_text entries
accepted_text zero entries e = refl
accepted_text (suc n) entries e = absurd (omega (arith, e))

pub the_keys_printed : (line : List ℕ) → (line_area line).number ≡ 0 → KeysOfTheAccount line
the_keys_printed line e =
    let a = a_line's_answer_is_an_answer_of_a_build line e in
    record {
      form = a.form;
      reads = a.reads;
      text = accepted_text (line_area line).number (line_area line).value e ∙ ap list_text a.answer_of_build.its_ground;
    }

-- a refused one: its number
refused_text : (n k : ℕ) (entries : List ℕ) → n ≡ suc k → answer_text n entries ≡ refusal_text n
refused_text zero k entries e = absurd (omega (arith, e))
refused_text (suc n) k entries e = refl

pub the_refusal_printed : (line : List ℕ) (k : ℕ) → (line_area line).number ≡ suc k
    → printed (line_area line) ≡ refusal_text (line_area line).number
the_refusal_printed line k e = refused_text (line_area line).number k (line_area line).value e
