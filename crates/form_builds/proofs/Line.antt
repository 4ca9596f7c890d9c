-- A line's answer is an answer of a build, as specs/Line.antt claims it.
use Rattle.std.specs.Prelude.{◌≡◌, refl, List, [], ℕ, zero, suc}
use Rattle.std.proofs.Common.{sym, ap, ◌∙◌, subst, arith}
use Rattle.area.specs.Area.{ground_of, settled_entries}
use Rattle.area.proofs.Grounds.{settled_ground}
use Rattle.builds.specs.Demand3.{Answered, kept}
use Rattle.builds.proofs.Demand3.{an_answer_is_the_list_asked_for}
use Rattle.errors.specs.Answer.{Answer}
use Rattle.form.specs.Form.{Form}
use Rattle.form.specs.Reading.{line_refusal}
use Rattle.form.proofs.ReadingLemmas.{line_fine}
use Rattle.form_area.specs.Area.{form_area, line_area}
use Rattle.form_area.specs.Lines.{line_area_lem, line_refused}
use Rattle.form_builds.proofs.Run.{form_gave, calls_within}
use Rattle.form_builds.specs.Sets.{form_set}
use Rattle.form_builds.proofs.SetsLemmas.{area_of_set}
use Rattle.form_builds.specs.Line.{AnswerOfBuild, LineAnswer, build_of, last_of}

pub an_area_is_an_answer : (f : Form) → (form_area f).number ≡ 0 → AnswerOfBuild f (form_area f).value
an_area_is_an_answer f e =
    let g = form_gave f [] e in
    let a : Answered (build_of f) (last_of f) = record { made = calls_within f; accepted = g.number } in
    let asked = an_answer_is_the_list_asked_for (build_of f) (last_of f) in
    let set = (kept (build_of f) (last_of f)).set in
    let same : settled_entries set ≡ settled_entries (form_set f) = sym asked ∙ (g.list_given ∙ area_of_set f e) in
    record {
      answered = a;
      its_list = sym g.list_given;
      its_ground = sym g.list_given ∙ asked;
      its_words = λ X Y i j.
          sym (settled_ground set X Y i j) ∙ (ap (λ (l : List ℕ). ground_of l X Y) same ∙ settled_ground (form_set f) X Y i j);
    }

refused_before : (line : List ℕ) → (line_area line).number ≡ 0 → (n : ℕ) → line_refusal line ≡ n → line_refusal line ≡ 0
refused_before line e zero h = h
refused_before line e (suc n) h = absurd (omega (arith, e, line_refused line n h))

pub a_line's_answer_is_an_answer_of_a_build : (line : List ℕ) → (line_area line).number ≡ 0 → LineAnswer line
a_line's_answer_is_an_answer_of_a_build line e =
    let z = refused_before line e (line_refusal line) refl in
    let f = (line_fine line z).1 in
    let a = line_area_lem line f.0 f.1 z in
    record {
      form = f.0;
      reads = f.1;
      answer_of_build = subst (AnswerOfBuild f.0) (ap (λ (r : Answer (List ℕ)). r.value) (sym a))
          (an_area_is_an_answer f.0 (ap (λ (r : Answer (List ℕ)). r.number) (sym a) ∙ e));
    }
