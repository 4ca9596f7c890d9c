-- What is claimed of a line's answer: the area of an accepted line is the answer of the last call of its form's build, so demand 3 holds
-- of it, and it is the settled list of the set that the plain account keeps.
use Rattle.std.specs.Prelude.{◌≡◌, List, ℕ}
use Rattle.area.specs.Area.{settled_entries}
use Rattle.builds.specs.Build.{Build}
use Rattle.builds.specs.Demand3.{Answered, call_answer, kept}
use Rattle.constants.specs.Limits.{max_zoom}
use Rattle.form.specs.Form.{Form, Reads}
use Rattle.form_area.specs.Area.{line_area}
use Rattle.form_builds.specs.Calls.{last, calls}
use Rattle.form_builds.specs.Sets.{form_set}
use Rattle.ground.specs.Ground.{Same}

abbrev pub build_of : Form → Build
build_of f = calls 0 f

-- the number of the build's last call
abbrev pub last_of : Form → ℕ
last_of f = last 0 f

pub record AnswerOfBuild (f : Form) (list : List ℕ) : Type 0 where
  -- the list is the answer of the last call of the form's build
  pub answered : Answered (build_of f) (last_of f)
  pub its_list : list ≡ call_answer (build_of f) (last_of f)
  -- and the settled list of what the plain account, fed with the calls alone, keeps for that call
  pub its_ground : list ≡ settled_entries (kept (build_of f) (last_of f)).set
  -- which is the set that the form's words say
  pub its_words : Same max_zoom (kept (build_of f) (last_of f)).set (form_set f)

-- what a line means: the form that it spells, and the answer of that form's build
pub record LineAnswer (line : List ℕ) : Type 0 where
  pub form : Form
  pub reads : Reads line form
  pub answer_of_build : AnswerOfBuild form (line_area line).value
