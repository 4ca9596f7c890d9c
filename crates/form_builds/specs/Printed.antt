-- What is printed for a line, in the terms of demand 3 and of the paper.
use Rattle.std.specs.Prelude.{◌≡◌, List, ℕ}
use Rattle.area.specs.Area.{settled_entries}
use Rattle.builds.specs.Demand3.{kept}
use Rattle.form.specs.Form.{Form, Reads}
use Rattle.form_area.specs.Area.{line_area}
use Rattle.form_builds.specs.Line.{build_of, last_of}
use Rattle.form_line.specs.Line.{list_text, printed}

-- an accepted line: the count and the keys of the settled list whose ground the plain account keeps for the form that the line spells
pub record KeysOfTheAccount (line : List ℕ) : Type 0 where
  pub form : Form
  pub reads : Reads line form
  pub text : printed (line_area line) ≡ list_text (settled_entries (kept (build_of form) (last_of form)).set)
