-- The set of deepest tiles that a form's words say: those of the keys' tiles, in either form's set, in both, or in the first only.
use Rattle.std.specs.Prelude.{Bool, not, ◌&&◌, ◌||◌, ℕ}
use Rattle.area.specs.Area.{ground_of}
use Rattle.form.specs.Form.{Form, tiles, pair}
use Rattle.form.specs.declared.Verb.{Verb}
use Rattle.form.specs.declared.Verb.TheVariants.{Plus, Both, Minus}
use Rattle.form_area.specs.Area.{run_entries}

-- "union keeps the zoom-29 tiles in either set, common part those in both, difference those in the first and not in the second";
-- by document 02 they are zoom-30 tiles
abbrev pub kept_by : Verb → Bool → Bool → Bool
kept_by Plus u v = u || v
kept_by Both u v = u && v
kept_by Minus u v = u && not v

unfoldable pub form_set : Form → ℕ → ℕ → Bool
form_set (tiles runs) X Y = ground_of (run_entries runs) X Y
form_set (pair verb f g) X Y = kept_by verb (form_set f X Y) (form_set g X Y)
