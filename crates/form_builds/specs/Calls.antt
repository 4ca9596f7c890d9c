-- The build of a form: the four operations' calls that it asks for, the left operand's before the right one's, each on lists of 256 places.
use Rattle.std.specs.Prelude.{[], ◌∷◌, ◌++◌, ℕ, ◌+◌}
use Rattle.builds.specs.Build.{Operand, own, earlier, Operation, settling, union, common_part, difference, Call, Build}
use Rattle.form.specs.Form.{Form, tiles, pair}
use Rattle.form.specs.declared.Verb.{Verb}
use Rattle.form.specs.declared.Verb.TheVariants.{Plus, Both, Minus}
use Rattle.form_area.specs.Area.{run_entries, places}

abbrev pub operation : Verb → Operand → Operand → Operation
operation Plus = union
operation Both = common_part
operation Minus = difference

abbrev pub call : Operation → Call
call asked = record { asked = asked; memory = places }

-- how many calls a form asks for
unfoldable pub size : Form → ℕ
size (tiles runs) = 1
size (pair verb f g) = size f + size g + 1

-- the number of a form's last call, where n calls were made before
unfoldable pub last : ℕ → Form → ℕ
last n (tiles runs) = n
last n (pair verb f g) = n + size f + size g

-- the calls of a form, where n calls were made before
unfoldable pub calls : ℕ → Form → Build
calls n (tiles runs) = call (settling (own (run_entries runs))) ∷ []
calls n (pair verb f g) =
    calls n f ++ (calls (n + size f) g ++ (call (operation verb (earlier (last n f)) (earlier (last (n + size f) g))) ∷ []))
