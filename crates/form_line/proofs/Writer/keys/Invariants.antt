-- `keys` meets its contract: after i turns the first i keys are stored.
use mathlib.Core.Path.{◌≡◌}
use lib.ListN.{take}
use Rattle.form_line.specs.Line.{keys_text}
use Rattle.form_line.specs.Stores.{Stored}
use Rattle.form_line.proofs.Writer.keys.Given as goal

abbrev pub invariant-loop-entry : goal.invariant-loop-entry
invariant-loop-entry l = (l.self.out.ghost_name ≡ l.initial.self.out.ghost_name)
    × Stored (keys_text (take l.entry-index l.list)) l.initial.self.at l.self.at l.initial.self.out.now l.self.out.now
