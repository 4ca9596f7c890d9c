-- `keys_length` meets its contract: after i turns the length of the first i keys is counted.
use mathlib.Core.Path.{◌≡◌}
use lib.ListN.{length, take}
use Rattle.form_line.specs.Line.{keys_text}
use Rattle.form_line.proofs.keys_length.Given as goal

abbrev pub invariant-loop-entry : goal.invariant-loop-entry
invariant-loop-entry l = (l.n ≡ length (keys_text (take l.entry-index l.list)))
