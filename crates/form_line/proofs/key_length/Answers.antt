-- `key_length` meets its contract: a key has a digit for each zoom, and `-` is one byte.
use mathlib.Core.Path.{◌≡◌, sym, ap, ◌∙◌}
use native.Mathlib.Omega.{arith}
use lib.ListN.{length}
use Rattle.form_line.specs.Line.{key_shown, entry_shown}
use Rattle.form_line.specs.Text.{entry_found, entry_not_refused, entry_shown_lem, root_shown, shown_length}
use Rattle.quadkey.specs.Key.{key_of}
use Rattle.form_line.proofs.key_length.Goals as goal
use Rattle.form_line.proofs.key_length.Goals.{In-Ok}

its_key : (c : In-Ok) → entry_shown c.args.entry ≡ key_shown (key_of c.in-Ok.t.x c.in-Ok.t.y c.in-Ok.t.z)
its_key c = entry_shown_lem _ _ (entry_found _ c.entry_tile.ensures c.in-Ok.is)

pub returns-then-t-eq0 : goal.returns-then-t-eq0
returns-then-t-eq0 c = sym (ap length (its_key (goal.at.returns-then-t-eq0 c).In-Ok ∙ root_shown _ _ _ c.if-t-eq0.true))

pub returns-else-t-eq0 : goal.returns-else-t-eq0
returns-else-t-eq0 c = sym (ap length (its_key (goal.at.returns-else-t-eq0 c).In-Ok) ∙ shown_length c.in-Ok.t.x c.in-Ok.t.y c.in-Ok.t.z (omega (arith, c.if-t-eq0.false)))

pub returns-in-Err : goal.returns-in-Err
returns-in-Err c = absurd (entry_not_refused _ c.requires c.entry_tile.ensures c.in-Err.is)
