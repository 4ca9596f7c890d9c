-- `tile_of` meets its contract.
use mathlib.Core.Path.{sym, ◌∙◌}
use Rattle.form_area.proofs.tile_of.Goals as goal

pub returns-then-is_dash : goal.returns-then-is_dash
returns-then-is_dash c = c.quadkey2xyz.ensures ∙ rw (sym c.is_dash.ensures ∙ c.if-is_dash.true)

pub returns : goal.returns
returns c = c.quadkey2xyz-2.ensures ∙ rw (sym c.is_dash.ensures ∙ c.if-is_dash.false)
