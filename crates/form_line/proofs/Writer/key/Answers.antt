-- `key` meets its contract: the entry's tile is found, and its key is stored.
use mathlib.Core.Path.{◌≡◌, sym, ap}
use native.Mathlib.Omega.{arith}
use lib.ListN.{length}
use Rattle.form_line.specs.Stores.{stored_same}
use Rattle.form_line.specs.Text.{entry_found, entry_shown_lem}
use Rattle.ids.specs.Entry.{entry_tile}
use Rattle.ids.proofs.EntryLemmas.{accepted_entry}
use Rattle.form_line.proofs.Writer.key.Goals as goal
use Rattle.form_line.proofs.Writer.key.Goals.{In-Ok}

its_tile : (c : In-Ok) → c.in-Ok.t ≡ entry_tile c.args.entry
its_tile c = entry_found _ c.entry_tile.ensures c.in-Ok.is

pub tile-requires-clause-on_map : goal.tile-requires-clause-on_map
tile-requires-clause-on_map c = rw (its_tile (goal.at.tile-requires-clause-on_map c).In-Ok) (accepted_entry _ c.requires.entry)

pub tile-requires-clause-z_in_bounds : goal.tile-requires-clause-z_in_bounds
tile-requires-clause-z_in_bounds c = omega (arith, c.requires.in_bounds, ap length (entry_shown_lem _ _ (its_tile (goal.at.tile-requires-clause-z_in_bounds c).In-Ok)))

pub returns-in-Ok-clause-stored : goal.returns-in-Ok-clause-stored
returns-in-Ok-clause-stored c = stored_same (sym (entry_shown_lem _ _ (its_tile (goal.at.returns-in-Ok-clause-stored c).In-Ok))) c.tile.ensures.stored
