-- `ids::entry` meets its contract: the number of `xyz2rmid`.
use Rattle.ids.specs.Entry.{entry_of}
use Rattle.ids.proofs.entry.Goals as goal

pub returns : goal.returns
unfolding entry_of
returns c = c.rmid.ensures
