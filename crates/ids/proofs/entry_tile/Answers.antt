-- `ids::entry_tile` meets its contract: an entry is the number of `xyz2rmid`.
use Rattle.ids.specs.Entry.{entry_tile, entry_refusal}
use Rattle.ids.proofs.entry_tile.Goals as goal

pub returns : goal.returns
unfolding entry_tile entry_refusal
returns c = c.rmid2xyz.ensures
