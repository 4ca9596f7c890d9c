-- `ids::level_start` meets its contract: it is the number for zoom 31, shifted down.
use Rattle.ids.specs.Levels.{start_shifted}
use Rattle.ids.specs.Rmid.{level_start}
use Rattle.ids.proofs.level_start.Goals as goal

pub returns : goal.returns
unfolding level_start
returns c = start_shifted c.args.z c.requires
