-- `simplified_v1`: the tiles that stay, passes until nothing changes, and the set as a list.
use Rattle.ancestors.specs.Simplify.{still_listed}
use Rattle.ancestors.proofs.simplified_v1.Goals as goal

pub returns : goal.returns
returns c = still_listed c.args.locations.now c.uncovered_codes-left.ensures
    c.passes-count.ensures c.finish.ensures
