-- `quadtree::gather` meets its contract: five steps move the groups together.
use Rattle.quadtree.specs.Digits.{groups, gather_steps}
use Rattle.quadtree.proofs.gather.Goals as goal

pub returns : goal.returns
unfolding groups
returns c = gather_steps c.args.n
