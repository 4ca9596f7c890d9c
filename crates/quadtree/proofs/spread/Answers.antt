-- `quadtree::spread` meets its contract: five steps move the groups apart.
use Rattle.quadtree.specs.Digits.{groups, spread_steps}
use Rattle.quadtree.proofs.spread.Goals as goal

pub returns : goal.returns
unfolding groups
returns c = spread_steps c.args.n c.ranges.n.fits
