-- `quadtree::zoom_in` meets its contract: a number that is not 0 has at most 63 leading zeros.
use native.Mathlib.Omega.{arith}
use lib.Count.{leading_top}
use borrow.Author.Rules.{rules}
use Rattle.quadtree.specs.Numbers.{zoom_in}
use Rattle.quadtree.proofs.zoom_in.Goals as goal

pub overflow_sub-result : goal.overflow_sub-result
overflow_sub-result c = omega (arith, (leading_top 64 c.args.n c.requires c.ranges.n.fits).1)

pub returns : goal.returns
unfolding zoom_in
returns c = search rules
