-- `steps_to_test`: a tile is not an ancestor of itself, and of another tile nothing is tested yet.
use Rattle.ancestors.specs.Laws.{untested, top_tested}
use Rattle.ancestors.proofs.steps_to_test.Goals as goal

pub returns-then-morton-highest : goal.returns-then-morton-highest
returns-then-morton-highest c = top_tested c.requires.1 c.if-morton-highest.true

pub zoom-requires : goal.zoom-requires
zoom-requires c = c.requires.0

pub returns : goal.returns
returns c = rw c.zoom.ensures untested
