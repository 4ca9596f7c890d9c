-- `climb` goes on to the next rung, until the lists fit.
use Rattle.boundary.specs.Rungs.{rungs_above}
use Rattle.boundary.proofs.+climb.Given as goal

abbrev pub decreases-climb : goal.decreases-climb
decreases-climb l = rungs_above l.rung
