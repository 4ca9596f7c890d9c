-- `fns::steps::parent` meets its contract: each call writes the digit of its step and goes on with one level fewer. The steps that are left fall.
use Rattle.fns.proofs.steps.+parent.Given as goal

abbrev pub decreases-parent : goal.decreases-parent
decreases-parent l = l.n
