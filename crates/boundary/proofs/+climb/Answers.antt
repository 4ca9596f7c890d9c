-- `climb` goes on to the next rung, until the lists fit.
use native.Mathlib.Omega.{arith}
use Rattle.constants.specs.Limits.{max_entries}
use Rattle.boundary.specs.Rungs.{short_rung, medium_rung, long_rung, longer_rung, nearer, fits_higher, fits_last}
use Rattle.boundary.specs.declared.Rung.TheVariants.{Medium, Long, Longer, Longest}
use Rattle.boundary.proofs.+climb.Goals as goal

pub in_scratch-requires-clause-fits : goal.in_scratch-requires-clause-fits
in_scratch-requires-clause-fits t c = fits_higher short_rung c.requires c.if-need-le-SHORT.true

pub climb-requires : goal.climb-requires
climb-requires t c = (nearer Medium c.decreases c.in-Short.is (omega arith), c.requires)

pub in_scratch-requires-then-need-le-MEDIUM-clause-fits : goal.in_scratch-requires-then-need-le-MEDIUM-clause-fits
in_scratch-requires-then-need-le-MEDIUM-clause-fits t c = fits_higher medium_rung c.requires c.if-need-le-MEDIUM.true

pub climb-requires-in-Medium : goal.climb-requires-in-Medium
climb-requires-in-Medium t c = (nearer Long c.decreases c.in-Medium.is (omega arith), c.requires)

pub in_scratch-requires-then-need-le-LONG-clause-fits : goal.in_scratch-requires-then-need-le-LONG-clause-fits
in_scratch-requires-then-need-le-LONG-clause-fits t c = fits_higher long_rung c.requires c.if-need-le-LONG.true

pub climb-requires-in-Long : goal.climb-requires-in-Long
climb-requires-in-Long t c = (nearer Longer c.decreases c.in-Long.is (omega arith), c.requires)

pub in_scratch-requires-then-need-le-LONGER-clause-fits : goal.in_scratch-requires-then-need-le-LONGER-clause-fits
in_scratch-requires-then-need-le-LONGER-clause-fits t c = fits_higher longer_rung c.requires c.if-need-le-LONGER.true

pub climb-requires-in-Longer : goal.climb-requires-in-Longer
climb-requires-in-Longer t c = (nearer Longest c.decreases c.in-Longer.is (omega arith), c.requires)

pub in_scratch-requires-in-Longest-clause-fits : goal.in_scratch-requires-in-Longest-clause-fits
unfolding max_entries
in_scratch-requires-in-Longest-clause-fits t c = fits_last c.requires
