-- `errors::turn`: refusals are tested in the order of their numbers, but for 16, whose turn is before that of 4.
use native.Mathlib.Omega.{arith}
use borrow.Author.Tests.{ne_eqb, lt-ltb, le-ltb}
use Rattle.errors.specs.Laws.{positive}
use Rattle.errors.specs.Turn.{turn_by_number}
use Rattle.errors.proofs.turn.Goals as goal

pub returns-then-n-eq16 : goal.returns-then-n-eq16
returns-then-n-eq16 c = rw (turn_by_number _, ← c.number-n.ensures, c.if-n-eq16.true)

pub overflow_sub-result : goal.overflow_sub-result
overflow_sub-result c = omega (arith, (positive c.args.why).1)

pub returns-then-n-lt4 : goal.returns-then-n-lt4
returns-then-n-lt4 c = rw (turn_by_number _, ← c.number-n.ensures, ne_eqb _ _ c.if-n-eq16.false, lt-ltb _ _ c.if-n-lt4.true)

pub returns : goal.returns
returns c = rw (turn_by_number _, ← c.number-n.ensures, ne_eqb _ _ c.if-n-eq16.false, le-ltb _ _ c.if-n-lt4.false)
