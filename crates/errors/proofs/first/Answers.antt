-- `errors::first`: of two refusals, neither of which is 0, the one with the lower turn.
use native.Mathlib.Omega.{arith}
use Rattle.errors.specs.Laws.{positive}
use Rattle.errors.specs.Turn.{the_earlier_is_first, the_later_is_second}
use Rattle.errors.proofs.first.Goals as goal

pub returns-then-turn : goal.returns-then-turn
returns-then-turn c = let a = c.args in
    the_later_is_second _ _ (omega (arith, (positive a.a).1)) (omega (arith, (positive a.b).1))
    (omega (arith, c.if-turn.true, c.turn-2.ensures, c.turn.ensures))

pub returns : goal.returns
returns c = the_earlier_is_first _ _ (omega (arith, (positive c.args.a).1))
    (omega (arith, c.if-turn.false, c.turn-2.ensures, c.turn.ensures))
