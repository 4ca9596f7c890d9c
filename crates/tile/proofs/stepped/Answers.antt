-- `tile::stepped` meets its contract: each kind of step makes the test that `leaves` makes for it.
use borrow.Author.Tests.{eq-eqb, ne_eqb}
use Rattle.tile.proofs.stepped.Goals as goal

pub returns-then-n-eq0 : goal.returns-then-n-eq0
returns-then-n-eq0 c = rw (c.in-Back.is, eq-eqb _ _ c.if-n-eq0.true)

pub returns-else-n-eq0 : goal.returns-else-n-eq0
returns-else-n-eq0 c = rw (c.in-Back.is, ne_eqb _ _ c.if-n-eq0.false)

pub returns-in-Stay : goal.returns-in-Stay
returns-in-Stay c = rw c.in-Stay.is

pub returns-then-n-end : goal.returns-then-n-end
returns-then-n-end c = rw (c.in-On.is, eq-eqb _ _ c.if-n-end.true)

pub returns-else-n-end : goal.returns-else-n-end
returns-else-n-end c = rw (c.in-On.is, ne_eqb _ _ c.if-n-end.false)
