-- `run`: lists that are too long are refused, and the others find their scratch.
use mathlib.Core.Path.{refl}
use mathlib.Core.Logic.{inl, inr}
use native.Mathlib.Omega.{arith}
use lib.ListN.{length}
use Rattle.constants.specs.Limits.{max_entries}
use Rattle.work.specs.Told.{too_many}
use Rattle.boundary.proofs.run.Goals as goal

pub returns-then-a-gt-MAX_ENTRIES : goal.returns-then-a-gt-MAX_ENTRIES
unfolding max_entries
returns-then-a-gt-MAX_ENTRIES c = let a = c.args in
    too_many a.work a.m a.a.now a.b.now a.out.now (length a.a.now) (inl refl) c.if-a-gt-MAX_ENTRIES.true

pub returns-then-b-gt-MAX_ENTRIES : goal.returns-then-b-gt-MAX_ENTRIES
unfolding max_entries
returns-then-b-gt-MAX_ENTRIES c = let a = c.args in
    too_many a.work a.m a.a.now a.b.now a.out.now (length a.b.now) (inr refl) c.if-b-gt-MAX_ENTRIES.true

pub need-need-requires : goal.need-need-requires
unfolding max_entries
need-need-requires c = (omega (arith, c.if-a-gt-MAX_ENTRIES.false), omega (arith, c.if-b-gt-MAX_ENTRIES.false))

pub in_scratch-requires-clause-fits : goal.in_scratch-requires-clause-fits
unfolding max_entries
in_scratch-requires-clause-fits c = record {
  first_few = omega (arith, c.if-a-gt-MAX_ENTRIES.false);
  second_few = omega (arith, c.if-b-gt-MAX_ENTRIES.false);
  room = omega (arith, c.need-need.ensures.0, c.if-need-le-TINY.true);
}

pub climb-requires : goal.climb-requires
unfolding max_entries
climb-requires c = record {
  first_few = omega (arith, c.if-a-gt-MAX_ENTRIES.false);
  second_few = omega (arith, c.if-b-gt-MAX_ENTRIES.false);
  room = c.need-need.ensures.0;
}
