-- `located`: the two tests, one after the other.
use mathlib.Core.Path.{refl, sym, ◌∙◌, subst}
use Rattle.work.specs.Pairs.{located_no_tile, located_not_settled, located_fine}
use Rattle.work.specs.Steps.{KeyedBoth}
use Rattle.std.proofs.Common.{ap, not}
use Rattle.work.proofs.located.Goals as goal

pub returns-then-not-keyed : goal.returns-then-not-keyed
returns-then-not-keyed c = located_no_tile c.keyed.ensures (ap not c.if-not-keyed.true) refl

pub both_settled-requires : goal.both_settled-requires
both_settled-requires c = (
  c.requires ∙ sym c.keyed.auto.keys,
  subst (KeyedBoth c.args.a.now c.args.b.now _) c.if-not-keyed.false c.keyed.ensures,
)

pub returns-then-not-both_settled : goal.returns-then-not-both_settled
returns-then-not-both_settled c = let k = c.keyed in
    located_not_settled k.ensures (ap not c.if-not-keyed.false) c.both_settled.ensures (ap not c.if-not-both_settled.true) refl

pub returns : goal.returns
returns c = let k = c.keyed in
    located_fine k.ensures (ap not c.if-not-keyed.false) c.both_settled.ensures (ap not c.if-not-both_settled.false)
