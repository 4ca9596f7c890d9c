-- `quadtree::ranks` meets its contract: the keys before i have become ranks, and those from i on stand as they were.
use mathlib.Core.Path.{refl, ap, ◌∙◌}
use native.Mathlib.Omega.{arith}
use Rattle.quadtree.specs.Lists.{key_rank, number_at, mapped_length, mapped_at, mapped_next, mapped_all}
use Rattle.quadtree.proofs.ranks.Goals as goal

pub loop-key-init : goal.loop-key-init
loop-key-init c = record { same = refl; within = omega arith; written = refl }

pub rank-requires : goal.rank-requires
rank-requires c = let l = c.loop-key in
    rw (mapped_at l.invariant) (number_at _ _ c.requires (omega (arith, mapped_length l.invariant)))

pub loop-key-preserved : goal.loop-key-preserved
loop-key-preserved c = let l = c.loop-key in
    let e = c.rank.ensures ∙ ap (key_rank c.args.by) (mapped_at l.invariant) in
    mapped_next l.invariant (omega (arith, mapped_length l.invariant)) e

pub returns : goal.returns
returns c = let l = c.loop-key in mapped_all l.invariant (omega (arith, mapped_length l.invariant))
