-- `left`: after i tiles the walk stands where the next begins.
use mathlib.Core.Path.{refl, ◌∙◌}
use Rattle.difference.specs.Middle.{begun, moved}
use Rattle.difference.proofs.left.Goals as goal

pub loop-k-init : goal.loop-k-init
loop-k-init c = let a = c.args in (begun a.kept.now a.gone.now a.out.now, refl, refl)

pub loop-k-preserved : goal.loop-k-preserved
loop-k-preserved c = let L = c.loop-k in
    let i = L.invariant in
    let e = c.tile.ensures in (
      moved c.args.kept.now c.args.gone.now c.args.out.now L.walk.out.now L.k-index L.walk.next L.walk.count i.0 c.requires.0
          c.loop-k-test.true _ _ _ _ c.low_bit.ensures (rw i.1 at e.walked),
      e.same_gone ∙ i.1,
      e.same_reference ∙ i.2,
    )
