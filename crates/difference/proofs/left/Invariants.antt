-- `left`: after i tiles the walk stands where the next begins.
use Rattle.std.specs.Prelude.{◌≡◌}
use Rattle.difference.specs.Middle.{WalkedTo}
use Rattle.difference.proofs.left.Given as goal

abbrev pub invariant-loop-k : goal.invariant-loop-k
invariant-loop-k l = let s = l.initial.walk in
    WalkedTo l.kept l.gone s.out.now l.walk.out.now l.k-index l.walk.next l.walk.count
    × (l.walk.gone ≡ s.gone) × (l.walk.out.ghost_name ≡ s.out.ghost_name)
