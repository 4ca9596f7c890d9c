-- `form_end` and `pair_end` call each other: a pair is read from fewer bytes than its form, and the left form of a pair from as many as the pair.
use Prim.Native.Nat.{◌+◌, ◌*◌}
use lib.ListN.{length}
use Rattle.form.proofs.+form_end_pair_end.Given as goal

abbrev pub decreases-pair_end : goal.decreases-pair_end
decreases-pair_end l = 2 * length l.bytes.now + 1

abbrev pub decreases-form_end : goal.decreases-form_end
decreases-form_end l = 2 * length l.bytes.now
