-- `value` and `pair` call each other: the two forms of a pair are shorter than the pair, and a pair is shorter than its form.
use lib.ListN.{length}
use Prim.Native.Nat.{◌+◌, ◌*◌}
use Rattle.form_area.proofs.+pair_value.Given as goal

abbrev pub decreases-value : goal.decreases-value
decreases-value l = 2 * length l.line.now

abbrev pub decreases-pair : goal.decreases-pair
decreases-pair l = 2 * length l.body.now + 1
