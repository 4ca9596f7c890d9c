-- `zoom_bits::reversed` meets its contract: the number has the lower bits of its set.
use mathlib.Core.Path.{◌≡◌}
use Rattle.zoom_bits.specs.Bits.{set_of, down_from}
use Rattle.zoom_bits.proofs.reversed.Given as goal

abbrev pub invariant-loop-i : goal.invariant-loop-i
invariant-loop-i l = l.r ≡ set_of (down_from l.top l.set) l.i
