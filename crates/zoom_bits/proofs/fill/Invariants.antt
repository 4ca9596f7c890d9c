-- `zoom_bits::fill` meets its contract: the zooms below this one stand in the front, and the rest is as it came.
use mathlib.Core.Path.{◌≡◌}
use mathlib.Core.List.{◌++◌}
use lib.ListN.{length, drop}
use Rattle.zoom_bits.specs.Bits.{has_bit, those}
use Rattle.zoom_bits.proofs.fill.Given as goal

abbrev pub invariant-loop-z : goal.invariant-loop-z
invariant-loop-z l = (l.k ≡ length (those (has_bit l.set) l.z)) × (l.out ≡ those (has_bit l.set) l.z ++ drop l.k l.initial.out)
