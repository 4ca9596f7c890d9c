-- `zoom_bits::union` meets its contract: the set holds the zooms before this one.
use mathlib.Core.Path.{◌≡◌}
use lib.ListN.{take}
use Rattle.zoom_bits.specs.Bits.{set_of_zooms}
use Rattle.zoom_bits.proofs.union.Given as goal

abbrev pub invariant-loop-z : goal.invariant-loop-z
invariant-loop-z l = l.set ≡ set_of_zooms (take l.z-index l.zvec)
