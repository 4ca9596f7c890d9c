-- `tile_zbox_around::around` meets its contract: the box is that of the tiles before this one.
use mathlib.Core.Path.{◌≡◌}
use Prim.Native.Nat.{◌+◌}
use lib.ListN.{take}
use Rattle.tile_zbox_around.specs.Around.{box_around}
use Rattle.tile_zbox_around.proofs.around.Given as goal

abbrev pub invariant-loop-entry : goal.invariant-loop-entry
invariant-loop-entry l = l.b ≡ box_around (take (l.entry-index + 1) l.list)
