-- `tile_zbox_around::all_of_zoom` meets its contract: whether all tiles are of the zoom is whether those from here on are.
use mathlib.Core.Path.{◌≡◌}
use lib.ListN.{drop}
use Rattle.bits.specs.Tests.{all_of}
use Rattle.tile_zbox_around.specs.Around.{of_zoom}
use Rattle.tile_zbox_around.proofs.all_of_zoom.Given as goal

abbrev pub invariant-loop-entry : goal.invariant-loop-entry
invariant-loop-entry l = all_of (of_zoom l.zoom) l.list ≡ all_of (of_zoom l.zoom) (drop l.entry-index l.list)
