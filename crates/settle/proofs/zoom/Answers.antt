-- `zoom`: a location has two zeros below its lowest set bit for each step that its tile stands above the deepest zoom.
use native.Mathlib.Omega.{arith}
use Rattle.constants.specs.Limits.{max_zoom}
use Rattle.quadtree.specs.Locations.{zeros_of}
use Rattle.settle.proofs.zoom.Goals as goal

pub overflow_cast-result : goal.overflow_cast-result
unfolding max_zoom
overflow_cast-result c = omega (arith, zeros_of c.requires)

pub overflow_sub-result : goal.overflow_sub-result
unfolding max_zoom
overflow_sub-result c = omega (arith, zeros_of c.requires)

pub returns : goal.returns
unfolding max_zoom
returns c = omega (arith, zeros_of c.requires, c.requires.of_map.zoom)
