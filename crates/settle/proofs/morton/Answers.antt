-- `morton`: a Morton code stands above the lowest set bit of its location.
use native.Mathlib.Omega.{arith}
use Rattle.constants.specs.Limits.{max_zoom_small}
use Rattle.quadtree.specs.Locations.{zeros_of, morton_of_lem}
use Rattle.settle.proofs.morton.Goals as goal

pub overflow_add-result : goal.overflow_add-result
overflow_add-result c = omega (arith, zeros_of c.requires, max_zoom_small)

pub overflow_cast-result : goal.overflow_cast-result
overflow_cast-result c = omega (arith, zeros_of c.requires, max_zoom_small)

pub overflow_shr-result : goal.overflow_shr-result
overflow_shr-result c = omega (arith, zeros_of c.requires, max_zoom_small)

pub returns : goal.returns
returns c = morton_of_lem c.requires
