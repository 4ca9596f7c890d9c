-- `tile_zbox_numbers::box_at` meets its contract: the five numbers from a place on are those of the list without its front.
use native.Mathlib.Omega.{arith}
use Rattle.constants.specs.Limits.{max_zoom_small}
use Rattle.tile_zbox_numbers.specs.Fives.{box_at_lem}
use Rattle.tile_zbox_numbers.proofs.box_at.Goals as goal

pub overflow_cast-result : goal.overflow_cast-result
overflow_cast-result c = omega (arith, max_zoom_small, c.requires.at_bound)

pub returns : goal.returns
returns c = box_at_lem c.args.boxes.now c.args.at
