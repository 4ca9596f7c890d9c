-- The lemmas that the check of a box and its scaling lack, for the tactics named at the functions.
use Rattle.std.proofs.Common.{pow_pos}
use Rattle.constants.specs.Limits.{max_zoom_small}
use Rattle.tile.specs.OnMap.{side_is}
use Rattle.tile_zbox.specs.Laws.{edges_fine, box_accepted, edges_wrong, box_too_deep, scaled_small}

pub ruleset checks = (edges_fine, box_accepted, edges_wrong, box_too_deep)

pub ruleset scaling = (side_is, scaled_small, max_zoom_small, pow_pos)
