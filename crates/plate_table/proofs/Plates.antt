-- The table of plates holds: each row by computing, but for the three of lists.
use Rattle.std.specs.Prelude.{refl}
use Rattle.bits.specs.Tests.{all_of}
use Rattle.children.specs.Children.{gather}
use Rattle.constants.specs.Limits.{max_zoom, max_id_zoom, max_entries}
use Rattle.fns.specs.Fns.{parent_refusal}
use Rattle.ids.specs.Id.{id_of, id_tile_refusal}
use Rattle.ids.specs.Rmid.{level_start}
use Rattle.plate_table.proofs.KeptLemmas.{answers, both_accepted, none_accepted, v1_keeps_both, simplify_keeps_one, empty_settles}
use Rattle.quadkey.specs.Key.{key_from, all_digits_of, key_refusal, spelled}
use Rattle.tile.specs.OnMap.{tile_refusal}
use Rattle.tile_zbox.specs.Box.{box_refusal, wrong_edges, box_length}
use Rattle.zoom_bits.specs.Bits.{has_bit, those, set_of, from_to, zooms_in, any_deeper}
use Rattle.zoom_ranges.specs.Ranges.{just_below, maximal_run, runs_below, holds_zoom}
use Rattle.plate_table.specs.Plates.{Plates, key_213, id_2659, rmid_64, root_key, root_id, root_rmid, parent, parent_2, parent_3, siblings}
use Rattle.plate_table.specs.Plates.{neighbours, kept_by_v1, kept_by_simplify, empty_list, whole_zoom, set_33, turned_set, zoom_runs}

pub plates : Plates
unfolding tile_refusal max_zoom max_id_zoom max_entries key_from id_of id_tile_refusal level_start parent_refusal gather box_refusal wrong_edges
    box_length has_bit those set_of zooms_in any_deeper from_to all_of just_below maximal_run runs_below holds_zoom all_digits_of key_refusal spelled
plates key_213 = refl
plates id_2659 = refl
plates rmid_64 = refl
plates root_key = refl
plates root_id = refl
plates root_rmid = refl
plates parent = refl
plates parent_2 = refl
plates parent_3 = refl
plates siblings = refl
plates neighbours = refl
plates kept_by_v1 = answers _ _ _ both_accepted v1_keeps_both
plates kept_by_simplify = answers _ _ _ both_accepted simplify_keeps_one
plates empty_list = answers _ _ _ none_accepted empty_settles
plates whole_zoom = refl
plates set_33 = refl
plates turned_set = refl
plates zoom_runs = refl
