-- Document 01's plates as one table, `table`, under one statement, `Plates`; the theorem is `plates` of proofs/Plates.antt, and nothing is
-- assumed. A row has the paper's words, what the definition in a call's promise gives, and what the paper says. The lines that the paper
-- marks † are all here, and three of its others; the last is as document 02, K2, changes it.
use Rattle.std.specs.Prelude.{◌≡◌, [], ◌∷◌, ◌+◌, ◌-◌, ◌^◌, Some, None, unwrap_or}
use Rattle.errors.specs.Answer.{written}
use Rattle.fns.specs.Fns.{parent_of}
use Rattle.ids.specs.Entry.{entries_of}
use Rattle.ids.specs.Id.{to_id_of}
use Rattle.ids.specs.Rmid.{to_rmid_of}
use Rattle.merge.specs.Merge.{simplify_v1_of, simplify_of}
use Rattle.neighbors.specs.Neighbors.{neighbors_written}
use Rattle.neighbors.specs.declared.Seam.TheVariants.{Cut}
use Rattle.siblings.specs.Siblings.{siblings_written}
use Rattle.plate_table.specs.Rows.{Row, row, key, entries_of_keys, answered_with, refused, keeps, ranges}
use Rattle.quadkey.specs.Key.{key_written}
use Rattle.tile.specs.OnMap.{tile_at, no_tile_of}
use Rattle.tile_zbox.specs.Box.{box_at, length_of}
use Rattle.zoom.specs.Zooms.{zvec_set, zooms_of}
use Rattle.zoom_ranges.specs.Ranges.{ranges_of}

-- the plates, in the paper's order
pub data Plate : Type 0 where
  key_213 : Plate
  id_2659 : Plate
  rmid_64 : Plate
  root_key : Plate
  root_id : Plate
  root_rmid : Plate
  parent : Plate
  parent_2 : Plate
  parent_3 : Plate
  siblings : Plate
  neighbours : Plate
  kept_by_v1 : Plate
  kept_by_simplify : Plate
  empty_list : Plate
  whole_zoom : Plate
  set_33 : Plate
  turned_set : Plate
  zoom_runs : Plate

abbrev pub table : Plate → Row
table key_213 = row "† (3,5,3): key 213" (key_written 48 3 5 3) (written 0 (key "213"))
table id_2659 = row "† (3,5,3): id 2659" (to_id_of 3 5 3) (answered_with 2659)
table rmid_64 = row "† (3,5,3): rmid 64" (to_rmid_of 3 5 3) (answered_with 64)
table root_key = row "† Root: empty key" (key_written 48 0 0 0) (written 0 (key ""))
table root_id = row "† Root: id 0" (to_id_of 0 0 0) (answered_with 0)
table root_rmid = row "† Root: rmid 0" (to_rmid_of 0 0 0) (answered_with 0)
table parent = row "† parent of (3,5,3): (1,2,2)" (parent_of 3 5 3 (unwrap_or None 0)) (answered_with (tile_at 1 2 2))
table parent_2 = row "parent of (3,5,3), n = 2: the root" (parent_of 3 5 3 (unwrap_or (Some 2) 0)) (answered_with (tile_at 0 0 0))
table parent_3 = row "† parent of (3,5,3), n = 3: refusal 3" (parent_of 3 5 3 (unwrap_or (Some 3) 0)) (refused 3 no_tile_of)
table siblings =
    row "† siblings of (3,5,3): (2,5), (3,4), (2,4)" (siblings_written 3 5 3)
    (written 0 (entries_of (tile_at 2 5 3 ∷ tile_at 3 4 3 ∷ tile_at 2 4 3 ∷ [])))
table neighbours =
    row "† neighbours of (3,0,2): (3,1), (2,0), (2,1)" (neighbors_written Cut 3 0 2)
    (written 0 (entries_of (tile_at 3 1 2 ∷ tile_at 2 0 2 ∷ tile_at 2 1 2 ∷ [])))
table kept_by_v1 =
    row "† keys 0, 00 at m = 1: `simplify_v1` keeps both" (simplify_v1_of (entries_of_keys ("0" ∷ "00" ∷ [])) (unwrap_or (Some 1) 0))
    (keeps (entries_of_keys ("0" ∷ "00" ∷ [])) (entries_of_keys ("0" ∷ "00" ∷ [])))
table kept_by_simplify =
    row "† keys 0, 00 at m = 1: `simplify` keeps 0" (simplify_of (entries_of_keys ("0" ∷ "00" ∷ [])) (unwrap_or (Some 1) 0))
    (keeps (entries_of_keys ("0" ∷ "00" ∷ [])) (entries_of_keys ("0" ∷ [])))
table empty_list = row "† The empty list settles to itself" (simplify_of [] (unwrap_or None 0)) (keeps [] [])
table whole_zoom = row "† Box of all zoom 16: 4294967296" (length_of (box_at 16 0 (2 ^ 16 - 1) 0 (2 ^ 16 - 1))) (answered_with 4294967296)
table set_33 = row "† Zooms 0, 5: set 33" (zvec_set (0 ∷ 5 ∷ [])) (answered_with 33)
table turned_set = row "Set with bits 31 and 30: zoom 0" (written 0 (zooms_of (2 ^ 31 + 2 ^ 30))) (written 0 (0 ∷ []))
table zoom_runs =
    row "Zooms 0, 1, 2, 4: ranges 0 to 2, 4 to 4" (ranges_of (zvec_set (0 ∷ 1 ∷ 2 ∷ 4 ∷ [])).value) (ranges (0 ∷ 4 ∷ []) (2 ∷ 4 ∷ []))

-- in every row the definition gives what the paper says. An answer in lent memory is so for every memory, however long and however filled
abbrev pub Plates : Type 0
Plates = (p : Plate) → (table p).gives ≡ (table p).says
