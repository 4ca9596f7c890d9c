-- `ids::rmid2xyz` meets its contract: the place within the zoom is a column and a row.
use mathlib.Core.Path.{◌≡◌, sym, ap, ◌∙◌}
use Prim.Native.Nat.{ℕ}
use Rattle.errors.specs.Laws.{answer_found}
use Rattle.ids.specs.Levels.{rmid_holds, offset_in_zoom}
use Rattle.ids.specs.Rmid.{offset_of, zoom_of, rmid_refusal, offset_zoom_case}
use Rattle.ids.specs.declared.OffsetZoom.{OffsetZoom}
use Rattle.ids.proofs.rmid2xyz.Goals as goal
use Rattle.ids.proofs.rmid2xyz.Goals.{In_ok-at}

abbrev number : In_ok-at → ℕ
number c = c.args.i

abbrev place : In_ok-at → OffsetZoom
place c = c.in_ok-at.at

-- what the answer says of the number: it is below the limit, and these are its place and its zoom
taken : (c : In_ok-at) → (rmid_refusal (number c) ≡ 0) × (place c ≡ record { offset = offset_of (number c); zoom = zoom_of (number c) })
taken c =
    let e = sym (ap offset_zoom_case c.in_ok-at.was) ∙ c.int_2_offset_zoom.ensures in
    answer_found (rmid_refusal (number c)) (record { offset = 0; zoom = 0 }) _ _ e

pub tile_at-requires : goal.tile_at-requires
tile_at-requires c = let h = rmid_holds (number (goal.at.tile_at-requires c).In_ok-at) (taken (goal.at.tile_at-requires c).In_ok-at).0 in
    rw (taken (goal.at.tile_at-requires c).In_ok-at).1 (h.1, offset_in_zoom _ _ h.0)

pub returns : goal.returns
returns c = let t = taken (goal.at.returns c).In_ok-at in
    rw (c.tile_at.ensures, t.0, t.1)
