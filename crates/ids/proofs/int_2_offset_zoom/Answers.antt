-- `ids::int_2_offset_zoom` meets its contract: below the limit a number lies in its zoom, so nothing wraps.
use Prim.Native.Nat.{ℕ, ◌≤◌, ◌<◌}
use native.Mathlib.Omega.{arith}
use borrow.Author.Tests.{le-leb, lt-leb}
use Rattle.constants.specs.Limits.{max_zoom, max_zoom_small}
use Rattle.ids.specs.Levels.{InZoom, limit_holds}
use Rattle.ids.specs.Rmid.{rmid_limit, zoom_of}
use Rattle.ids.proofs.int_2_offset_zoom.Goals as goal
use Rattle.ids.proofs.int_2_offset_zoom.Goals.{After-zoom_of-zoom}

pub returns-then-i-level_start : goal.returns-then-i-level_start
unfolding max_zoom
returns-then-i-level_start c = rw (le-leb rmid_limit c.args.i (rw c.level_start.ensures at c.if-i-level_start.true))

abbrev number : After-zoom_of-zoom → ℕ
number c = c.args.i

not_past : (c : After-zoom_of-zoom) → number c < rmid_limit
unfolding max_zoom
not_past c = rw (← c.level_start.ensures) c.if-i-level_start.false

pub zoom_of-zoom-requires : goal.zoom_of-zoom-requires
unfolding max_zoom
zoom_of-zoom-requires c = rw (← c.level_start.ensures) c.if-i-level_start.false

holds : (c : After-zoom_of-zoom) → InZoom (number c) (zoom_of (number c)) × (zoom_of (number c) ≤ max_zoom)
holds c = limit_holds (number c) (not_past c)

pub level_start-requires-2 : goal.level_start-requires-2
level_start-requires-2 c = omega (arith, c.zoom_of-zoom.ensures, (holds (goal.at.level_start-requires-2 c).After-zoom_of-zoom).1, max_zoom_small)

pub overflow_sub-result : goal.overflow_sub-result
overflow_sub-result c = rw (c.level_start-2.ensures, c.zoom_of-zoom.ensures) (holds (goal.at.overflow_sub-result c).After-zoom_of-zoom).0.from

pub returns : goal.returns
returns c = rw (lt-leb rmid_limit (number (goal.at.returns c).After-zoom_of-zoom) (not_past (goal.at.returns c).After-zoom_of-zoom), c.level_start-2.ensures, c.zoom_of-zoom.ensures)
