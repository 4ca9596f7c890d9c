-- `parent` leaves in the caller's places what the library's `parent` hands back.
use mathlib.Core.Path.{◌≡◌}
use native.Mathlib.Omega.{arith}
use borrow.Author.Rules.{rules}
use lib.ListN.{replicate}
use Rattle.constants.specs.Limits.{max_digits, max_zoom_small}
use Rattle.fns.specs.Parent.{ancestor_lent, parent_written}
use Rattle.fns.specs.Steps.{by_value_refused, by_value_found}
use Rattle.tile.specs.OnMap.{no_tile_of, tile_at}
use Rattle.c_fns.proofs.parent.Goals as goal
use Rattle.c_fns.proofs.parent.Goals.{After-parent-number}

pub parent-number-requires : goal.parent-number-requires
unfolding max_digits
parent-number-requires c = search rules

-- what stands in the places that were zeros
left : (c : After-parent-number) → let a = c.args in let l = c.parent-number.new in
    ancestor_lent c.parent-number.result (tile_at l.tx l.ty l.tz) l.digits
    ≡ parent_written a.x a.y a.z a.n no_tile_of (replicate max_digits 0)
unfolding max_digits
left c = c.parent-number.ensures

pub overflow_add-count : goal.overflow_add-count
overflow_add-count c = let a = c.args in
    let f = by_value_found a.x a.y a.z a.n _ _ _ (left (goal.at.overflow_add-count c).After-parent-number) c.if-number-eq0.true in
    omega (arith, f.0.zoom, f.1, max_zoom_small)

pub returns-then-number-eq0 : goal.returns-then-number-eq0
returns-then-number-eq0 c = let a = c.args in
    rw c.if-number-eq0.true (by_value_found a.x a.y a.z a.n _ _ _ (left (goal.at.returns-then-number-eq0 c).After-parent-number) c.if-number-eq0.true).2

pub returns-else-number-eq0 : goal.returns-else-number-eq0
returns-else-number-eq0 c = let a = c.args in
    (by_value_refused a.x a.y a.z a.n _ _ _ (left (goal.at.returns-else-number-eq0 c).After-parent-number) c.if-number-eq0.false).1
