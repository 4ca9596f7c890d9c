-- `fns::parent` meets its contract: what `steps::parent` left in the places that it was lent, by value.
use Rattle.std.proofs.Common.{◌≡◌, ◌+◌, ◌<◌, rules, ◌∙◌, arith, replicate}
use Rattle.std.specs.Prelude.{unwrap_or}
use Rattle.constants.specs.Limits.{max_digits, max_zoom_small}
use Rattle.errors.specs.Laws.{check_fine}
use Rattle.tile.specs.OnMap.{OnMap, no_tile_of, tile_at}
use Rattle.fns.specs.Parent.{parent_given, ancestor_lent, parent_written}
use Rattle.fns.specs.Steps.{number_is, number_small, by_value_found, refused_value}
use Rattle.fns.proofs.parent.Goals as goal
use Rattle.fns.proofs.parent.Goals.{After-parent-number, In_ok-found}

pub parent-number-requires : goal.parent-number-requires
unfolding max_digits
parent-number-requires c = search rules

left : (c : After-parent-number) →
    ancestor_lent c.parent-number.result (tile_at c.parent-number.new.tx c.parent-number.new.ty c.parent-number.new.tz)
    c.parent-number.new.digits
    ≡ parent_written c.args.x c.args.y c.args.z (unwrap_or c.args.n 0) no_tile_of (replicate max_digits 0)
unfolding max_digits
left c = rw (← c.unwrap_or-extra.ensures) c.parent-number.ensures

pub found-requires : goal.found-requires
found-requires c = let a = c.args in
    number_small a.x a.y a.z (unwrap_or a.n 0) _ _ _ (left (goal.at.found-requires c).After-parent-number)

taken : (c : In_ok-found) → let a = c.args in
    let n = unwrap_or a.n 0 in
    let t = tile_at c.parent-number.new.tx c.parent-number.new.ty c.parent-number.new.tz in
    OnMap a.x a.y a.z × (n < a.z)
    × (record { number = 0; value = record { tile = t; digits = c.parent-number.new.digits; count = 1 + n } } ≡ parent_given a.x a.y a.z n)
taken c =
    let a = c.args in
    let zero = check_fine c.in_ok-found.was c.found.ensures in
    by_value_found a.x a.y a.z (unwrap_or a.n 0) _ _ _ (left (goal.at.overflow_add-result c).After-parent-number) zero

pub overflow_add-result : goal.overflow_add-result
overflow_add-result c = let f = taken (goal.at.overflow_add-result c).In_ok-found in
    omega (arith, f.0.zoom, f.1, max_zoom_small, c.unwrap_or-extra.ensures)

pub returns : goal.returns
returns c = rw c.unwrap_or-extra.ensures (taken (goal.at.returns c).In_ok-found).2

pub returns-in_err-found : goal.returns-in_err-found
returns-in_err-found c =
    let a = c.args in
    let e = c.in_err-found.ensures ∙ number_is a.x a.y a.z (unwrap_or a.n 0) _ _ _ (left (goal.at.returns-in_err-found c).After-parent-number) in
    rw (← refused_value a.x a.y a.z (unwrap_or a.n 0) c.in_err-found.field-0.0 e) (search rules)
