-- `tile::check` meets its contract: each branch's test is the one that `tile_refusal` makes there.
use mathlib.Core.Path.{◌≡◌, sym, ◌∙◌}
use Prim.Native.Nat.{◌^◌}
use native.Mathlib.Omega.{arith}
use Rattle.constants.specs.Limits.{max_zoom}
use Rattle.tile.specs.OnMap.{too_deep_lem, off_column, off_row, on_map_accepted, side_is}
use Rattle.tile.proofs.check.Goals as goal
use Rattle.tile.proofs.check.Goals.{After-pow2-end}

pub returns-then-z-gt-MAX_ZOOM : goal.returns-then-z-gt-MAX_ZOOM
unfolding max_zoom
returns-then-z-gt-MAX_ZOOM c = sym (too_deep_lem _ _ c.if-z-gt-MAX_ZOOM.true)

end_is : (c : After-pow2-end) → c.pow2-end.result ≡ 2 ^ c.args.z
unfolding max_zoom
end_is c = c.pow2-end.ensures ∙ side_is c.if-z-gt-MAX_ZOOM.false

pub returns-then-x-end : goal.returns-then-x-end
unfolding max_zoom
returns-then-x-end c = sym (off_column _ c.if-z-gt-MAX_ZOOM.false (omega (arith, end_is (goal.at.returns-then-x-end c).After-pow2-end)))

pub returns-then-y-end : goal.returns-then-y-end
unfolding max_zoom
returns-then-y-end c = let e = end_is (goal.at.returns-then-y-end c).After-pow2-end in sym (off_row c.if-z-gt-MAX_ZOOM.false (omega arith) (omega arith))

pub returns : goal.returns
unfolding max_zoom
returns c = let e = end_is (goal.at.returns c).After-pow2-end in
    sym (on_map_accepted (record { zoom = c.if-z-gt-MAX_ZOOM.false; column = omega arith; row = omega arith }))
