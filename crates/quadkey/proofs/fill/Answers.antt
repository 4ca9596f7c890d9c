-- `quadkey::fill` meets its contract: after i turns the first i digits stand at the front of the memory.
use Rattle.std.proofs.Common.{◌≡◌, ◌∙◌, arith}
use Rattle.constants.specs.Limits.{max_zoom_small}
use Rattle.quadkey.specs.Spelling.{fill_digit, key_filled}
use Rattle.quadkey.proofs.fill.Goals as goal

pub digit-requires : goal.digit-requires
digit-requires c = omega (arith, max_zoom_small)

pub loop-i-preserved : goal.loop-i-preserved
loop-i-preserved c = fill_digit _ _ _ _ _ _ _ _ c.loop-i-test.true c.requires.z_in_bounds c.loop-i.invariant c.digit.ensures

pub returns : goal.returns
returns c = let e : c.loop-i.i ≡ c.args.z = omega arith in
    c.loop-i.invariant ∙ rw e (key_filled _ _ _ _ _)
