-- `quadkey::flip_all` meets its contract: after i turns the first i flipped digits stand at the front of the memory.
use Rattle.quadkey.specs.Bytes.{digits_at}
use Rattle.quadkey.specs.Flip.{fill_flipped}
use Rattle.quadkey.proofs.flip_all.Goals as goal

pub flipped-requires : goal.flipped-requires
flipped-requires c = digits_at _ _ c.requires.key_value c.loop-i-test.true

pub loop-i-preserved : goal.loop-i-preserved
loop-i-preserved c = let a = c.args in
    fill_flipped a.key.now a.out.now _ _ _ c.loop-i-test.true c.requires.key_in_bounds c.loop-i.invariant c.flipped.ensures
