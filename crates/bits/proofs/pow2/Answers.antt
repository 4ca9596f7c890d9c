-- `bits::pow2` meets its contract: past the width the power is a multiple of 2 ^ 32.
use Rattle.std.proofs.Common.{sym}
use Rattle.bits.specs.Powers.{pow_past}
use Rattle.bits.proofs.pow2.Goals as goal

pub returns-else-k-lt32 : goal.returns-else-k-lt32
returns-else-k-lt32 c = sym (pow_past c.args.k 32 c.if-k-lt32.false)
