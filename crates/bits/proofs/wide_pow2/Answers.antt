-- `bits::wide_pow2` meets its contract: past the width the power is a multiple of 2 ^ 64.
use Rattle.std.proofs.Common.{sym}
use Rattle.bits.specs.Powers.{pow_past}
use Rattle.bits.proofs.wide_pow2.Goals as goal

pub returns-else-k-lt64 : goal.returns-else-k-lt64
returns-else-k-lt64 c = sym (pow_past c.args.k 64 c.if-k-lt64.false)
