-- `number_length` calls itself with a tenth of the number, which has one digit less.
use mathlib.Core.Path.{sym, ap}
use native.Mathlib.Omega.{arith}
use lib.ListN.{length}
use Rattle.form_line.specs.Decimal.{decimal_digit, decimal_tenth, decimal_short}
use Prim.Native.Nat.{◌/◌}
use Rattle.form_line.proofs.+number_length.Goals as goal

pub returns-then-n-lt10 : goal.returns-then-n-lt10
returns-then-n-lt10 t c = sym (ap length (decimal_digit _ c.if-n-lt10.true))

pub number_length-requires : goal.number_length-requires
number_length-requires t c = (omega (arith, c.decreases), omega (arith, c.requires))

pub overflow_add-result : goal.overflow_add-result
overflow_add-result t c = omega (arith, c.number_length.ensures, decimal_short (c.args.n / 10) (omega (arith, c.requires)))

pub returns : goal.returns
returns t c = omega (arith, c.number_length.ensures, decimal_tenth _ c.if-n-lt10.false)
