-- `number` calls itself with a tenth of the number, and stores the last digit behind those of the tenth.
use mathlib.Core.Path.{ap}
use native.Mathlib.Omega.{arith}
use lib.ListN.{length}
use Rattle.form_line.specs.Decimal.{decimal_digit, decimal_tenth}
use Rattle.form_line.specs.Stores.{stored_length}
use Rattle.form_line.specs.Text.{first_stored, digit_stored}
use Rattle.form_line.proofs.Writer.+number.Goals as goal

pub byte-requires : goal.byte-requires
byte-requires t c = omega (arith, c.requires, ap length (decimal_digit _ c.if-n-lt10.true))

pub returns-then-n-lt10-clause-stored : goal.returns-then-n-lt10-clause-stored
returns-then-n-lt10-clause-stored t c = first_stored c.if-n-lt10.true c.digit.ensures c.byte.ensures.stored

pub number-requires : goal.number-requires
number-requires t c = (omega (arith, c.decreases), omega (arith, c.requires, decimal_tenth _ c.if-n-lt10.false))

pub byte-requires-2 : goal.byte-requires-2
byte-requires-2 t c = let s = c.number.ensures.stored in
    omega (arith, s.behind, stored_length s, c.requires, decimal_tenth _ c.if-n-lt10.false)

pub returns-clause-stored : goal.returns-clause-stored
returns-clause-stored t c = digit_stored c.if-n-lt10.false c.digit-2.ensures c.number.ensures.stored c.byte-2.ensures.stored
