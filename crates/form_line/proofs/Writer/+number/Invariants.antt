-- `number` calls itself with a tenth of the number, and stores the last digit behind those of the tenth.
use Rattle.form_line.proofs.Writer.+number.Given as goal

abbrev pub decreases-number : goal.decreases-number
decreases-number l = l.n
