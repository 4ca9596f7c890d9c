-- `number_length` calls itself with a tenth of the number, which has one digit less.
use Rattle.form_line.proofs.+number_length.Given as goal

abbrev pub decreases-number_length : goal.decreases-number_length
decreases-number_length l = l.n
