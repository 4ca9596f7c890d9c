-- `KeyReader::start` meets its contract: after no bytes all is zero.
use mathlib.Core.Path.{sym, ◌∙◌}
use Rattle.key_reader.specs.Theorems.{the_start_is_zeros}
use Rattle.key_reader.proofs.KeyReader.start.Goals as goal

pub returns : goal.returns
returns c = c.blank.ensures ∙ sym the_start_is_zeros
