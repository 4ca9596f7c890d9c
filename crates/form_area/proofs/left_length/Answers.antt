-- `left_length` meets its contract: the form at the front of a pair is its left one.
use Rattle.form_area.specs.Areas.{left_taken}
use Rattle.form_area.proofs.left_length.Goals as goal

pub returns : goal.returns
returns c = left_taken c.form_end.result c.unwrap_or.result c.args.body.now c.form_end.ensures c.unwrap_or.ensures
