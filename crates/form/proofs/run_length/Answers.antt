-- `run_length` meets its contract: a run ends at the first byte that is no key's.
use Rattle.std.proofs.Common.{rules, tests, not}
use Rattle.std.proofs.lemmas.Iterator.{YieldsList-from_slice}
use Rattle.std.proofs.lemmas.Iterator.Search.{position_from_yields_List}
use Rattle.form.specs.Form.{is_key_byte}
use Rattle.form.specs.Steps.{run_reached}
use Rattle.form.proofs.run_length.Goals as goal

pub returns : goal.returns
returns c =
    run_reached c.args.bytes.now c.position.result c.unwrap_or.result
    (position_from_yields_List (λ b. not (is_key_byte b)) _ _ c.position.result c.position.ensures.ran (YieldsList-from_slice c.args.bytes.now cc)
    (λ x b q k. search (rules, tests)))
    c.unwrap_or.ensures
