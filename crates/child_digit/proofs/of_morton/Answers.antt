-- `of_morton` meets its contract: the digit that `parent` handed back is told by the code's last digit.
use Rattle.std.proofs.Common.{arith, ap, ◌∙◌, get_or}
use Rattle.errors.specs.Answer.{Answer}
use Rattle.fns.specs.declared.Ancestor.{Ancestor}
use Rattle.child_digit.specs.Theorems.{a_child_is_found, told_by_the_code}
use Rattle.child_digit.proofs.of_morton.Goals as goal

pub unwrap-requires : goal.unwrap-requires
unwrap-requires c = a_child_is_found _ _ (omega arith) (omega arith) _ c.parent-up.ensures

pub returns : goal.returns
returns c =
    let e = rw c.unwrap.ensures at c.parent-up.ensures in
    ap (λ (a : Answer Ancestor). get_or a.value.digits 0 0) e ∙ told_by_the_code c.args.q c.requires.0 c.requires.1
