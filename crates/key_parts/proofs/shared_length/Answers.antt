-- `key_parts::shared_length` meets its contract: what is shared is the i bytes passed and what is shared from i on.
use Rattle.std.proofs.Common.{◌≡◌, sym, ◌∙◌, arith}
use Rattle.key_parts.specs.Shared.{shared_more, shared_stop, shared_end}
use Rattle.key_parts.proofs.shared_length.Goals as goal

pub returns-then-a-i : goal.returns-then-a-i
returns-then-a-i c = sym (c.loop-i.invariant ∙ shared_stop _ _ _ (omega arith) (omega arith) c.if-a-i.true)

pub loop-i-preserved : goal.loop-i-preserved
loop-i-preserved c = c.loop-i.invariant ∙ shared_more _ _ _ (omega arith) (omega arith) c.if-a-i.false

pub returns : goal.returns
returns c = let e : c.loop-i.i ≡ c.min-shorter.result = omega arith in
    sym (c.loop-i.invariant ∙ shared_end _ _ _ (omega arith) ∙ e)
