-- `quadkey::check` meets its contract: whether all bytes are digits is whether those from the next one on are.
use Rattle.std.proofs.Common.{sym, ◌∙◌}
use Rattle.constants.specs.Limits.{max_zoom}
use Rattle.quadkey.specs.Bytes.{rest_digit, rest_bad, rest_none}
use Rattle.quadkey.specs.Refusals.{key_too_long, key_bad_byte, key_accepted}
use Rattle.quadkey.proofs.check.Goals as goal

pub returns-then-key : goal.returns-then-key
unfolding max_zoom
returns-then-key c = sym (key_too_long _ c.if-key.true)

pub returns-then-not-is_quadkey_byte : goal.returns-then-not-is_quadkey_byte
unfolding max_zoom
returns-then-not-is_quadkey_byte c = let bad = sym c.is_quadkey_byte.ensures ∙ c.if-not-is_quadkey_byte.true in
    sym (key_bad_byte _ c.if-key.false (c.loop-b.invariant ∙ rest_bad _ _ c.loop-b-test.true bad))

pub loop-b-preserved : goal.loop-b-preserved
loop-b-preserved c = let good = sym c.is_quadkey_byte.ensures ∙ c.if-not-is_quadkey_byte.false in
    c.loop-b.invariant ∙ rest_digit _ _ c.loop-b-test.true good

pub returns : goal.returns
unfolding max_zoom
returns c = sym (key_accepted _ c.if-key.false (c.loop-b.invariant ∙ rest_none _ _ c.loop-b-test.false))
