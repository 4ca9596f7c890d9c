-- `take_line` meets its contract: up to the end of the line or of the chunk, each byte goes to the line.
use mathlib.Core.Path.{refl, ◌∙◌}
use native.Mathlib.Omega.{arith}
use Rattle.form_stream.specs.Steps.{none_taken, byte_taken}
use Rattle.form_stream.proofs.take_line.Goals as goal

pub loop-i-init : goal.loop-i-init
loop-i-init c = (c.requires.from_in_bounds, refl, none_taken _ _ _ _ c.requires.line_len.1)

pub shape_of-line-then-b-eq10 : goal.shape_of-line-then-b-eq10
shape_of-line-then-b-eq10 c = c.loop-i.invariant.1

pub returns-then-b-eq10 : goal.returns-then-b-eq10
returns-then-b-eq10 c = (c.loop-i.invariant.2, record { within = c.loop-i.invariant.0; stops = λ h. c.if-b-eq10.true })

pub keep-n-requires : goal.keep-n-requires
keep-n-requires c = (omega (arith, c.loop-i.invariant.1, c.requires.line_len.0), c.loop-i.invariant.2.within)

pub loop-i-preserved : goal.loop-i-preserved
loop-i-preserved c = let k = c.keep-n in (
  omega arith,
  k.auto.line
      ∙ c.loop-i.invariant.1,
  byte_taken _ _ _ _ _ _ _ _ _ c.loop-i.invariant.2 (c.loop-i.invariant.1 ∙ c.requires.line_len.0)
      c.loop-i-test.true c.if-b-eq10.false k.ensures,
)

pub shape_of-line : goal.shape_of-line
shape_of-line c = c.loop-i.invariant.1

pub returns : goal.returns
returns c = (c.loop-i.invariant.2, record { within = c.loop-i.invariant.0; stops = λ h. absurd (omega (arith, h, c.loop-i-test.false)) })
