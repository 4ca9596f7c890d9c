-- `keep` meets its contract: beyond the line's memory nothing is stored.
use mathlib.Core.Path.{refl, sym}
use native.Mathlib.Omega.{arith}
use lib.Seq.{set_out}
use Rattle.form_stream.proofs.keep.Goals as goal

pub returns-then-len-line : goal.returns-then-len-line
returns-then-len-line c = (omega (arith, c.if-len-line.true), refl)

pub returns : goal.returns
returns c = (omega (arith, c.requires.0, c.requires.1, c.if-len-line.false), sym (set_out _ _ _ c.if-len-line.false))
