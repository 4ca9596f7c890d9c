-- `finish` meets its contract: an empty line is not answered.
use Rattle.std.specs.Prelude.{Ok}
use mathlib.Core.Path.{◌≡◌, sym, subst}
use mathlib.Core.List.{[]}
use lib.ListN.{take}
use Prim.Native.Nat.{ℕ}
use native.Mathlib.Omega.{arith}
use Rattle.errors.specs.Answer.{written}
use Rattle.errors.specs.Cases.{left}
use Rattle.form_stream.specs.Steps.{nothing_left, last_line}
use Rattle.form_stream.specs.Stream.{said}
use Rattle.form_stream.proofs.finish.Goals as goal

pub returns-then-len-eq0 : goal.returns-then-len-eq0
returns-then-len-eq0 c = let before = c.args.out.now in
    subst (λ (n : ℕ). left (Ok 0) before ≡ written 0 (said (take n c.args.line.now) []) before) (sym c.if-len-eq0.true) (nothing_left c.args.line.now before)

pub returns : goal.returns
returns c = let r = c.reply in
    let m = c.min in
    last_line c.args.line.now c.args.out.now c.args.len m.result r.result r.new.out (omega (arith, c.well_formed, m.ensures))
    (omega (arith, m.ensures, c.if-len-eq0.false))
    r.ensures
