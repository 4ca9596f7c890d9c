-- `feed` meets its contract: more bytes than are kept are all that are kept.
use mathlib.Core.Path.{◌≡◌, ap, ◌∙◌}
use Prim.Native.Nat.{ℕ, suc, min}
use native.Mathlib.Omega.{arith}
use lib.ListN.{drop}
use Rattle.constants.specs.Limits.{max_line}
use Rattle.form_stream.specs.Scan.{scan_at, scan}
use Rattle.form_stream.proofs.feed.Goals as goal

pub feed_lines-requires : goal.feed_lines-requires
unfolding max_line
feed_lines-requires c = (omega (arith, c.well_formed), omega (arith, c.well_formed, c.min.ensures))

pub returns : goal.returns
unfolding max_line
returns c = let m = c.min in
    let e : m.result ≡ min c.args.feeding.len (suc max_line) = omega (arith, m.ensures) in
    c.feed_lines.ensures
    ∙ ap (λ (n : ℕ). scan (drop c.args.feeding.at c.args.chunk.now) (scan_at c.args.feeding.at n 0 c.args.line.now c.args.out.now)) e
