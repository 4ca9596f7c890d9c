-- `common_part`: what both sets share, made a list.
use mathlib.Core.Path.{sym, ◌∙◌}
use lib.Seq.{length-take-le}
use Rattle.overlay.specs.Joined.{common_ready, common_listed}
use Rattle.overlay.proofs.common_part.Goals as goal

pub slice_bounds-split_at-end-2 : goal.slice_bounds-split_at-end-2
slice_bounds-split_at-end-2 c = sym (length-take-le c.args.both c.args.keys.now c.requires.0)

pub common-count-requires : goal.common-count-requires
common-count-requires c = rw (c.split_at.ensures.front, c.split_at.ensures.back) (common_ready c.requires.1 c.args.out.now (length-take-le c.args.both c.args.keys.now c.requires.0 ∙ c.requires.2))

pub returns : goal.returns
returns c = common_listed c.requires.1 (rw (c.split_at.ensures.front, c.split_at.ensures.back) at c.common-count.ensures) c.finish.ensures
