-- `union`: both sets in one order, settled, and made a list.
use mathlib.Core.Path.{sym, ◌∙◌}
use lib.Seq.{length-take-le}
use Rattle.overlay.specs.Joined.{merge_ready, settle_ready, union_listed}
use Rattle.overlay.proofs.union.Goals as goal

pub slice_bounds-split_at-end-2 : goal.slice_bounds-split_at-end-2
slice_bounds-split_at-end-2 c = sym (length-take-le c.args.both c.args.keys.now c.requires.0)

pub merge-requires : goal.merge-requires
merge-requires c = rw (c.split_at.ensures.front, c.split_at.ensures.back) (merge_ready c.requires.1 c.args.out.now (length-take-le c.args.both c.args.keys.now c.requires.0 ∙ c.requires.2))

pub settle-count-requires : goal.settle-count-requires
settle-count-requires c = settle_ready c.requires.1 (rw (c.split_at.ensures.front, c.split_at.ensures.back) at c.merge.ensures)

pub returns : goal.returns
returns c = union_listed c.requires.1 (rw (c.split_at.ensures.front, c.split_at.ensures.back) at c.merge.ensures) c.settle-count.ensures c.finish.ensures
