-- `difference`: what is left of the first set, made a list in its places.
use mathlib.Core.Path.{sym}
use lib.Seq.{length-take-le}
use Rattle.overlay.specs.Left.{left_within, left_ready, left_in}
use Rattle.overlay.proofs.difference.Goals as goal

pub slice_bounds-split_at-end-2 : goal.slice_bounds-split_at-end-2
slice_bounds-split_at-end-2 c = sym (length-take-le c.args.both c.args.keys.now c.requires.0)

pub left-count-requires : goal.left-count-requires
left-count-requires c = rw (c.split_at.ensures.front, c.split_at.ensures.back) (c.requires.1.first, c.requires.1.second)

pub slice_bounds-finish-end : goal.slice_bounds-finish-end
slice_bounds-finish-end c = left_within c.requires.1 (rw (c.split_at.ensures.front, c.split_at.ensures.back) at c.left-count.ensures.value) c.args.out.now (rw (c.split_at.ensures.front, c.split_at.ensures.back) at c.left-count.ensures.out_after) c.requires.2

pub slice_bounds-finish-end-2 : goal.slice_bounds-finish-end-2
slice_bounds-finish-end-2 c = sym (length-take-le _ _ (left_within c.requires.1 (rw (c.split_at.ensures.front, c.split_at.ensures.back) at c.left-count.ensures.value) c.args.out.now (rw (c.split_at.ensures.front, c.split_at.ensures.back) at c.left-count.ensures.out_after) c.requires.2))

pub finish-requires : goal.finish-requires
finish-requires c =
    let r = left_ready c.requires.1 (rw (c.split_at.ensures.front, c.split_at.ensures.back) at c.left-count.ensures.value) c.args.out.now (rw (c.split_at.ensures.front, c.split_at.ensures.back) at c.left-count.ensures.out_after) c.requires.2 in
    record { count_in_bounds = r.0; tile_numbers = r.1 }

pub returns : goal.returns
returns c = left_in c.requires.1 (rw (c.split_at.ensures.front, c.split_at.ensures.back) at c.left-count.ensures.value) c.args.out.now (rw (c.split_at.ensures.front, c.split_at.ensures.back) at c.left-count.ensures.out_after) c.requires.2 c.finish.auto.keys c.finish.ensures
