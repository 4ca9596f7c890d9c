-- `simplified`: locations in order, one pass, and the set as a list.
use Rattle.quadtree.specs.Numbers.{location_of}
use Rattle.settle.specs.Simplify.{settled_listed}
use Rattle.sort.specs.Sorted.{sorted_by_lem}
use Rattle.tile_list.specs.Laws.{sort_numbers}
use Rattle.settle.proofs.simplified.Goals as goal

pub settle-count-requires : goal.settle-count-requires
settle-count-requires c = let l = c.args.locations.now in
    rw c.sort_into.ensures
    (sort_numbers location_of l c.requires.0, sorted_by_lem l)

pub returns : goal.returns
returns c = settled_listed c.args.m c.args.locations.now _ _ _ _ c.requires.0
    (rw c.sort_into.ensures at c.settle-count.ensures) c.finish.ensures
