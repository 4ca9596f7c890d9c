-- `merged`: Morton codes in order, one pass, and the set as a list.
use Rattle.families.specs.Pass.{passed_merges}
use Rattle.quadtree.specs.Numbers.{morton_of}
use Rattle.sort.specs.Sorted.{sorted_by_lem}
use Rattle.tile_list.specs.Laws.{sort_numbers}
use Rattle.families.proofs.merged.Goals as goal

pub pass-joined-requires : goal.pass-joined-requires
pass-joined-requires c = let l = c.args.codes.now in
    rw c.sort_into.ensures
    (sort_numbers morton_of l c.requires.0, sorted_by_lem l)

pub returns : goal.returns
returns c = passed_merges c.args.codes.now (rw c.sort_into.ensures at c.pass-joined.ensures) c.finish-count.ensures
