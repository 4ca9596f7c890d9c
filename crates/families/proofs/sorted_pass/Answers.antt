-- `sorted_pass` sorts, and passes.
use Rattle.families.specs.Pass.{sort_passed}
use Rattle.quadtree.specs.Numbers.{morton_of}
use Rattle.sort.specs.Sorted.{sorted_by_lem}
use Rattle.tile_list.specs.Laws.{sort_numbers}
use Rattle.families.proofs.sorted_pass.Goals as goal

pub pass-requires : goal.pass-requires
pass-requires c = let l = c.args.codes.now in
    rw c.sort.ensures
    (sort_numbers morton_of l c.requires.0, sorted_by_lem l)

pub returns : goal.returns
returns c = sort_passed c.args.codes.now
    (rw c.sort.ensures at c.pass.ensures)
