-- `uncovered_codes`: the locations in order, their topmost tiles, and the walk along both.
use mathlib.Core.Path.{sym}
use native.Mathlib.Omega.{arith}
use lib.Seq.{length-take-le}
use Rattle.constants.specs.Limits.{max_zoom_small}
use Rattle.quadtree.specs.Numbers.{location_of}
use Rattle.sort.specs.Sorted.{sorted_by_lem}
use Rattle.tile_list.specs.Laws.{sort_numbers}
use Rattle.ancestors.specs.Laws.{settled_tops}
use Rattle.ancestors.specs.Simplify.{sort_uncovers}
use Rattle.ancestors.proofs.uncovered_codes.Goals as goal

pub settle-tops-requires : goal.settle-tops-requires
settle-tops-requires c = let l = c.args.locations.now in
    rw (c.copy.ensures, c.sort_into.ensures) (sort_numbers location_of l c.requires.0, sorted_by_lem l)

pub slice_bounds-uncovered-end-2 : goal.slice_bounds-uncovered-end-2
slice_bounds-uncovered-end-2 c = let s = c.settle-tops in sym (length-take-le s.result s.new.locations s.ensures.within)

pub uncovered-requires : goal.uncovered-requires
uncovered-requires c = let l = c.args.locations.now in
    let f = sort_numbers location_of l c.requires.0 in
    let e = c.sort_into.ensures in
    rw e (record {
      tile_numbers = (f, sorted_by_lem l);
      tops = settled_tops (omega (arith, max_zoom_small)) f (rw (c.copy.ensures, e) at c.settle-tops.ensures);
    })

pub returns : goal.returns
returns c = sort_uncovers c.args.locations.now (rw c.sort_into.ensures at c.uncovered.ensures)
