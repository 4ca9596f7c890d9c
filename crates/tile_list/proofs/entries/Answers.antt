-- `entries`: ranks, in order, each once, become entries.
use mathlib.Core.Path.{sym}
use lib.Seq.{length-take-le}
use Rattle.tile_list.specs.Finish.{front_ranks, front_entries}
use Rattle.tile_list.proofs.entries.Goals as goal

pub slice_bounds-entries-end-2 : goal.slice_bounds-entries-end-2
slice_bounds-entries-end-2 c = let o = c.once-once in sym (length-take-le o.result o.new.keys o.ensures.within)

pub entries-requires : goal.entries-requires
entries-requires c = let a = c.args in
    front_ranks a.by a.keys.now _ _ _ _
    c.requires
    c.ranks.ensures
    c.sort.ensures c.once-once.ensures

pub returns : goal.returns
returns c = front_entries c.args.by c.args.keys.now _ _ _ _
    c.requires c.ranks.ensures c.sort.ensures c.once-once.ensures _ _ c.entries.ensures
