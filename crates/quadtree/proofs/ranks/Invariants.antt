-- `quadtree::ranks` meets its contract: the keys before i have become ranks, and those from i on stand as they were.
use Rattle.quadtree.specs.Lists.{key_rank, Mapped}
use Rattle.quadtree.proofs.ranks.Given as goal

abbrev pub invariant-loop-key : goal.invariant-loop-key
invariant-loop-key l = Mapped (key_rank l.by) l.initial.keys l.initial.keys l.key-index l.keys
