-- `quadtree::entries` meets its contract: the ranks before i have become entries, and those from i on stand as they were.
use Prim.Native.Nat.{◌<◌}
use Rattle.quadtree.specs.Lists.{rank_entry, Mapped}
use Rattle.quadtree.proofs.entries.Given as goal

abbrev pub invariant-loop-number : goal.invariant-loop-number
invariant-loop-number l = (l.z < 32) × Mapped rank_entry l.initial.ranks l.initial.ranks l.number-index l.ranks
