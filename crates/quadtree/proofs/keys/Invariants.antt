-- `quadtree::keys` meets its contract: the keys before i stand in the memory, and whether all of the list are entries is whether those from i on are.
use mathlib.Core.Path.{◌≡◌}
use lib.ListN.{drop}
use Rattle.bits.specs.Tests.{all_of}
use Rattle.ids.specs.Entry.{is_entry}
use Rattle.quadtree.specs.Lists.{entry_key, Mapped}
use Rattle.quadtree.proofs.keys.Given as goal

abbrev pub invariant-loop-i : goal.invariant-loop-i
invariant-loop-i l = (all_of is_entry l.list ≡ all_of is_entry (drop l.i l.list)) × Mapped (entry_key l.by) l.list l.initial.keys l.i l.keys
