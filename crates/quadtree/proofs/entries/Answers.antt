-- `quadtree::entries` meets its contract: the ranks before i have become entries, and those from i on stand as they were.
use mathlib.Core.Path.{refl, ap, ◌∙◌}
use Prim.Native.Nat.{ℕ, ◌<◌}
use native.Mathlib.Omega.{arith}
use lib.ListN.{get_or}
use Rattle.quadtree.specs.Lists.{TileNumber, rank_entry, by_tile, number_at, mapped_length, mapped_at, mapped_next, mapped_all}
use Rattle.quadtree.specs.Numbers.{rank_of, zoom_in}
use Rattle.quadtree.specs.RankOrder.{rank_small}
use Rattle.quadtree.proofs.entries.Goals as goal
use Rattle.quadtree.proofs.entries.Goals.{In-loop-number}

pub loop-number-init : goal.loop-number-init
loop-number-init c = (omega arith, record { same = refl; within = omega arith; written = refl })

-- the next rank is a tile's
next : (c : In-loop-number) → TileNumber rank_of (get_or c.loop-number.ranks c.loop-number.number-index 0)
next c =
    let l = c.loop-number in
    rw (mapped_at l.invariant.1) (number_at _ _ c.requires (omega (arith, mapped_length l.invariant.1)))

pub zoom_from-z-requires : goal.zoom_from-z-requires
zoom_from-z-requires c = (by_tile (λ (r : ℕ). 0 < r) (next (goal.at.zoom_from-z-requires c).In-loop-number) (λ t m. (rank_small t m).0), c.loop-number.invariant.0)

pub entry_of_rank-requires : goal.entry_of_rank-requires
entry_of_rank-requires c = (next (goal.at.entry_of_rank-requires c).In-loop-number, c.zoom_from-z.ensures)

pub loop-number-preserved : goal.loop-number-preserved
unfolding zoom_in
loop-number-preserved c = let l = c.loop-number in (
  omega (arith, c.zoom_from-z.ensures),
  mapped_next l.invariant.1 (omega (arith, mapped_length l.invariant.1)) (c.entry_of_rank.ensures ∙ ap rank_entry (mapped_at l.invariant.1)),
)

pub returns : goal.returns
returns c = let l = c.loop-number in mapped_all l.invariant.1 (omega (arith, mapped_length l.invariant.1))
