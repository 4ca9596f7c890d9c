-- `quadtree::rank_at` meets its contract: the column behind its leading 1, then the row.
use mathlib.Core.Path.{◌≡◌, ◌∙◌}
use Prim.Native.Nat.{ℕ, ◌+◌, ◌*◌, ◌/◌, ◌%◌, ◌^◌, ◌<◌}
use native.Mathlib.Omega.{arith}
use Rattle.quadtree.specs.Lists.{by_tile}
use Rattle.quadtree.specs.Numbers.{zoom_in, even_bits, morton_tile, rank_of}
use Rattle.quadtree.specs.OneTile.{morton_tile_lem}
use Rattle.quadtree.specs.RankOrder.{rank_small, morton_rank}
use Rattle.quadtree.proofs.rank_at.Goals as goal
use Rattle.quadtree.proofs.rank_at.Goals.{After-gather-2}

pub overflow_shl-result : goal.overflow_shl-result
unfolding zoom_in
overflow_shl-result c = omega (arith, c.requires.1)

abbrev summed : ℕ → ℕ
summed q = even_bits 32 q * 2 ^ zoom_in q % 2 ^ 64 + even_bits 32 (q / 2)

as_summed : (c : After-gather-2)
    → c.gather.result * 2 ^ c.args.z % 2 ^ 64 + c.gather-2.result ≡ summed c.args.q
as_summed c = rw (c.gather.ensures, c.requires.1, c.gather-2.ensures)

pub overflow_add-result : goal.overflow_add-result
overflow_add-result c = let l = by_tile (λ (q : ℕ). summed q < 2 ^ 61) c.requires.0 (λ t m. rw (morton_rank t m) (rank_small t m).1) in
    omega (arith, as_summed (goal.at.overflow_add-result c).After-gather-2)

pub returns : goal.returns
returns c = let e = by_tile (λ (q : ℕ). summed q ≡ rank_of (morton_tile q)) c.requires.0 (λ t m. rw (morton_tile_lem t m) (morton_rank t m)) in
    as_summed (goal.at.returns c).After-gather-2 ∙ e
