-- `quadtree::rank_of_morton` meets its contract: a Morton code is not 0.
use Prim.Native.Nat.{ℕ, ◌<◌}
use Rattle.quadtree.specs.Lists.{by_tile}
use Rattle.quadtree.specs.Tree.{morton_small}
use Rattle.quadtree.proofs.rank_of_morton.Goals as goal

pub zoom_in-requires : goal.zoom_in-requires
zoom_in-requires c = by_tile (λ (q : ℕ). 0 < q) c.requires (λ t m. (morton_small t m).0)
