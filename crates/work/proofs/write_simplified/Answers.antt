-- `write_simplified` hands the keys to the crate that does the work.
use mathlib.Core.Path.{◌≡◌, subst}
use mathlib.Core.List.{List}
use Prim.Native.Nat.{ℕ}
use lib.ListN.{length}
use Rattle.quadtree.specs.Lists.{sort_key, TileNumbers}
use Rattle.work.specs.One.{merge_simplifies, simplify_simplifies, simplify_v1_simplifies}
use Rattle.work.specs.Work.{sorted_by}
use Rattle.work.specs.declared.Simplification.{Simplification}
use Rattle.work.proofs.write_simplified.Goals as goal

-- what is asked of the keys, once the work is known
asked : (which known : Simplification) (keys out : List ℕ) → which ≡ known
    → TileNumbers (sort_key (sorted_by which)) keys × (length keys ≡ length out)
    → TileNumbers (sort_key (sorted_by known)) keys × (length keys ≡ length out)
asked which known keys out e h = (subst (λ (w : Simplification). TileNumbers (sort_key (sorted_by w)) keys) e h.0, h.1)

pub merged-joined-requires : goal.merged-joined-requires
merged-joined-requires c = asked c.args.which _ c.args.keys.now c.args.out.now c.in-Merge.is c.requires.tile_numbers

pub simplified_v1-requires : goal.simplified_v1-requires
simplified_v1-requires c = asked c.args.which _ c.args.keys.now c.args.out.now c.in-SimplifyV1.is c.requires.tile_numbers

pub simplified-requires : goal.simplified-requires
simplified-requires c = asked c.args.which _ c.args.keys.now c.args.out.now c.in-Simplify.is c.requires.tile_numbers

pub returns-in-Merge : goal.returns-in-Merge
returns-in-Merge c = merge_simplifies c.merged-joined.result c.in-Merge.is c.merged-joined.ensures

pub returns-in-SimplifyV1 : goal.returns-in-SimplifyV1
returns-in-SimplifyV1 c = simplify_v1_simplifies c.in-SimplifyV1.is c.simplified_v1.ensures

pub returns-in-Simplify : goal.returns-in-Simplify
returns-in-Simplify c = simplify_simplifies c.in-Simplify.is c.simplified.ensures
