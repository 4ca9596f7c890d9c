-- Union and common part: what their steps ask, and from what they leave to the set as a list.
use Rattle.std.specs.Prelude.{◌≡◌, Bool, List, ◌++◌, ℕ, ◌+◌, ◌≤◌, length, take, drop}
use Rattle.std.proofs.Common.{◌∙◌, subst, ⊎_elim, arith}
use mathlib.Core.List.Memᴰ
use Rattle.common.specs.Common.{Common}
use Rattle.overlay.specs.Overlay.{TwoSets, union_set, common_set}
use Rattle.overlay.specs.Parts.{both_lengths}
use Rattle.overlay.specs.Runs.{runs_numbers, runs_by}
use Rattle.quadtree.specs.Lists.{TileNumbers}
use Rattle.quadtree.specs.Locations.{Runs}
use Rattle.quadtree.specs.Numbers.{location_of, location_tile}
use Rattle.settle.specs.Settle.{Settles}
use Rattle.settle.specs.Simplify.{settled_listed}
use Rattle.sort.specs.Sort.{sort_n, By}
use Rattle.sort.specs.Sorted.{sorted_by_lem}
use Rattle.tile.specs.declared.Tile.{Tile}
use Rattle.tile_list.specs.Finish.{Listed}
use Rattle.tile_list.specs.Laws.{sort_numbers}
use Rattle.tile_list.specs.List.{named}

module _ {locations : List ℕ} {n : ℕ} (p : TwoSets locations n) where
  abbrev first : List ℕ
  first = take n locations

  abbrev rest : List ℕ
  rest = drop n locations

  numbers : TileNumbers location_of (first ++ rest)
  numbers k m = ⊎_elim (runs_numbers first p.first k) (runs_numbers rest p.second k) (Memᴰ.append_cases first m)

  pub merge_ready : (out : List ℕ) → length locations ≡ length out
      → By (λ n. n) first × By (λ n. n) rest × (length first + length rest ≡ length out)
  merge_ready out e = (runs_by first p.first, runs_by rest p.second, both_lengths p ∙ e)

  pub settle_ready : {merged : List ℕ} → merged ≡ sort_n (first ++ rest) → TileNumbers location_of merged × By (λ n. n) merged
  settle_ready e = rw e (sort_numbers location_of (first ++ rest) numbers, sorted_by_lem (first ++ rest))

  pub union_listed : {merged after memory : List ℕ} {r count : ℕ} → merged ≡ sort_n (first ++ rest) → Settles 0 merged after r
      → Listed (named location_tile (take r after)) memory count → Listed (union_set first rest) memory count
  union_listed {after = after} {memory} {r} {count} e s l =
      settled_listed 0 (first ++ rest) after memory r count numbers (subst (λ (m : List ℕ). Settles 0 m after r) e s) l

  pub common_ready : (out : List ℕ) → length locations ≡ length out → Runs first × Runs rest × (length first + length rest ≤ length out)
  common_ready out e = (p.first, p.second, omega (arith, both_lengths p))

  pub common_listed : {after memory : List ℕ} {r count : ℕ} → Common first rest after r
      → Listed (named location_tile (take r after)) memory count → Listed (common_set first rest) memory count
  common_listed {memory = memory} {count = count} c l = subst (λ (S : Tile → Bool). Listed S memory count) (λ i t. c.tiles t i) l
