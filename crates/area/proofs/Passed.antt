-- Two lists that have passed the tests: the sets that are made of their tiles' locations are the settled lists that are promised.
use Rattle.std.specs.Prelude.{◌≡◌, refl, Bool, true, false, not, ◌&&◌, ◌||◌, List, ◌++◌, map, ℕ, ◌<◌, length}
use Rattle.std.proofs.Common.{sym, ◌∙◌, subst, arith}
use Rattle.std.proofs.lemmas.List.{length-map}
use Rattle.area.specs.Area.{ground_of, union_entries, common_entries, difference_entries}
use Rattle.area.proofs.Grounds.{listed_covers, largest_entries, simplified_entries}
use Rattle.area.specs.Left.{difference_covers, difference_tops}
use Rattle.area.specs.Pairs.{union_covers, common_covers, common_tops}
use Rattle.area.proofs.Settled.{settled_tops}
use Rattle.bits.specs.Tests.{and_parts, all_of, any_append}
use Rattle.constants.specs.Limits.{max_zoom}
use Rattle.errors.specs.Answer.{◌when◌, ◌else◌}
use Rattle.ground.specs.Largest.{Full, Cover}
use Rattle.ids.specs.Entry.{is_entry}
use Rattle.overlay.specs.Overlay.{union_set, common_set, left_set, left_entries}
use Rattle.quadtree.specs.Lists.{entry_key}
use Rattle.quadtree.specs.Locations.{Runs}
use Rattle.quadtree.specs.Numbers.{location_tile}
use Rattle.quadtree.specs.declared.Key.TheVariants.{Location}
use Rattle.settled.specs.ByLocations.{locations_named, settled_runs}
use Rattle.settled.specs.Settled.{is_settled}
use Rattle.sort.specs.Sorted.{sort_length}
use Rattle.tile.specs.declared.Tile.{Tile}
use Rattle.tile_list.specs.List.{same, named, entries_in_order}
use Rattle.tile_set.specs.Set.{parent_tile}
use Rattle.work.specs.Work.{locations_of, pair_tests}

pub locations_length : (list : List ℕ) → length (locations_of list) ≡ length list
locations_length list = sort_length (map (entry_key Location) list) ∙ length-map list (entry_key Location)

-- the locations of one list's tiles
module _ (list : List ℕ) (entries : all_of is_entry list ≡ true) where
  abbrev its : Tile → Bool
  its = named location_tile (locations_of list)

  covers : Cover max_zoom (ground_of list) (λ t. its t ≡ true)
  covers = rw (locations_named list entries) (listed_covers list entries)

  tops : is_settled list ≡ true → (t : Tile) → its t ≡ true → 0 < t.z → Full max_zoom (ground_of list) (parent_tile t) → ⊥
  tops s = rw (locations_named list entries) (settled_tops list s entries)

  runs : is_settled list ≡ true → Runs (locations_of list)
  runs = settled_runs list (map (entry_key Location) list) (locations_of list) entries refl refl

named_append : (tile : ℕ → Tile) (a b : List ℕ) (t : Tile) → named tile (a ++ b) t ≡ named tile a t || named tile b t
unfolding named
named_append tile a b t = any_append (λ n. same (tile n) t) a b

tests_passed : (e s : Bool) → 7 when not e else 11 when not s ≡ 0 → (e ≡ true) × (s ≡ true)
tests_passed true true h = (refl, refl)
tests_passed true false h = absurd (omega arith)
tests_passed false s h = absurd (omega arith)

module _ (a b : List ℕ) (passed : pair_tests a b ≡ 0) where
  both : (all_of is_entry a && all_of is_entry b ≡ true) × (is_settled a && is_settled b ≡ true)
  both = tests_passed (all_of is_entry a && all_of is_entry b) (is_settled a && is_settled b) passed

  entries_both : (all_of is_entry a ≡ true) × (all_of is_entry b ≡ true)
  entries_both = and_parts (all_of is_entry a) (all_of is_entry b) both.0

  settled_both : (is_settled a ≡ true) × (is_settled b ≡ true)
  settled_both = and_parts (is_settled a) (is_settled b) both.1

  pub runs_both : Runs (locations_of a) × Runs (locations_of b)
  runs_both = (runs a entries_both.0 settled_both.0, runs b entries_both.1 settled_both.1)

  abbrev A : Tile → Bool
  A = named location_tile (locations_of a)

  abbrev B : Tile → Bool
  B = named location_tile (locations_of b)

  covers_a : Cover max_zoom (ground_of a) (λ t. A t ≡ true)
  covers_a = covers a entries_both.0

  covers_b : Cover max_zoom (ground_of b) (λ t. B t ≡ true)
  covers_b = covers b entries_both.1

  pub union_entries_lem : entries_in_order (union_set (locations_of a) (locations_of b)) ≡ union_entries a b
  union_entries_lem =
      simplified_entries (λ X Y. ground_of a X Y || ground_of b X Y) (named location_tile (locations_of a ++ locations_of b))
      (subst (λ (S : Tile → Bool). Cover max_zoom (λ X Y. ground_of a X Y || ground_of b X Y) (λ t. S t ≡ true))
      (λ i t. sym (named_append location_tile (locations_of a) (locations_of b) t) i)
      (union_covers A B covers_a covers_b))

  pub common_entries_lem : entries_in_order (common_set (locations_of a) (locations_of b)) ≡ common_entries a b
  common_entries_lem =
      largest_entries (λ X Y. ground_of a X Y && ground_of b X Y) (common_set (locations_of a) (locations_of b))
      (common_covers A B covers_a covers_b)
      (common_tops A B covers_a covers_b (tops a entries_both.0 settled_both.0) (tops b entries_both.1 settled_both.1))

  pub left_entries_lem : left_entries (locations_of a) (locations_of b) ≡ difference_entries a b
  left_entries_lem =
      largest_entries (λ X Y. ground_of a X Y && not (ground_of b X Y)) (left_set (locations_of a) (locations_of b))
      (difference_covers (locations_of a) (locations_of b) (ground_of a) (ground_of b) covers_a covers_b)
      (difference_tops (locations_of a) (locations_of b) (ground_of a) (ground_of b) covers_a covers_b
      (tops a entries_both.0 settled_both.0))
