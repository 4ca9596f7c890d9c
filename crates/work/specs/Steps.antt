-- What the steps of the code ask and leave.
use Rattle.std.specs.Prelude.{◌≡◌, Bool, true, false, ◌&&◌, List, ◌++◌, map, ℕ, ◌+◌, ◌≤◌, length}
use Rattle.bits.specs.Tests.{all_of}
use Rattle.work.specs.Work.{simplification_set, sorted_by, locations_of, overlay_items, overlay_places, pair_tests}
use Rattle.work.specs.declared.Outcome.{Outcome}
use Rattle.work.specs.declared.Overlay.{Overlay}
use Rattle.work.specs.declared.Simplification.{Simplification}
use Rattle.work.specs.declared.Simplification.TheVariants.{Merge, SimplifyV1, Simplify}
use Rattle.constants.specs.Limits.{max_entries}
use Rattle.ids.specs.Entry.{is_entry}
use Rattle.quadtree.specs.Lists.{entry_key, sort_tile}
use Rattle.quadtree.specs.Locations.{Runs}
use Rattle.quadtree.specs.declared.Key.TheVariants.{Location}
use Rattle.settled.specs.Settled.{is_settled}
use Rattle.tile.specs.declared.Tile.{Tile}
use Rattle.tile_list.specs.Finish.{Listed}
use Rattle.tile_list.specs.List.{named, filled}
use Rattle.tile_set.specs.Set.{joins}

-- lists that are not too long, and places for the keys of all their entries
pub record InScratch (a b : List ℕ) (places : ℕ) : Type 0 where
  pub first_few : length a ≤ max_entries
  pub second_few : length b ≤ max_entries
  pub room : length a + length b ≤ places

-- what `changed` says of the set itself
abbrev pub Changes : Simplification → ℕ → (Tile → Bool) → Bool → Type 0
Changes Merge m S b = (b ≡ false → (t : Tile) → joins m S t ≡ false) × (b ≡ true → (t : Tile) × (joins m S t ≡ true))
Changes SimplifyV1 m S b = b ≡ false
Changes Simplify m S b = b ≡ false

-- the keys of a set's tiles are turned into the list of the set that is left, and r tells its count and what changed
pub record Simplifies (which : Simplification) (m : ℕ) (keys after : List ℕ) (r : Outcome) : Type 0 where
  pub listed : Listed (simplification_set which m (named (sort_tile (sorted_by which)) keys)) after r.count
  pub changes : Changes which m (named (sort_tile (sorted_by which)) keys) r.yes

-- whether both are lists of entries, and then the locations of their tiles, one list behind the other
pub record KeyedBoth (a b keys : List ℕ) (r : Bool) : Type 0 where
  pub answer : r ≡ all_of is_entry a && all_of is_entry b
  pub both : r ≡ true → keys ≡ map (entry_key Location) a ++ map (entry_key Location) b

-- the locations of two lists that are settled, each list's in order
pub record InRuns (a b keys : List ℕ) : Type 0 where
  pub locations : keys ≡ locations_of a ++ locations_of b
  pub first : Runs (locations_of a)
  pub second : Runs (locations_of b)

pub record SettledBoth (a b keys : List ℕ) (r : Bool) : Type 0 where
  pub answer : r ≡ is_settled a && is_settled b
  pub in_runs : r ≡ true → InRuns a b keys

-- the refusal of the two, and the locations where there is none
pub record Located (a b keys : List ℕ) (r : ℕ) : Type 0 where
  pub refusal : r ≡ pair_tests a b
  pub in_runs : r ≡ 0 → InRuns a b keys

-- the list that a work of two lists makes, with 0 in the other places that were asked for
pub record Overlays (which : Overlay) (a b before after : List ℕ) (r : ℕ) : Type 0 where
  pub counted : r ≡ length (overlay_items which a b)
  pub written : after ≡ filled (overlay_places which a b) (overlay_items which a b) before
