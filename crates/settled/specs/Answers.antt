-- What the tests of a list answer.
use Rattle.std.specs.Prelude.{◌≡◌, Bool, true, false, List, map, ℕ}
use Rattle.errors.specs.Answer.{Answer, answer}
use Rattle.quadtree.specs.Lists.{entry_key}
use Rattle.quadtree.specs.Numbers.{location_tile}
use Rattle.quadtree.specs.declared.Key.TheVariants.{Location}
use Rattle.sort.specs.Sort.{sort_n}
use Rattle.tile.specs.declared.Tile.{Tile}
use Rattle.tile_list.specs.List.{named, list_refusal}
use Rattle.tile_set.specs.Set.{whole}
use Rattle.quadtree.specs.Locations.{Runs}
use Rattle.settled.specs.Settled.{is_settled}

-- r says whether the tiles of the locations l, in their order, lie apart with no four siblings among them
pub record Lone (l : List ℕ) (r : Bool) : Type 0 where
  pub fine : r ≡ true → Runs l × ((p : Tile) → whole (named location_tile l) p ≡ false)
  pub off : r ≡ false → Runs l → ((p : Tile) → whole (named location_tile l) p ≡ false) → ⊥

-- r says whether the list is settled, and where it is, the locations of its tiles are left in order
pub record Tested (list locations : List ℕ) (r : Bool) : Type 0 where
  pub answer : r ≡ is_settled list
  pub in_order : r ≡ true → locations ≡ sort_n (map (entry_key Location) list)
  pub runs : r ≡ true → Runs locations

abbrev pub is_settled_of : List ℕ → Answer Bool
is_settled_of list = answer (list_refusal list) false (is_settled list)
