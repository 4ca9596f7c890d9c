-- The pass leaves the locations of the simplified set.
use Rattle.std.specs.Prelude.{◌≡◌, List, ℕ, take}
use Rattle.std.proofs.Common.{ap, ◌∙◌}
use Rattle.constants.specs.Limits.{max_zoom}
use Rattle.quadtree.specs.Lists.{TileNumbers}
use Rattle.quadtree.specs.Numbers.{location_of, location_tile}
use Rattle.quadtree.specs.declared.Key.TheVariants.{Location}
use Rattle.sort.specs.Sort.{sort_n}
use Rattle.tile_list.specs.Finish.{Listed}
use Rattle.tile_list.specs.Laws.{sort_named, sort_numbers, named_within}
use Rattle.tile_list.specs.List.{named}
use Rattle.tile_set.specs.Set.{simplified}
use Rattle.tile_set.specs.Simplified.{simplified_is}
use Rattle.settle.specs.Settle.{Settles}

pub settled_set : (m : ℕ) (before after : List ℕ) (r : ℕ) → TileNumbers location_of before → Settles m (sort_n before) after r
    → named location_tile (take r after) ≡ simplified max_zoom m (named location_tile before)
settled_set m before after r h s =
    (λ i t. simplified_is (named_within Location (sort_n before) (sort_numbers location_of before h)) s.simplest t i)
    ∙ ap (simplified max_zoom m) (sort_named location_tile before)

pub settled_listed : (m : ℕ) (before after memory : List ℕ) (r count : ℕ) → TileNumbers location_of before → Settles m (sort_n before) after r
    → Listed (named location_tile (take r after)) memory count → Listed (simplified max_zoom m (named location_tile before)) memory count
settled_listed m before after memory r count h s l = rw (settled_set m before after r h s) at l
