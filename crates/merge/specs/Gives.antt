-- What `simplify` gives at any minimum zoom: the entries of the simplified set, in order.
use Rattle.std.specs.Prelude.{ℕ, List}
use Rattle.constants.specs.Limits.{max_zoom}
use Rattle.errors.specs.Gives.{Gives}
use Rattle.merge.specs.Merge.{simplify_of}
use Rattle.tile_list.specs.Gives.{listed_gives}
use Rattle.tile_list.specs.List.{listed, entries_in_order, places_refusal}
use Rattle.tile_set.specs.Set.{simplified}

pub simplify_gives : (m : ℕ) (list memory : List ℕ)
    → Gives (simplify_of list m memory) (places_refusal list memory) (entries_in_order (simplified max_zoom m (listed list)))
simplify_gives m list memory = listed_gives (places_refusal list memory) list (entries_in_order (simplified max_zoom m (listed list))) memory
