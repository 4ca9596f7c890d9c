-- From the tiles that stay to the simplified set.
use Rattle.std.proofs.Common.{ap, ◌∙◌}
use Rattle.std.specs.Prelude.{List, ℕ, take}
use Rattle.constants.specs.Limits.{max_zoom}
use Rattle.families.specs.Pass.{Still}
use Rattle.quadtree.specs.Numbers.{morton_tile, location_tile}
use Rattle.sort.specs.Sort.{sort_n}
use Rattle.tile_list.specs.Finish.{Listed}
use Rattle.tile_list.specs.Laws.{sort_named}
use Rattle.tile_list.specs.List.{named}
use Rattle.tile_set.specs.Set.{passes, uncovered, simplified_v1}
use Rattle.ancestors.specs.Tops.{Uncovers}

pub sort_uncovers : {m r : ℕ} {after : List ℕ} (list : List ℕ) → Uncovers m (sort_n list) after r → Uncovers m list after r
sort_uncovers {m} list u =
    record { within = u.within; numbers = u.numbers; set = u.set ∙ ap (uncovered m) (sort_named location_tile list) }

pub still_listed : {m left count r : ℕ} {codes after memory : List ℕ} (list : List ℕ) → Uncovers m list codes left
    → Still m (take left codes) after count
    → Listed (named morton_tile (take count after)) memory r → Listed (simplified_v1 max_zoom m (named location_tile list)) memory r
unfolding simplified_v1
still_listed {m} list u s l = rw (s.set ∙ ap (passes max_zoom m) u.set) at l
