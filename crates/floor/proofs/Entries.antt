-- Tiles of the map and their entries.
use Rattle.std.specs.Prelude.{◌≡◌, ℕ}
use Rattle.std.proofs.Common.{subst}
use mathlib.Core.List.{List, Memᴰ}
use Rattle.area.proofs.Grounds.{tiles_again}
use Rattle.bits.specs.Tests.{into_map}
use Rattle.constants.specs.Limits.{max_zoom}
use Rattle.ids.specs.Entry.{entry_of, entry_tile, entries_of}
use Rattle.ids.proofs.EntryLemmas.{entry_tile_again}
use Rattle.tile.specs.declared.Tile.{Tile}
use Rattle.quadtree.specs.Locations.{map_tile}
use Rattle.tile_set.specs.Holds.{Valid}

-- the entries of tiles of the map stand for these tiles
module _ (ts : List Tile) (valid : (t : Tile) → Memᴰ t ts → Valid max_zoom t) where
  pub entry_back : (t : Tile) → Memᴰ t ts → entry_tile (entry_of t.x t.y t.z) ≡ t
  entry_back t i = entry_tile_again t.x t.y t.z (map_tile t (valid t i))

  pub entry_in : (t : Tile) → Memᴰ t ts → Memᴰ (entry_of t.x t.y t.z) (entries_of ts)
  entry_in t i = into_map (λ (t : Tile). entry_of t.x t.y t.z) ts i

  pub entry_of_lem : (n : ℕ) → Memᴰ n (entries_of ts) → Memᴰ (entry_tile n) ts
  entry_of_lem n i = subst (λ (l : List Tile). Memᴰ (entry_tile n) l) (tiles_again ts valid) (into_map entry_tile (entries_of ts) i)
