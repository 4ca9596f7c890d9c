-- The tiles of zoom m or more that are full while their parent is not, or has a zoom less than m; and which tiles of a kind are those of
-- the ground that they cover.
use Rattle.std.proofs.Math.Path.{◌≡◌}
use Rattle.std.specs.Prelude.{Bool}
use Rattle.std.proofs.Math.Bool.{true}
use Prim.Native.Nat.{ℕ, ◌-◌, ◌^◌, ◌≤◌, ◌<◌}
use Rattle.ground.specs.Ground.{full}
use Rattle.tile.specs.OnMap.{tile_at}
use Rattle.tile.specs.declared.Tile.{Tile}
use Rattle.tile_set.specs.Holds.{Holds}
use Rattle.tile_set.specs.Holds.{Valid}
use Rattle.tile_set.specs.Set.{parent_tile}

-- all cells of t are in the set
abbrev pub Full : ℕ → (ℕ → ℕ → Bool) → Tile → Type 0
Full D G t = full G (D - t.z) t ≡ true

-- what the test `largest_from` says of a tile
pub record Largest (m D : ℕ) (G : ℕ → ℕ → Bool) (t : Tile) : Type 0 where
  pub floor : m ≤ t.z
  pub filled : Full D G t
  pub top : m < t.z → Full D G (parent_tile t) → ⊥

-- the tiles of the kind P are of the map and cover just the set G
pub record Cover (D : ℕ) (G : ℕ → ℕ → Bool) (P : Tile → Type 0) : Type 0 where
  pub of_map : (t : Tile) → P t → Valid D t
  pub covers : (X Y : ℕ) → X < 2 ^ D → Y < 2 ^ D → G X Y ≡ true → (r : Tile) × P r × Holds r (tile_at X Y D)
  pub covered : (X Y : ℕ) (t : Tile) → P t → Holds t (tile_at X Y D) → G X Y ≡ true
