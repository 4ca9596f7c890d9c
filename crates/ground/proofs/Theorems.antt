-- The one settled list of a ground, over any deepest zoom D: it is there for every set, only one is, and no list of tiles with that ground
-- is shorter. It is the case m = 0 of `Floor`. Last, that the ground of a list is what the theorems on sets of tiles call covered.
use Rattle.std.specs.Prelude.{◌≡◌, refl, ◌↔◌, Bool, true, ℕ, ◌≤◌, length}
use mathlib.Core.List.{List, Memᴰ}
use Rattle.std.proofs.Common.{arith}
use Rattle.ground.proofs.Cells.{ground_in, ground_of_lem}
use Rattle.ground.proofs.FloorLemmas.{list_covers, settled_list_settled_from, settled_list_ground_from}
use Rattle.ground.proofs.FloorLemmas.{one_settled_list_from, settled_list_same_from, settled_list_least_from}
use Rattle.ground.specs.Ground.{ground, Same, Settled, SettledFrom, settled_list}
use Rattle.tile.specs.declared.Tile.{Tile}
use Rattle.tile_set.specs.Holds.{Valid}
use Rattle.tile_set.specs.Theorems.{Covered}

module _ (D : ℕ) where
  -- settled means settled above the floor 0
  pub settled_from_0 : (l : List Tile) → Settled D l ↔ SettledFrom 0 D l
  settled_from_0 l = (
    λ s. record { of_map = s.of_map; floor = λ t i. omega arith; in_order = s.in_order; apart = s.apart; no_four = λ p g. s.no_four p },
    λ s. record { of_map = s.of_map; in_order = s.in_order; apart = s.apart; no_four = λ p. s.no_four p (omega arith) },
  )

  -- the list is settled
  pub settled_list_settled : (G : ℕ → ℕ → Bool) → Settled D (settled_list D G)
  settled_list_settled G = (settled_from_0 (settled_list D G)).1 (settled_list_settled_from 0 D G)

  -- its ground is the set
  pub settled_list_ground : (G : ℕ → ℕ → Bool) → Same D (ground D (settled_list D G)) G
  settled_list_ground = settled_list_ground_from 0 D (omega arith)

  -- it is the only settled list with that ground
  pub one_settled_list : (G : ℕ → ℕ → Bool) (l : List Tile) → Settled D l → Same D (ground D l) G → l ≡ settled_list D G
  one_settled_list G l s = one_settled_list_from 0 D G l ((settled_from_0 l).0 s)

  -- sets with the same tiles of the map have the same list
  pub settled_list_same : (G H : ℕ → ℕ → Bool) → Same D G H → settled_list D G ≡ settled_list D H
  settled_list_same = settled_list_same_from 0 D (omega arith)

  -- no list of tiles with that ground is shorter, repeats and overlaps allowed
  pub settled_is_least : (a l : List Tile) → Settled D a → ((t : Tile) → Memᴰ t l → Valid D t) → Same D (ground D l) (ground D a)
      → length a ≤ length l
  settled_is_least a l s v e =
      rw (one_settled_list (ground D a) a s (λ X Y p q. refl))
      (settled_list_least_from 0 D (list_covers l v e) (λ t i. omega arith) l (λ t i. i))

  -- the ground of a list of tiles of the map is what the set of its tiles covers
  pub ground_is_covered : (l : List Tile) (S : Tile → Bool) → ((t : Tile) → (S t ≡ true) ↔ Memᴰ t l)
      → ((t : Tile) → Memᴰ t l → Valid D t) → (X Y : ℕ) → (ground D l X Y ≡ true) ↔ Covered D S X Y
  ground_is_covered l S same v X Y = (
    λ e. let r = ground_of_lem l X Y v e in (r.0, (same r.0).1 r.1, r.2),
    λ c. ground_in l X Y c.0 ((same c.0).0 c.1) c.2,
  )
