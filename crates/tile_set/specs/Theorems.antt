-- What `merge`, `simplify` and `simplify_v1` do to a set of tiles, in document 01's words. Nothing is assumed but that the tiles are
-- of the map.
use Rattle.std.specs.Prelude.{◌≡◌, refl, ◌↔◌, Bool, true, false, ℕ, zero, suc, ◌+◌, ◌<◌}
use Rattle.std.proofs.Common.{sym, ◌∙◌, ⊎_elim, true≢false, arith}
use Rattle.std.proofs.Math.Logic.Iff
use Rattle.tile.specs.OnMap.{tile_at}
use Rattle.tile.specs.declared.Tile.{Tile}
use Rattle.tile_set.specs.Holds.{Holds, holds_trans, in_a_child}
use Rattle.tile_set.specs.Merged.{Within, Covers, is_false, joined_four, joins_joined, joined_joins, merged_cases, merged_gone}
use Rattle.tile_set.specs.Merged.{merged_covers, merged_same, passes_within, still}
use Rattle.tile_set.specs.Set.{parent_tile, child, whole, joins, joined, merged, passes, uncovered, simplified, simplified_v1}
use Rattle.tile_set.specs.Simplified.{simplified_simplest}
use Rattle.tile_set.specs.Uncovered.{uncovered_of, uncovered_covers, uncovered_within}

-- "Ground means the zoom-29 tiles inside any listed tile", zoom-30 by document 02: the tile (X, Y) of the deepest zoom D lies in a tile
-- of the set.
-- The crate `ground` has the ground of a list, and that it is what the set of the list's tiles covers.
abbrev pub Covered : ℕ → (Tile → Bool) → ℕ → ℕ → Type 0
Covered D S X Y = (t : Tile) × (S t ≡ true) × Holds t (tile_at X Y D)

covers_ground : {D X Y : ℕ} (R S : Tile → Bool) → Covers R S → Covered D S X Y → Covered D R X Y
covers_ground R S f (t, e, h) = let r = f t e in (r.0, r.1, holds_trans r.2 h)

-- "`merge`, one pass": the ground stays
pub merge_keeps_ground : {D : ℕ} (m : ℕ) (S : Tile → Bool) → Within D S → (X Y : ℕ) → Covered D S X Y ↔ Covered D (merged m S) X Y
merge_keeps_ground {D} m S w X Y = (
  covers_ground (merged m S) S (merged_covers m S),
  λ g. ⊎_elim (λ k. (g.0, k.0, g.2)) (part g.0 g.2) (merged_cases m S g.0 g.1),
)
  where
    part : (t : Tile) → Holds t (tile_at X Y D) → joined m S t ≡ true → Covered D S X Y
    part t h k =
        let v = w (child t 0 0) (joined_four m S t k 0 0 (omega arith) (omega arith)) in
        let c = in_a_child h v.zoom in
        (child t c.0 c.1, joined_four m S t k c.0 c.1 c.2 c.3, c.4)

passes_keep_ground : {D : ℕ} (n m : ℕ) (S : Tile → Bool) → Within D S → (X Y : ℕ) → Covered D S X Y ↔ Covered D (passes n m S) X Y
unfolding passes
passes_keep_ground zero m S w X Y = (λ g. g, λ g. g)
passes_keep_ground (suc n) m S w X Y =
    Iff.trans (passes_keep_ground n m S w X Y) (merge_keeps_ground m (passes n m S) (passes_within n m S w) X Y)

uncovered_keeps_ground : {D : ℕ} (k : ℕ) (S : Tile → Bool) (X Y : ℕ) → Covered D S X Y ↔ Covered D (uncovered k S) X Y
uncovered_keeps_ground k S X Y =
    (covers_ground (uncovered k S) S (uncovered_covers k S), λ g. (g.0, (uncovered_of k S g.0 g.1).0, g.2))

pub simplify_keeps_ground : {D : ℕ} (m : ℕ) (S : Tile → Bool) → Within D S → (X Y : ℕ) → Covered D S X Y ↔ Covered D (simplified D m S) X Y
unfolding simplified
simplify_keeps_ground {D} m S w X Y =
    Iff.trans (uncovered_keeps_ground 0 S X Y) (passes_keep_ground D m (uncovered 0 S) (uncovered_within 0 S w) X Y)

pub simplify_v1_keeps_ground : {D : ℕ} (m : ℕ) (S : Tile → Bool) → Within D S → (X Y : ℕ)
    → Covered D S X Y ↔ Covered D (simplified_v1 D m S) X Y
unfolding simplified_v1
simplify_v1_keeps_ground {D} m S w X Y =
    Iff.trans (uncovered_keeps_ground m S X Y) (passes_keep_ground D m (uncovered m S) (uncovered_within m S w) X Y)

-- "`merge` until nothing changes": the D passes of the definition are enough
pub simplify_still : {D : ℕ} (m : ℕ) (S : Tile → Bool) → Within D S → (t : Tile) → merged m (simplified D m S) t ≡ simplified D m S t
unfolding simplified
simplify_still {D} m S w = still D m (uncovered 0 S) (uncovered_within 0 S w)

pub simplify_v1_still : {D : ℕ} (m : ℕ) (S : Tile → Bool) → Within D S → (t : Tile) → merged m (simplified_v1 D m S) t ≡ simplified_v1 D m S t
unfolding simplified_v1
simplify_v1_still {D} m S w = still D m (uncovered m S) (uncovered_within m S w)

module _ {D : ℕ} (m : ℕ) (S : Tile → Bool) (within : Within D S) where
  taken_under : (n : ℕ) (t : Tile) → D < n + t.z → S t ≡ true → joins m S t ≡ true → (u : Tile) × (S u ≡ true) × (merged m S u ≡ false)
  taken_under zero t l s e = let v = within t s in absurd (omega (arith, v.zoom))
  taken_under (suc n) t l s e = pick (joined m S t) refl (taken_under n (child t 0 0) (omega arith))
    where
      pick : (b : Bool) → joined m S t ≡ b
          → (S (child t 0 0) ≡ true → joins m S (child t 0 0) ≡ true → (u : Tile) × (S u ≡ true) × (merged m S u ≡ false))
          → (u : Tile) × (S u ≡ true) × (merged m S u ≡ false)
      pick true k g = g (joined_four m S t k 0 0 (omega arith) (omega arith)) (joined_joins m S t 0 0 (omega arith) (omega arith) k)
      pick false k g = (t, s, merged_gone m S t e k)

  -- where a tile joins with its siblings, some tile of the set is gone: one that joins and is not put back for its own four children
  pub merge_takes : (t : Tile) → joins m S t ≡ true → (u : Tile) × (S u ≡ true) × (merged m S u ≡ false)
  merge_takes t e =
      let k = joins_joined m S t e in
      taken_under (suc D) (child (parent_tile t) 0 0) (omega arith) (joined_four m S (parent_tile t) k 0 0 (omega arith) (omega arith))
      (joined_joins m S (parent_tile t) 0 0 (omega arith) (omega arith) k)

  -- "`changed` says whether any did": no tile joins exactly where the set stays as it is
  pub merge_changes_lem : ((t : Tile) → joins m S t ≡ false) ↔ ((t : Tile) → merged m S t ≡ S t)
  merge_changes_lem = (
    merged_same m S,
    λ same t. is_false (joins m S t) (λ e. let u = merge_takes t e in true≢false (sym u.1 ∙ (sym (same u.0) ∙ u.2))),
  )

-- "no tile beside its own ancestor, no four siblings together; `simplify` at m = 0 gives it"
pub settled_at_0 : {D : ℕ} (S : Tile → Bool) → Within D S
    → ((a b : Tile) → simplified D 0 S a ≡ true → simplified D 0 S b ≡ true → Holds a b → a ≡ b)
    × ((p : Tile) → whole (simplified D 0 S) p ≡ false)
settled_at_0 {D} S w =
    let r = simplified_simplest 0 S w in
    (r.apart, λ p. is_false (whole (simplified D 0 S) p) (r.no_four p (omega arith)))

-- all ancestors of zoom 0 to z - 1 - 0 are all ancestors
pub simplify_and_v1_at_0 : (D : ℕ) (S : Tile → Bool) (t : Tile) → simplified D 0 S t ≡ simplified_v1 D 0 S t
unfolding simplified simplified_v1
simplify_and_v1_at_0 D S t = refl
