-- The tiles that the operations make of two settled sets: they cover just what the operation keeps, and no parent of one is full.
use Rattle.std.specs.Prelude.{◌≡◌, Bool, true, ◌&&◌, ◌||◌, ℕ, suc, ◌^◌, ◌≤◌, ◌<◌}
use Rattle.std.proofs.Common.{sym, ap, ◌∙◌, ⊎_elim, arith}
use Rattle.std.proofs.Math.Bool.{or-true}
use Rattle.std.proofs.Math.Decide.{dec_le}
use Rattle.bits.specs.Tests.{and_parts}
use Rattle.common.specs.Common.{held_by, shared}
use Rattle.ground.proofs.Cells.{full_cells, cells_full}
use Rattle.ground.specs.Largest.{Full, Cover}
use Rattle.tile.specs.OnMap.{tile_at}
use Rattle.tile.specs.declared.Tile.{Tile}
use Rattle.tile_set.specs.Holds.{Holds, holds_trans, holds_both, ancestor_holds, holder_is_ancestor, Valid}
use Rattle.tile_set.specs.Merged.{or_cases}
use Rattle.tile_set.specs.Set.{ancestor, parent_tile}
use Rattle.tile_set.specs.Uncovered.{any_below_of, any_below_in}

-- a tile that is full in a set is full in a larger one
pub full_more : (D : ℕ) (G H : ℕ → ℕ → Bool) (t : Tile) → t.z ≤ D → ((X Y : ℕ) → G X Y ≡ true → H X Y ≡ true) → Full D G t → Full D H t
full_more D G H t l f e = cells_full D H t l (λ X Y h. f X Y (full_cells D G t e h))

held_when : (S : Tile → Bool) (t : Tile) → held_by S t ≡ true → (s : Tile) × (S s ≡ true) × Holds s t
held_when S t e =
    let r = any_below_of (suc t.z) (λ s. S (ancestor t s)) e in
    (ancestor t r.0, r.2, ancestor_holds t r.0 (omega (arith, r.1)))

when_held : (S : Tile → Bool) {s t : Tile} → S s ≡ true → Holds s t → held_by S t ≡ true
when_held S {s} {t} e h =
    any_below_in (suc t.z) (λ s. S (ancestor t s)) s.z (omega (arith, h.above)) (sym (ap S (holder_is_ancestor h)) ∙ e)

-- a tile of the common part is of one set and lies in a tile of the other
pub data Shared (A B : Tile → Bool) (t : Tile) : Type 0 where
  of_first_lem : A t ≡ true → (s : Tile) → B s ≡ true → Holds s t → Shared A B t
  of_second : B t ≡ true → (s : Tile) → A s ≡ true → Holds s t → Shared A B t

pub shared_when : (A B : Tile → Bool) (t : Tile) → shared A B t ≡ true → Shared A B t
unfolding shared
shared_when A B t e = ⊎_elim first second (or_cases (A t && held_by B t) (B t && held_by A t) e)
  where
    first : (A t && held_by B t) ≡ true → Shared A B t
    first k = let p = and_parts (A t) (held_by B t) k in let s = held_when B t p.1 in of_first_lem p.0 s.0 s.1 s.2

    second : (B t && held_by A t) ≡ true → Shared A B t
    second k = let p = and_parts (B t) (held_by A t) k in let s = held_when A t p.1 in of_second p.0 s.0 s.1 s.2

when_shared : (A B : Tile → Bool) (t : Tile) → Shared A B t → shared A B t ≡ true
unfolding shared
when_shared A B t (of_first_lem e s f h) = rw (e, when_held B f h)
when_shared A B t (of_second e s f h) = rw (e, when_held A f h) (or-true (A t && held_by B t))

module _ {D : ℕ} {G H : ℕ → ℕ → Bool} (A B : Tile → Bool) (C : Cover D G (λ t. A t ≡ true)) (E : Cover D H (λ t. B t ≡ true)) where
  -- the tiles of both sets
  pub union_covers : Cover D (λ X Y. G X Y || H X Y) (λ t. (A t || B t) ≡ true)
  union_covers = record { of_map = λ t e. ⊎_elim (C.of_map t) (E.of_map t) (or_cases (A t) (B t) e); covers = covers; covered = covered }
    where
      covers : (X Y : ℕ) → X < 2 ^ D → Y < 2 ^ D → (G X Y || H X Y) ≡ true → (r : Tile) × ((A r || B r) ≡ true) × Holds r (tile_at X Y D)
      covers X Y a b e = ⊎_elim first second (or_cases (G X Y) (H X Y) e)
        where
          first : G X Y ≡ true → (r : Tile) × ((A r || B r) ≡ true) × Holds r (tile_at X Y D)
          first k = let r = C.covers X Y a b k in (r.0, rw r.1, r.2)

          second : H X Y ≡ true → (r : Tile) × ((A r || B r) ≡ true) × Holds r (tile_at X Y D)
          second k = let r = E.covers X Y a b k in (r.0, rw r.1 (or-true (A r.0)), r.2)

      covered : (X Y : ℕ) (t : Tile) → (A t || B t) ≡ true → Holds t (tile_at X Y D) → (G X Y || H X Y) ≡ true
      covered X Y t e h =
          ⊎_elim (λ k. rw (C.covered X Y t k h)) (λ k. rw (E.covered X Y t k h) (or-true (G X Y))) (or_cases (A t) (B t) e)

  pub common_covers : Cover D (λ X Y. G X Y && H X Y) (λ t. shared A B t ≡ true)
  common_covers = record
      { of_map = λ t e. of_map t (shared_when A B t e); covers = covers; covered = λ X Y t e h. covered X Y t h (shared_when A B t e) }
    where
      of_map : (t : Tile) → Shared A B t → Valid D t
      of_map t (of_first_lem e s f h) = C.of_map t e
      of_map t (of_second e s f h) = E.of_map t e

      covers : (X Y : ℕ) → X < 2 ^ D → Y < 2 ^ D → (G X Y && H X Y) ≡ true → (r : Tile) × (shared A B r ≡ true) × Holds r (tile_at X Y D)
      covers X Y a b e =
          let p = and_parts (G X Y) (H X Y) e in
          deeper (C.covers X Y a b p.0) (E.covers X Y a b p.1)
        where
          deeper : (r : Tile) × (A r ≡ true) × Holds r (tile_at X Y D) → (s : Tile) × (B s ≡ true) × Holds s (tile_at X Y D)
              → (r : Tile) × (shared A B r ≡ true) × Holds r (tile_at X Y D)
          deeper (r, e, h) (s, f, k) = pick (dec_le s.z r.z)
            where
              pick : Dec (s.z ≤ r.z) → (r : Tile) × (shared A B r ≡ true) × Holds r (tile_at X Y D)
              pick (yes l) = (r, when_shared A B r (of_first_lem e s f (holds_both k h l)), h)
              pick (no l) = (s, when_shared A B s (of_second f r e (holds_both h k (omega arith))), k)

      covered : (X Y : ℕ) (t : Tile) → Holds t (tile_at X Y D) → Shared A B t → (G X Y && H X Y) ≡ true
      covered X Y t h (of_first_lem e s f k) = rw (C.covered X Y t e h, E.covered X Y s f (holds_trans k h))
      covered X Y t h (of_second e s f k) = rw (C.covered X Y s f (holds_trans k h), E.covered X Y t e h)

  -- the parent of a tile of the common part is not full, because it is not in the set that the tile is of
  pub common_tops : ((t : Tile) → A t ≡ true → 0 < t.z → Full D G (parent_tile t) → ⊥)
      → ((t : Tile) → B t ≡ true → 0 < t.z → Full D H (parent_tile t) → ⊥)
      → (t : Tile) → shared A B t ≡ true → 0 < t.z → Full D (λ X Y. G X Y && H X Y) (parent_tile t) → ⊥
  common_tops p q t e l f = pick (shared_when A B t e)
    where
      low : (parent_tile t).z ≤ D
      low = let v = common_covers.of_map t e in omega (arith, v.zoom)

      pick : Shared A B t → ⊥
      pick (of_first_lem i s j h) =
          p t i l (full_more D (λ X Y. G X Y && H X Y) G (parent_tile t) low (λ X Y k. (and_parts (G X Y) (H X Y) k).0) f)
      pick (of_second i s j h) =
          q t i l (full_more D (λ X Y. G X Y && H X Y) H (parent_tile t) low (λ X Y k. (and_parts (G X Y) (H X Y) k).1) f)
