-- The squares around a tile, one after the other: which tiles are found among the first of them, and that there are eight at most.
use Rattle.std.specs.Prelude.{Option, ◌≡◌, refl, Bool, true, false, cond, ◌&&◌, List, [], ◌∷◌, ◌++◌, ℕ, zero, suc, ◌+◌, ◌-◌, ◌/◌, ◌%◌, ◌^◌, ◌≤◌, ◌<◌, ltb, length, take, drop, get_or}
use Rattle.std.proofs.Common.{sym, ap, ◌∙◌, append-nil, add-one, arith, length-append, take-append-drop, take-suc, ltb-true}
use Rattle.std.proofs.Math.Seq.{take-length}
use Rattle.bits.specs.Tests.{all_of, all_at}
use Rattle.children.specs.Children.{gather}
use Rattle.children.specs.Gathered.{gather_append}
use Rattle.tile.specs.OnMap.{tile_at}
use Rattle.tile.specs.declared.Tile.{Tile}
use Rattle.neighbors.specs.Neighbors.{neighbors_of, step_on_map, near_of, order_of, spot_tiles}
use Rattle.neighbors.specs.declared.Seam.{Seam}
use Rattle.neighbors.specs.declared.Seam.TheVariants.{Cut, Wrapped}

pub eight : (seam : Seam) → length (order_of seam) ≡ 8
eight Wrapped = refl
eight Cut = refl

-- a square that is gone through is one of the nine
pub one_of_nine : (seam : Seam) (k : ℕ) → k < 8 → get_or (order_of seam) k 0 < 9
unfolding all_of
one_of_nine Wrapped k h = ltb-true _ 9 (all_at (λ s. ltb s 9) (order_of Wrapped) k refl h)
one_of_nine Cut k h = ltb-true _ 9 (all_at (λ s. ltb s 9) (order_of Cut) k refl h)

-- the tiles found among the first k squares
abbrev pub found : Seam → ℕ → ℕ → ℕ → ℕ → List Tile
found seam x y z k = gather (near_of seam x y z) (take k (order_of seam))

pub found_more : (seam : Seam) (x y z k : ℕ) → k < 8
    → found seam x y z (k + 1) ≡ found seam x y z k ++ near_of seam x y z (get_or (order_of seam) k 0)
unfolding gather
found_more seam x y z k h =
    rw (
      add-one k,
      take-suc (order_of seam) k 0 (rw (eight seam) h),
      gather_append (near_of seam x y z) (take k (order_of seam)) (get_or (order_of seam) k 0 ∷ []),
      append-nil,
    )

pub found_all : (seam : Seam) (x y z : ℕ) → found seam x y z 8 ≡ gather (near_of seam x y z) (order_of seam)
found_all seam x y z = ap (λ (n : ℕ). found seam x y z n) (sym (eight seam)) ∙ ap (gather (near_of seam x y z)) (take-length (order_of seam))

-- no more are found among the first squares than among all
pub found_within : (seam : Seam) (x y z k : ℕ) → length (found seam x y z k) ≤ length (gather (near_of seam x y z) (order_of seam))
found_within seam x y z k =
    let f = near_of seam x y z in
    let e = ap (λ (l : List Tile). length l)
    (sym (gather_append f (take k (order_of seam)) (drop k (order_of seam))) ∙ ap (gather f) (take-append-drop k (order_of seam))) in
    omega (arith, e, length-append (gather f (take k (order_of seam))) (gather f (drop k (order_of seam))))

pub count_more : (seam : Seam) (x y z k n : ℕ) (spot : Option Tile) → k < 8 → n ≡ length (found seam x y z k)
    → spot_tiles spot ≡ near_of seam x y z (get_or (order_of seam) k 0)
    → n + length (spot_tiles spot) ≡ length (found seam x y z (k + 1))
count_more seam x y z k n spot h e f = rw (found_more seam x y z k h, length-append, ← f, e)

-- a square has one tile at most, so k squares have k
near_most : (seam : Seam) (x y z s : ℕ) → length (near_of seam x y z s) ≤ 1
near_most Wrapped x y z s = pick (step_on_map (2 ^ z) y (s % 3))
  where
    pick : (b : Bool) → length (cond b (tile_at ((x + s / 3 + 2 ^ z - 1) % 2 ^ z) (y + s % 3 - 1) z ∷ []) []) ≤ 1
    pick true = omega arith
    pick false = omega arith
near_most Cut x y z s = pick (step_on_map (2 ^ z) x (s / 3) && step_on_map (2 ^ z) y (s % 3))
  where
    pick : (b : Bool) → length (cond b (tile_at (x + s / 3 - 1) (y + s % 3 - 1) z ∷ []) []) ≤ 1
    pick true = omega arith
    pick false = omega arith

most_gathered : (seam : Seam) (x y z : ℕ) (l : List ℕ) → length (gather (near_of seam x y z) l) ≤ length l
unfolding gather
most_gathered seam x y z [] = omega arith
most_gathered seam x y z (s ∷ l) =
    omega (arith, length-append (near_of seam x y z s) (gather (near_of seam x y z) l), near_most seam x y z s, most_gathered seam x y z l)

pub found_most : (seam : Seam) (x y z : ℕ) → length (gather (near_of seam x y z) (order_of seam)) ≤ 8
found_most seam x y z = omega (arith, most_gathered seam x y z (order_of seam), eight seam)

pub neighbors_deep : (seam : Seam) (x y z : ℕ) → (z ≡ 0 → ⊥) → (z ≡ 1 → ⊥)
    → neighbors_of seam x y z ≡ gather (near_of seam x y z) (order_of seam)
neighbors_deep seam x y zero p q = absurd (p refl)
neighbors_deep seam x y (suc zero) p q = absurd (q refl)
neighbors_deep seam x y (suc (suc z)) p q = refl
