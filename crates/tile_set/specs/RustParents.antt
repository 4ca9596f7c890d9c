-- That the Rust's `parent` and `iter_parents` give the ancestors of a tile.
use Rattle.std.specs.Prelude.{◌≡◌, refl, Bool, ◌||◌, List, [], ◌∷◌, ℕ, zero, suc, ◌-◌, ◌≤◌, ◌<◌, Some}
use Rattle.std.proofs.Common.{ap, ◌∙◌, arith, ne_eqb}
use Rattle.tile.specs.declared.Tile.{Tile}
use Rattle.tile_set.specs.Holds.{holds_refl, holds_trans, ancestor_holds, holder_is_ancestor, parent_holds}
use Rattle.tile_set.specs.Rust.{parent, parents_from, iter_parents, contains_any}
use Rattle.tile_set.specs.Set.{any_below, ancestor, parent_tile}

-- the ancestors of zoom n - 1 up to the root
unfoldable pub ancestors_from : Tile → ℕ → List Tile
ancestors_from t zero = []
ancestors_from t (suc s) = ancestor t s ∷ ancestors_from t s

one_up : (t : Tile) (s : ℕ) → suc s ≤ t.z → parent_tile (ancestor t (suc s)) ≡ ancestor t s
one_up t s h =
    let e : suc s - 1 ≡ s = omega arith in
    holder_is_ancestor (holds_trans (parent_holds (ancestor t (suc s)) (omega arith)) (ancestor_holds t (suc s) h)) ∙ ap (ancestor t) e

itself : (t : Tile) → t ≡ ancestor t t.z
itself t = holder_is_ancestor (holds_refl t)

pub has_parent : (t : Tile) → 0 < t.z → parent t 0 ≡ Some (parent_tile t)
unfolding parent
has_parent t h = rw (ne_eqb t.z 0 (λ z. omega arith))

steps_up : (t : Tile) (i s : ℕ) → s ≤ t.z → i < s → parent (ancestor t s) i ≡ Some (ancestor t (s - 1 - i))
unfolding parent
steps_up t i zero h l = absurd (omega arith)
steps_up t zero (suc s) h l =
    let e : s ≡ suc s - 1 - 0 = omega arith in
    has_parent (ancestor t (suc s)) (omega arith) ∙ ap Some (one_up t s h ∙ ap (ancestor t) e)
steps_up t (suc i) (suc s) h l =
    let e : s - 1 - i ≡ suc s - 1 - suc i = omega arith in
    rw (ne_eqb (suc s) 0 (λ z. omega arith), one_up t s h)
    (steps_up t i s (omega arith) (omega arith) ∙ ap (λ (n : ℕ). Some (ancestor t n)) e)

-- `parent` of i extra steps, fewer than the tile's zoom, is the ancestor of zoom z - 1 - i
pub parent_is : (t : Tile) (i : ℕ) → i < t.z → parent t i ≡ Some (ancestor t (t.z - 1 - i))
parent_is t i l = ap (λ (u : Tile). parent u i) (itself t) ∙ steps_up t i t.z (omega arith) l

above : (t : Tile) (n calls : ℕ) → suc n ≤ t.z
    → parents_from (suc calls) (parent (ancestor t (suc n)) 0) ≡ ancestor t n ∷ parents_from calls (parent (ancestor t n) 0)
unfolding parents_from
above t n calls h =
    ap (parents_from (suc calls)) (has_parent (ancestor t (suc n)) (omega arith))
    ∙ ap (λ (p : Tile). p ∷ parents_from calls (parent p 0)) (one_up t n h)

parents_from_lem : (t : Tile) (n calls : ℕ) → n ≤ t.z → n ≤ calls → parents_from calls (parent (ancestor t n) 0) ≡ ancestors_from t n
unfolding parent parents_from ancestors_from
parents_from_lem t zero zero h l = refl
parents_from_lem t zero (suc calls) h l = refl
parents_from_lem t (suc n) zero h l = absurd (omega arith)
parents_from_lem t (suc n) (suc calls) h l =
    above t n calls h ∙ ap (λ (ts : List Tile). ancestor t n ∷ ts) (parents_from_lem t n calls (omega arith) (omega arith))

-- `iter_parents` gives all of them, nearest first
pub parents_are : (t : Tile) → t.z ≤ 255 → iter_parents t ≡ ancestors_from t t.z
parents_are t h = ap (λ (u : Tile). parents_from 255 (parent u 0)) (itself t) ∙ parents_from_lem t t.z 255 (omega arith) h

pub any_ancestor : (S : Tile → Bool) (t : Tile) (n : ℕ) → contains_any S (ancestors_from t n) ≡ any_below n (λ s. S (ancestor t s))
unfolding contains_any ancestors_from any_below
any_ancestor S t zero = refl
any_ancestor S t (suc n) = ap (λ (b : Bool). S (ancestor t n) || b) (any_ancestor S t n)
