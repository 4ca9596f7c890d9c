-- What is in the lists of tiles beside a tile, and that it is there once.
use Rattle.std.specs.Prelude.{◌≡◌, refl, Bool, true, false, cond, not, ◌&&◌, ◌||◌, ◌⊎◌, ℕ, zero, suc, ◌+◌, ◌-◌, ◌*◌, ◌/◌, ◌%◌, ◌^◌, ◌≤◌, ◌<◌, leb, ltb, eqb}
use Rattle.std.proofs.Common.{sym, ap, ◌∙◌, inl, inr, mod-eq_of_lt, arith, lt-ltb, leb-true, ltb-true, eqb-true}
use mathlib.Core.List.Memᴰ
use mathlib.Core.List.{List, [], ◌∷◌, Memᴰ}
use mathlib.Core.List.Pairwise
use mathlib.Core.List.{Nodup}
use Rattle.std.proofs.Math.Nat.{add-mod_right, mod-add-mod}
use Rattle.std.proofs.lemmas.Bool.{eqb-false}
use Rattle.children.specs.Children.{gather}
use Rattle.children.specs.Members.{once_more, once_gather}
use Rattle.tile.specs.OnMap.{OnMap, tile_at}
use Rattle.tile.specs.Order.{tile_ext}
use Rattle.tile.specs.declared.Tile.{Tile}
use Rattle.neighbors.specs.Neighbors.{around, step_on_map, near, near_of, order_of}
use Rattle.bits.specs.Tests.{and_parts, all_of, all_in}
use Rattle.neighbors.specs.declared.Seam.{Seam}
use Rattle.neighbors.specs.declared.Seam.TheVariants.{Cut, Wrapped}
use Rattle.neighbors.specs.MapEdge.{near_on_map}
use Rattle.neighbors.specs.AsRust.{near_at}

holds : ℕ → List ℕ → Bool
holds s [] = false
holds s (a ∷ l) = eqb s a || holds s l

holds_mem : (s : ℕ) (l : List ℕ) → holds s l ≡ true → Memᴰ s l
unfolding holds
holds_mem s [] e = let z : ◌≡◌ {A = ℕ} 0 1 = cc in absurd (omega arith)
holds_mem s (a ∷ l) e = pick (eqb s a) refl e (holds_mem s l)
  where
    pick : (b : Bool) → eqb s a ≡ b → b || holds s l ≡ true → (holds s l ≡ true → Memᴰ s l) → Memᴰ s (a ∷ l)
    pick true p f below = Memᴰ.head (eqb-true s a p)
    pick false p f below = Memᴰ.tail (below f)

-- the squares that are gone through are those of the nine that are not the tile's own
abbrev not_middle : ℕ → Bool
not_middle s = ltb s 9 && not (eqb s 4)

never_middle : (seam : Seam) → all_of not_middle (order_of seam) ≡ true
unfolding all_of
never_middle Wrapped = refl
never_middle Cut = refl

not_true : (b : Bool) → not b ≡ true → b ≡ false
not_true true e = let z : ◌≡◌ {A = ℕ} 0 1 = cc in absurd (omega arith)
not_true false e = refl

pub around_square : (seam : Seam) {s : ℕ} → Memᴰ s (order_of seam) → (s < 9) × (s ≡ 4 → ⊥)
around_square seam {s} m =
    let p = and_parts (ltb s 9) (not (eqb s 4)) (all_in not_middle (order_of seam) (never_middle seam) m) in
    (ltb-true s 9 p.0, eqb-false s 4 (not_true (eqb s 4) p.1))

pub square_around : (s : ℕ) → s < 9 → (s ≡ 4 → ⊥) → Memᴰ s around
unfolding holds
square_around s h k = holds_mem s around (found_at s h k)
  where
    found_at : (n : ℕ) → n < 9 → (n ≡ 4 → ⊥) → holds n around ≡ true
    found_at zero h k = refl
    found_at (suc zero) h k = refl
    found_at (suc (suc zero)) h k = refl
    found_at (suc (suc (suc zero))) h k = refl
    found_at (suc (suc (suc (suc zero)))) h k = absurd (k refl)
    found_at (suc (suc (suc (suc (suc zero))))) h k = refl
    found_at (suc (suc (suc (suc (suc (suc zero)))))) h k = refl
    found_at (suc (suc (suc (suc (suc (suc (suc zero))))))) h k = refl
    found_at (suc (suc (suc (suc (suc (suc (suc (suc zero)))))))) h k = refl
    found_at (suc (suc (suc (suc (suc (suc (suc (suc (suc n))))))))) h k = absurd (omega arith)

-- a tile at a square has passed the tests of that square
mem_test : (b : Bool) {t u : Tile} → Memᴰ t (cond b (u ∷ []) []) → (b ≡ true) × (t ≡ u)
mem_test true m = (refl, Memᴰ.eq_of_singleton m)
mem_test false m = absurd (Memᴰ.not-nil m)

pub record OnSquare (x y z s : ℕ) (t : Tile) : Type 0 where
  pub column : t.x + 1 ≡ x + s / 3
  pub row : t.y + 1 ≡ y + s % 3
  pub zoom : t.z ≡ z
  pub column_small : t.x < 2 ^ z
  pub row_small : t.y < 2 ^ z

pub near_on_square : (x y z s : ℕ) (t : Tile) → Memᴰ t (near x y z s) → OnSquare x y z s t
near_on_square x y z s t m =
    let k = mem_test (step_on_map (2 ^ z) x (s / 3) && step_on_map (2 ^ z) y (s % 3)) m in
    let p = and_parts (step_on_map (2 ^ z) x (s / 3)) (step_on_map (2 ^ z) y (s % 3)) k.0 in
    let c = and_parts (leb 1 (x + s / 3)) (leb (x + s / 3) (2 ^ z)) p.0 in
    let r = and_parts (leb 1 (y + s % 3)) (leb (y + s % 3) (2 ^ z)) p.1 in
    let c1 = leb-true 1 (x + s / 3) c.0 in
    let c2 = leb-true (x + s / 3) (2 ^ z) c.1 in
    let r1 = leb-true 1 (y + s % 3) r.0 in
    let r2 = leb-true (y + s % 3) (2 ^ z) r.1 in
    let a : t.x ≡ x + s / 3 - 1 = ap (λ (u : Tile). u.x) k.1 in
    let b : t.y ≡ y + s % 3 - 1 = ap (λ (u : Tile). u.y) k.1 in
    record {
      column = omega arith;
      row = omega arith;
      zoom = ap (λ (u : Tile). u.z) k.1;
      column_small = omega arith;
      row_small =
          omega arith;
    }

pub on_square_near : (x y z s : ℕ) (t : Tile) → OnSquare x y z s t → Memᴰ t (near x y z s)
on_square_near x y z s t p =
    let e : t ≡ tile_at t.x t.y z = tile_ext t (tile_at t.x t.y z) refl refl p.zoom in
    rw (near_at x y z s t.x t.y (sym p.column) (sym p.row), lt-ltb _ _ p.column_small, lt-ltb _ _ p.row_small)
    (Memᴰ.head e)

-- a tile at a square, on either kind of map, is the one tile of that square
near_one : (seam : Seam) (x y z s : ℕ) (t : Tile) → Memᴰ t (near_of seam x y z s)
    → (tile_at t.x t.y z ∷ [] ≡ near_of seam x y z s) × (t.z ≡ z)
near_one Wrapped x y z s t m =
    let k = mem_test (step_on_map (2 ^ z) y (s % 3)) m in
    (rw k.0 (ap (λ (u : Tile). tile_at u.x u.y z ∷ []) k.1), ap (λ (u : Tile). u.z) k.1)
near_one Cut x y z s t m =
    let k = mem_test (step_on_map (2 ^ z) x (s / 3) && step_on_map (2 ^ z) y (s % 3)) m in
    (rw k.0 (ap (λ (u : Tile). tile_at u.x u.y z ∷ []) k.1), ap (λ (u : Tile). u.z) k.1)

pub mem_on_map : (seam : Seam) (x y z s : ℕ) (t : Tile) → OnMap x y z → Memᴰ t (near_of seam x y z s) → OnMap t.x t.y t.z
mem_on_map seam x y z s t m k = let e = near_one seam x y z s t k in rw e.1 (near_on_map seam x y z s t.x t.y m e.0)

-- the square of a tile
abbrev square_of : Seam → ℕ → ℕ → ℕ → Tile → ℕ
square_of Wrapped x y side t = 3 * ((t.x + (1 + (side - x))) % side) + (t.y + 1 - y)
square_of Cut x y side t = 3 * (t.x + 1 - x) + (t.y + 1 - y)

wrapped_back : (x c side : ℕ) → x < side → c < side → ((x + c + side - 1) % side + (1 + (side - x))) % side ≡ c
wrapped_back x c side h k =
    let e : x + c + side - 1 + (1 + (side - x)) ≡ c + side + side = omega arith in
    rw (mod-add-mod (x + c + side - 1) side (1 + (side - x)), e, add-mod_right (c + side) side, add-mod_right c side, mod-eq_of_lt k)

pub square_back : (seam : Seam) (x y z s : ℕ) (t : Tile) → x < 2 ^ z → 4 ≤ 2 ^ z → s < 9 → Memᴰ t (near_of seam x y z s)
    → square_of seam x y (2 ^ z) t ≡ s
square_back Wrapped x y z s t h f n m =
    let k = mem_test (step_on_map (2 ^ z) y (s % 3)) m in
    let r = and_parts (leb 1 (y + s % 3)) (leb (y + s % 3) (2 ^ z)) k.0 in
    let l = leb-true 1 (y + s % 3) r.0 in
    let a : t.x ≡ (x + s / 3 + 2 ^ z - 1) % 2 ^ z = ap (λ (u : Tile). u.x) k.1 in
    let b : t.y ≡ y + s % 3 - 1 = ap (λ (u : Tile). u.y) k.1 in
    let c : s / 3 < 2 ^ z = omega arith in
    rw (a, wrapped_back x (s / 3) (2 ^ z) h c) (omega arith)
square_back Cut x y z s t h f n m = let p = near_on_square x y z s t m in omega (arith, p.column, p.row)

pub square_self : (seam : Seam) (x y z : ℕ) → x < 2 ^ z → 4 ≤ 2 ^ z → square_of seam x y (2 ^ z) (tile_at x y z) ≡ 4
square_self Wrapped x y z h f =
    let e : x + (1 + (2 ^ z - x)) ≡ 1 + 2 ^ z = omega arith in
    let l : 1 < 2 ^ z = omega arith in
    rw (e, add-mod_right 1 (2 ^ z), mod-eq_of_lt l) (omega arith)
square_self Cut x y z h f = omega arith

mem_holds : {s : ℕ} (l : List ℕ) → Memᴰ s l → holds s l ≡ true
unfolding holds
mem_holds [] m = absurd (Memᴰ.not-nil m)
mem_holds {s} (a ∷ l) m = pick (Memᴰ.cases_cons m) (mem_holds l) (eqb s a) refl
  where
    pick : (s ≡ a) ⊎ Memᴰ s l → (Memᴰ s l → holds s l ≡ true) → (b : Bool) → eqb s a ≡ b → b || holds s l ≡ true
    pick c below true e = refl
    pick (inl f) below false e = absurd (eqb-false s a e f)
    pick (inr k) below false e = below k

distinct : List ℕ → Bool
distinct [] = true
distinct (a ∷ l) = not (holds a l) && distinct l

distinct_once : (l : List ℕ) → distinct l ≡ true → Nodup l
unfolding distinct
distinct_once [] e = Pairwise.nil
distinct_once (a ∷ l) e = let p = and_parts (not (holds a l)) (distinct l) e in
    once_more (λ m. clash (holds a l) (mem_holds l m) p.0) (distinct_once l p.1)
  where
    clash : (b : Bool) → b ≡ true → not b ≡ true → ⊥
    clash true e f = let z : ◌≡◌ {A = ℕ} 0 1 = cc in omega arith
    clash false e f = let z : ◌≡◌ {A = ℕ} 0 1 = cc in omega arith

order_once : (seam : Seam) → Nodup (order_of seam)
unfolding distinct holds
order_once Wrapped = distinct_once (order_of Wrapped) refl
order_once Cut = distinct_once (order_of Cut) refl

one_at_most : (b : Bool) (t : Tile) → Nodup (cond b (t ∷ []) [])
one_at_most true t = once_more Memᴰ.not-nil Pairwise.nil
one_at_most false t = Pairwise.nil

near_once : (seam : Seam) (x y z s : ℕ) → Nodup (near_of seam x y z s)
near_once Wrapped x y z s = one_at_most (step_on_map (2 ^ z) y (s % 3)) (tile_at ((x + s / 3 + 2 ^ z - 1) % 2 ^ z) (y + s % 3 - 1) z)
near_once Cut x y z s = one_at_most (step_on_map (2 ^ z) x (s / 3) && step_on_map (2 ^ z) y (s % 3)) (tile_at (x + s / 3 - 1) (y + s % 3 - 1) z)

-- a tile tells the square that it is from, so no two squares have it
pub around_once : (seam : Seam) (x y z : ℕ) → x < 2 ^ z → 4 ≤ 2 ^ z → Nodup (gather (near_of seam x y z) (order_of seam))
around_once seam x y z h f =
    once_gather (near_of seam x y z) (order_of seam) (order_once seam) (near_once seam x y z)
    (λ t q r k m i j. sym (square t q k i) ∙ square t r m j)
  where
    square : (t : Tile) (s : ℕ) → Memᴰ s (order_of seam) → Memᴰ t (near_of seam x y z s) → square_of seam x y (2 ^ z) t ≡ s
    square t s k m = square_back seam x y z s t h f (around_square seam k).0 m
