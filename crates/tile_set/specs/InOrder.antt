-- The list of a set in the order of tiles: its members are the set's tiles of the map, and no other list in order has the same members.
use Rattle.std.specs.Prelude.{◌≡◌, refl, ◌⊎◌, Bool, true, false, cond, ℕ, zero, suc, ◌^◌, ◌<◌}
use Rattle.std.proofs.Common.{sym, ap, ap₂, ◌∙◌, subst, inl, inr, arith}
use Rattle.std.proofs.lemmas.Bool.{false≢true}
use mathlib.Core.List.Memᴰ
use mathlib.Core.List.{List, [], ◌∷◌, ◌++◌, Memᴰ}
use Rattle.std.proofs.Math.Decide.{dec_lt}
use Rattle.tile.specs.OnMap.{tile_at}
use Rattle.tile.specs.Order.{Before, by_z, by_x, by_y}
use Rattle.tile.specs.declared.Tile.{Tile}
use Rattle.tile_set.specs.Holds.{Valid}
use Rattle.tile_set.specs.Set.{collect, tiles_in_order}

pub before_irrefl : {t : Tile} → Before t t → ⊥
before_irrefl (by_z h) = omega arith
before_irrefl (by_x e h) = omega arith
before_irrefl (by_y e f h) = omega arith

pub before_trans : {a b c : Tile} → Before a b → Before b c → Before a c
before_trans (by_z h) (by_z k) = by_z (omega arith)
before_trans (by_z h) (by_x e k) = by_z (omega arith)
before_trans (by_z h) (by_y e f k) = by_z (omega arith)
before_trans (by_x e h) (by_z k) = by_z (omega arith)
before_trans (by_x e h) (by_x f k) = by_x (omega arith) (omega arith)
before_trans (by_x e h) (by_y f g k) = by_x (omega arith) (omega arith)
before_trans (by_y e f h) (by_z k) = by_z (omega arith)
before_trans (by_y e f h) (by_x g k) = by_x (omega arith) (omega arith)
before_trans (by_y e f h) (by_y g i k) = by_y (omega arith) (omega arith) (omega arith)

abbrev pub Ordered : List Tile → Type 0
Ordered [] = Unit {0}
Ordered (a ∷ l) = ((t : Tile) → Memᴰ t l → Before a t) × Ordered l

-- two ordered lists with the same members are one list
pub ordered_ext : (a b : List Tile) → Ordered a → Ordered b → ((t : Tile) → Memᴰ t a → Memᴰ t b)
    → ((t : Tile) → Memᴰ t b → Memᴰ t a) → a ≡ b
ordered_ext [] [] p q f g = refl
ordered_ext [] (y ∷ b) p q f g = absurd (Memᴰ.not-nil (g y (Memᴰ.head refl)))
ordered_ext (x ∷ a) [] p q f g = absurd (Memᴰ.not-nil (f x (Memᴰ.head refl)))
ordered_ext (x ∷ a) (y ∷ b) p q f g =
    ap₂ ◌∷◌ same (ordered_ext a b p.1 q.1
    (λ t m. rest b same (p.0 t m) (Memᴰ.cases_cons (f t (Memᴰ.tail m))))
    (λ t m. rest a (sym same) (q.0 t m) (Memᴰ.cases_cons (g t (Memᴰ.tail m)))))
  where
    heads : (x ≡ y) ⊎ Memᴰ x b → (y ≡ x) ⊎ Memᴰ y a → x ≡ y
    heads (inl e) n = e
    heads (inr m) (inl e) = sym e
    heads (inr m) (inr n) = absurd (before_irrefl (before_trans (p.0 y n) (q.0 x m)))

    same : x ≡ y
    same = heads (Memᴰ.cases_cons (f x (Memᴰ.head refl))) (Memᴰ.cases_cons (g y (Memᴰ.head refl)))

    rest : (l : List Tile) {s r t : Tile} → s ≡ r → Before s t → (t ≡ r) ⊎ Memᴰ t l → Memᴰ t l
    rest l {t = t} e h (inl k) = absurd (before_irrefl (subst (λ (u : Tile). Before u t) (e ∙ sym k) h))
    rest l e h (inr n) = n

ordered_append : (a b : List Tile) → Ordered a → Ordered b → ((s t : Tile) → Memᴰ s a → Memᴰ t b → Before s t) → Ordered (a ++ b)
ordered_append [] b p q f = q
ordered_append (x ∷ a) b p q f =
    (λ t m. pick t (Memᴰ.append_cases a m), ordered_append a b p.1 q (λ s t m n. f s t (Memᴰ.tail m) n))
  where
    pick : (t : Tile) → Memᴰ t a ⊎ Memᴰ t b → Before x t
    pick t (inl n) = p.0 t n
    pick t (inr n) = f x t (Memᴰ.head refl) n

-- members of a collected list
collect_in : {A : Type 0} {t : A} (n : ℕ) (f : ℕ → List A) (i : ℕ) → i < n → Memᴰ t (f i) → Memᴰ t (collect n f)
unfolding collect
collect_in zero f i h m = absurd (omega arith)
collect_in {t = t} (suc n) f i h m = pick (dec_lt i n) (λ k. collect_in n f i k m)
  where
    pick : Dec (i < n) → (i < n → Memᴰ t (collect n f)) → Memᴰ t (collect n f ++ f n)
    pick (yes k) g = Memᴰ.append_left (f n) (g k)
    pick (no k) g = let e : i ≡ n = omega arith in Memᴰ.append_right (collect n f) (rw e at m)

collect_of : {A : Type 0} {t : A} (n : ℕ) (f : ℕ → List A) → Memᴰ t (collect n f) → (i : ℕ) × (i < n) × Memᴰ t (f i)
unfolding collect
collect_of zero f m = absurd (Memᴰ.not-nil m)
collect_of {t = t} (suc n) f m = pick (Memᴰ.append_cases (collect n f) m) (collect_of n f)
  where
    pick : Memᴰ t (collect n f) ⊎ Memᴰ t (f n) → (Memᴰ t (collect n f) → (i : ℕ) × (i < n) × Memᴰ t (f i))
        → (i : ℕ) × (i < suc n) × Memᴰ t (f i)
    pick (inl k) g = let r = g k in (r.0, omega (arith, r.1), r.2)
    pick (inr k) g = (n, omega arith, k)

collect_ordered : (n : ℕ) (f : ℕ → List Tile) → ((i : ℕ) → Ordered (f i))
    → ((i j : ℕ) (s t : Tile) → i < j → Memᴰ s (f i) → Memᴰ t (f j) → Before s t) → Ordered (collect n f)
unfolding collect
collect_ordered zero f p q = tt
collect_ordered (suc n) f p q =
    ordered_append (collect n f) (f n) (collect_ordered n f p q) (p n)
    (λ s t m k. let r = collect_of n f m in q r.0 n s t r.1 r.2 k)

module _ (S : Tile → Bool) where
  abbrev spot : ℕ → ℕ → ℕ → List Tile
  spot z x y = cond (S (tile_at x y z)) (tile_at x y z ∷ []) []

  abbrev column : ℕ → ℕ → List Tile
  column z x = collect (2 ^ z) (spot z x)

  abbrev level : ℕ → List Tile
  level z = collect (2 ^ z) (column z)

  spot_of : (z x y : ℕ) {t : Tile} → Memᴰ t (spot z x y) → (t ≡ tile_at x y z) × (S t ≡ true)
  spot_of z x y {t} m = go (S (tile_at x y z)) refl m
    where
      go : (k : Bool) → S (tile_at x y z) ≡ k → Memᴰ t (cond k (tile_at x y z ∷ []) []) → (t ≡ tile_at x y z) × (S t ≡ true)
      go true e m = let s : t ≡ tile_at x y z = Memᴰ.eq_of_singleton m in (s, ap S s ∙ e)
      go false e m = absurd (Memᴰ.not-nil m)

  spot_in : (t : Tile) → S t ≡ true → Memᴰ t (spot t.z t.x t.y)
  spot_in t h = go (S t) h
    where
      go : (k : Bool) → k ≡ true → Memᴰ t (cond k (t ∷ []) [])
      go true e = Memᴰ.head refl
      go false e = absurd (false≢true e)

  column_of_lem : (z x : ℕ) {t : Tile} → Memᴰ t (column z x) → (t.z ≡ z) × (t.x ≡ x) × (t.y < 2 ^ z) × (S t ≡ true)
  column_of_lem z x {t} m =
      let c = collect_of (2 ^ z) (spot z x) m in
      let e = spot_of z x c.0 c.2 in
      let y : t.y ≡ c.0 = ap (λ (u : Tile). u.y) e.0 in
      (ap (λ (u : Tile). u.z) e.0, ap (λ (u : Tile). u.x) e.0, omega (arith, c.1), e.1)

  level_of : (z : ℕ) {t : Tile} → Memᴰ t (level z) → (t.z ≡ z) × (t.x < 2 ^ z) × (t.y < 2 ^ z) × (S t ≡ true)
  level_of z m =
      let b = collect_of (2 ^ z) (column z) m in
      let e = column_of_lem z b.0 b.2 in
      (e.0, omega (arith, b.1, e.1), e.2, e.3)

  spot_ordered : (z x y : ℕ) → Ordered (spot z x y)
  spot_ordered z x y = go (S (tile_at x y z))
    where
      go : (k : Bool) → Ordered (cond k (tile_at x y z ∷ []) [])
      go true = (λ t m. absurd (Memᴰ.not-nil m), tt)
      go false = tt

  column_ordered : (z x : ℕ) → Ordered (column z x)
  column_ordered z x = collect_ordered (2 ^ z) (spot z x) (spot_ordered z x) less
    where
      less : (i j : ℕ) (s t : Tile) → i < j → Memᴰ s (spot z x i) → Memᴰ t (spot z x j) → Before s t
      less i j s t l m n = rw ((spot_of z x i m).0, (spot_of z x j n).0) (by_y refl refl l)

  level_ordered : (z : ℕ) → Ordered (level z)
  level_ordered z = collect_ordered (2 ^ z) (column z) (column_ordered z) less
    where
      less : (i j : ℕ) (s t : Tile) → i < j → Memᴰ s (column z i) → Memᴰ t (column z j) → Before s t
      less i j s t l m n =
          let p = column_of_lem z i m in
          let q = column_of_lem z j n in
          by_x (omega (arith, p.0, q.0)) (omega (arith, p.1, q.1))

module _ (D : ℕ) (S : Tile → Bool) where
  -- the members of the list are the tiles of the map that stand in the set
  pub in_order_of : {t : Tile} → Memᴰ t (tiles_in_order D S) → Valid D t × (S t ≡ true)
  unfolding tiles_in_order
  in_order_of m =
      let a = collect_of (suc D) (level S) m in
      let e = level_of S a.0 a.2 in
      (record { zoom = omega (arith, a.1, e.0); column = rw e.0 e.1; row = rw e.0 e.2 }, e.3)

  pub in_order_in : {t : Tile} → Valid D t → S t ≡ true → Memᴰ t (tiles_in_order D S)
  unfolding tiles_in_order
  in_order_in {t} v h =
      collect_in (suc D) (level S) t.z (omega arith)
      (collect_in (2 ^ t.z) (column S t.z) t.x v.column
      (collect_in (2 ^ t.z) (spot S t.z t.x) t.y v.row (spot_in S t h)))

  pub in_order_ordered : Ordered (tiles_in_order D S)
  unfolding tiles_in_order
  in_order_ordered = collect_ordered (suc D) (level S) (level_ordered S) less
    where
      less : (i j : ℕ) (s t : Tile) → i < j → Memᴰ s (level S i) → Memᴰ t (level S j) → Before s t
      less i j s t l m n = by_z (omega (arith, (level_of S i m).0, (level_of S j n).0))

  pub in_order_is : (l : List Tile) → Ordered l → ((t : Tile) → Memᴰ t l → Valid D t × (S t ≡ true))
      → ((t : Tile) → Valid D t → S t ≡ true → Memᴰ t l) → l ≡ tiles_in_order D S
  in_order_is l o f g =
      ordered_ext l (tiles_in_order D S) o in_order_ordered
      (λ t m. let r = f t m in in_order_in r.0 r.1)
      (λ t m. let r = in_order_of m in g t r.0 r.1)

-- the list sees of a set only the tiles of the map
pub in_order_same : (D : ℕ) (R S : Tile → Bool) → ((t : Tile) → Valid D t → R t ≡ S t) → tiles_in_order D R ≡ tiles_in_order D S
in_order_same D R S e =
    in_order_is D S (tiles_in_order D R) (in_order_ordered D R)
    (λ t m. let r = in_order_of D R m in (r.0, sym (e t r.0) ∙ r.1))
    (λ t v h. in_order_in D R v (e t v ∙ h))
