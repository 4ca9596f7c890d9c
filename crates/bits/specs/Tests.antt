-- Tests that are joined, two of them or one for each entry of a list: what holds of each.
use Rattle.std.specs.Prelude.{◌≡◌, refl, Bool, true, false, not, ◌&&◌, ◌||◌, ◌⊎◌, ℕ, zero, suc, ◌+◌, ◌≤◌, ◌<◌, length, drop, get_or}
use Rattle.std.proofs.Common.{sym, ap, inl, inr, add-one, arith, drop_of_length-le, drop-cons}
use Rattle.std.proofs.Math.Bool.{or_assoc}
use mathlib.Core.List.Memᴰ
use mathlib.Core.List.{List, [], ◌∷◌, ◌++◌, map, Memᴰ}

pub and_parts : (a b : Bool) → a && b ≡ true → (a ≡ true) × (b ≡ true)
and_parts true b e = (refl, e)
and_parts false b e = let z : ◌≡◌ {A = ℕ} 0 1 = cc in absurd (omega arith)

pub not_true : (b : Bool) → not b ≡ true → b ≡ false
not_true true e = let z : ◌≡◌ {A = ℕ} 0 1 = cc in absurd (omega arith)
not_true false e = refl

pub not_false : (b : Bool) → not b ≡ false → b ≡ true
not_false true e = refl
not_false false e = let z : ◌≡◌ {A = ℕ} 0 1 = cc in absurd (omega arith)

unfoldable pub all_of : (ℕ → Bool) → List ℕ → Bool
all_of p [] = true
all_of p (n ∷ ns) = p n && all_of p ns

pub all_at : (p : ℕ → Bool) (l : List ℕ) (i : ℕ) → all_of p l ≡ true → i < length l → p (get_or l i 0) ≡ true
unfolding all_of
all_at p [] i e h = absurd (omega arith)
all_at p (n ∷ ns) zero e h = (and_parts (p n) (all_of p ns) e).0
all_at p (n ∷ ns) (suc i) e h = all_at p ns i (and_parts (p n) (all_of p ns) e).1 (omega arith)

pub all_in : (p : ℕ → Bool) (l : List ℕ) {n : ℕ} → all_of p l ≡ true → Memᴰ n l → p n ≡ true
unfolding all_of
all_in p [] e m = absurd (Memᴰ.not-nil m)
all_in p (a ∷ l) {n} e m = let k = and_parts (p a) (all_of p l) e in pick (Memᴰ.cases_cons m) k.0 (all_in p l k.1)
  where
    pick : (n ≡ a) ⊎ Memᴰ n l → p a ≡ true → (Memᴰ n l → p n ≡ true) → p n ≡ true
    pick (inl f) h below = rw f h
    pick (inr i) h below = below i

pub in_all : (p : ℕ → Bool) (l : List ℕ) → ((n : ℕ) → Memᴰ n l → p n ≡ true) → all_of p l ≡ true
unfolding all_of
in_all p [] each = refl
in_all p (a ∷ l) each = rw (each a (Memᴰ.head refl), in_all p l (λ n m. each n (Memᴰ.tail m)))

-- whether all entries from place i on are so, one entry on
pub all_here : (p : ℕ → Bool) (l : List ℕ) (i : ℕ) → i < length l → p (get_or l i 0) ≡ true → all_of p (drop i l) ≡ all_of p (drop (i + 1) l)
unfolding all_of
all_here p l i h e = rw (add-one i, drop-cons l i 0 h, e)

pub all_bad : (p : ℕ → Bool) (l : List ℕ) (i : ℕ) → i < length l → p (get_or l i 0) ≡ false → all_of p (drop i l) ≡ false
unfolding all_of
all_bad p l i h e = rw (drop-cons l i 0 h, e)

pub all_past : (p : ℕ → Bool) (l : List ℕ) (i : ℕ) → length l ≤ i → all_of p (drop i l) ≡ true
unfolding all_of
all_past p l i h = rw (drop_of_length-le l h)

-- what stands at a place of a list is in it
pub get_d_in : {A : Type 0} (l : List A) (i : ℕ) (d : A) → i < length l → Memᴰ (get_or l i d) l
get_d_in [] i d h = absurd (omega arith)
get_d_in (a ∷ l) zero d h = Memᴰ.head refl
get_d_in (a ∷ l) (suc i) d h = Memᴰ.tail (get_d_in l i d (omega arith))

-- and what is in it stands at a place
pub in_get_d : {A : Type 0} (l : List A) (d : A) {a : A} → Memᴰ a l → (i : ℕ) × (i < length l) × (get_or l i d ≡ a)
in_get_d [] d m = absurd (Memᴰ.not-nil m)
in_get_d (b ∷ l) d {a} m = pick (Memᴰ.cases_cons m) (λ k. in_get_d l d k)
  where
    pick : (a ≡ b) ⊎ Memᴰ a l → (Memᴰ a l → (i : ℕ) × (i < length l) × (get_or l i d ≡ a))
        → (i : ℕ) × (i < length (b ∷ l)) × (get_or (b ∷ l) i d ≡ a)
    pick (inl e) below = (0, omega arith, sym e)
    pick (inr k) below = let s = below k in (suc s.0, omega (arith, s.1), s.2)

unfoldable pub any_of : {A : Type 0} → (A → Bool) → List A → Bool
any_of p [] = false
any_of p (a ∷ l) = p a || any_of p l

pub in_any : {A : Type 0} (p : A → Bool) (l : List A) {a : A} → Memᴰ a l → p a ≡ true → any_of p l ≡ true
unfolding any_of
in_any p [] m e = absurd (Memᴰ.not-nil m)
in_any {A} p (b ∷ l) {a} m e = pick (Memᴰ.cases_cons m) (p b) refl (λ k. in_any p l k e)
  where
    pick : (a ≡ b) ⊎ Memᴰ a l → (c : Bool) → p b ≡ c → (Memᴰ a l → any_of p l ≡ true) → c || any_of p l ≡ true
    pick i true f below = refl
    pick (inl g) false f below = let z : ◌≡◌ {A = ℕ} 0 1 = cc in absurd (omega arith)
    pick (inr k) false f below = below k

pub any_in : {A : Type 0} (p : A → Bool) (l : List A) → any_of p l ≡ true → (a : A) × Memᴰ a l × (p a ≡ true)
unfolding any_of
any_in p [] e = let z : ◌≡◌ {A = ℕ} 0 1 = cc in absurd (omega arith)
any_in {A} p (b ∷ l) e = pick (p b) refl e (any_in p l)
  where
    pick : (c : Bool) → p b ≡ c → c || any_of p l ≡ true → (any_of p l ≡ true → (a : A) × Memᴰ a l × (p a ≡ true))
        → (a : A) × Memᴰ a (b ∷ l) × (p a ≡ true)
    pick true f g below = (b, Memᴰ.head refl, f)
    pick false f g below = let s = below g in (s.0, Memᴰ.tail s.1, s.2)

pub any_append : {A : Type 0} (p : A → Bool) (a b : List A) → any_of p (a ++ b) ≡ any_of p a || any_of p b
unfolding any_of
any_append p [] b = refl
any_append p (x ∷ a) b = rw (any_append p a b) (sym (or_assoc (p x) (any_of p a) (any_of p b)))

-- what is in a list whose entries are mapped
pub in_map : {A B : Type 0} (f : A → B) {b : B} (l : List A) → Memᴰ b (map f l) → (a : A) × Memᴰ a l × (b ≡ f a)
in_map f [] m = absurd (Memᴰ.not-nil m)
in_map {A} f {b} (t ∷ l) m = pick (Memᴰ.cases_cons m) (in_map f l)
  where
    pick : (b ≡ f t) ⊎ Memᴰ b (map f l) → (Memᴰ b (map f l) → (a : A) × Memᴰ a l × (b ≡ f a))
        → (a : A) × Memᴰ a (t ∷ l) × (b ≡ f a)
    pick (inl e) g = (t, Memᴰ.head refl, e)
    pick (inr k) g = let s = g k in (s.0, Memᴰ.tail s.1, s.2)

pub into_map : {A B : Type 0} (f : A → B) {a : A} (l : List A) → Memᴰ a l → Memᴰ (f a) (map f l)
into_map f [] m = absurd (Memᴰ.not-nil m)
into_map f {a} (b ∷ l) m = pick (Memᴰ.cases_cons m) (into_map f l)
  where
    pick : (a ≡ b) ⊎ Memᴰ a l → (Memᴰ a l → Memᴰ (f a) (map f l)) → Memᴰ (f a) (map f (b ∷ l))
    pick (inl e) g = Memᴰ.head (ap f e)
    pick (inr k) g = Memᴰ.tail (g k)
