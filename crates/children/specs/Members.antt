-- What is in a list that is gathered, and how often.
use Rattle.std.specs.Prelude.{◌≡◌, refl, ◌⊎◌, ℕ, zero, suc, ◌+◌, ◌*◌, ◌<◌, length, take, drop, get_or}
use Rattle.std.proofs.Common.{sym, ap, inl, inr, arith, take_at}
use Rattle.std.proofs.Math.Logic.{∥∥₁_elim}
use mathlib.Core.HLevel.{⊥_prop}
use mathlib.Core.List.{List, [], ◌∷◌, ◌++◌, map, append_assoc, flat_map}
use mathlib.Core.List.Memᴰ
use mathlib.Core.List.{Memᴰ}
use mathlib.Core.List.Pairwise
use mathlib.Core.List.{Mem, Nodup, Nodup-cons, Nodup-append}
use Rattle.std.proofs.Math.Seq.{drop-append-add}
use Rattle.bits.specs.Tests.{get_d_in, in_map}
use Rattle.children.specs.Children.{gather}

-- membership in lists that are gathered
pub in_gather : {A : Type 0} {a : A} (f : ℕ → List A) (qs : List ℕ) → Memᴰ a (gather f qs)
    → (q : ℕ) × Memᴰ q qs × Memᴰ a (f q)
unfolding gather
in_gather f [] m = absurd (Memᴰ.not-nil m)
in_gather {a = a} f (q ∷ qs) m = pick (Memᴰ.append_cases (f q) m) (in_gather f qs)
  where
    pick : Memᴰ a (f q) ⊎ Memᴰ a (gather f qs) → (Memᴰ a (gather f qs) → (r : ℕ) × Memᴰ r qs × Memᴰ a (f r))
        → (r : ℕ) × Memᴰ r (q ∷ qs) × Memᴰ a (f r)
    pick (inl k) g = (q, Memᴰ.head refl, k)
    pick (inr k) g = let s = g k in (s.0, Memᴰ.tail s.1, s.2)

pub into_gather : {A : Type 0} {a : A} (f : ℕ → List A) (q : ℕ) (qs : List ℕ) → Memᴰ q qs → Memᴰ a (f q)
    → Memᴰ a (gather f qs)
unfolding gather
into_gather f q [] m k = absurd (Memᴰ.not-nil m)
into_gather {a = a} f q (r ∷ qs) m k = pick (Memᴰ.cases_cons m) (λ i. into_gather f q qs i k)
  where
    pick : (q ≡ r) ⊎ Memᴰ q qs → (Memᴰ q qs → Memᴰ a (gather f qs)) → Memᴰ a (f r ++ gather f qs)
    pick (inl e) g = Memᴰ.append_left (gather f qs) (rw e at k)
    pick (inr i) g = Memᴰ.append_right (f r) (g i)

-- a list in which nothing is twice, one entry longer and one shorter
pub once_more : {A : Type 0} {a : A} {l : List A} → (Memᴰ a l → ⊥) → Nodup l → Nodup (a ∷ l)
once_more n o = Nodup-cons.1 (λ m. ∥∥₁_elim m ⊥_prop n, o)

once_rest : {A : Type 0} {a : A} {l : List A} → Nodup (a ∷ l) → (Memᴰ a l → ⊥) × Nodup l
once_rest o = (λ m. (Nodup-cons.0 o).0 ∣ m ∣₁, (Nodup-cons.0 o).1)

pub once_gather : {A : Type 0} (f : ℕ → List A) (qs : List ℕ) → Nodup qs → ((q : ℕ) → Nodup (f q))
    → ((t : A) (q r : ℕ) → Memᴰ q qs → Memᴰ r qs → Memᴰ t (f q) → Memᴰ t (f r) → q ≡ r) → Nodup (gather f qs)
unfolding gather
once_gather f [] o each apart = Pairwise.nil
once_gather {A} f (q ∷ qs) o each apart =
    Nodup-append.1 (each q, once_gather f qs (once_rest o).1 each (λ t a b k m. apart t a b (Memᴰ.tail k) (Memᴰ.tail m)), two)
  where
    two : (t : A) → Mem t (f q) → Mem t (gather f qs) → ⊥
    two t a b =
        ∥∥₁_elim a ⊥_prop (λ (i : Memᴰ t (f q)). ∥∥₁_elim b ⊥_prop (λ (j : Memᴰ t (gather f qs)).
        let s = in_gather f qs j in
        (once_rest o).0 (Memᴰ.cast (apart t q s.0 (Memᴰ.head refl) (Memᴰ.tail s.1) i s.2) s.1)))

-- the same entry at two places: it is one place
pub once_at : {A : Type 0} (l : List A) → Nodup l → (i j : ℕ) (d : A) → i < length l → j < length l → get_or l i d ≡ get_or l j d → i ≡ j
once_at [] o i j d h k e = absurd (omega arith)
once_at (a ∷ l) o zero zero d h k e = refl
once_at (a ∷ l) o zero (suc j) d h k e = absurd ((once_rest o).0 (Memᴰ.cast e (get_d_in l j d (omega arith))))
once_at (a ∷ l) o (suc i) zero d h k e = absurd ((once_rest o).0 (Memᴰ.cast (sym e) (get_d_in l i d (omega arith))))
once_at (a ∷ l) o (suc i) (suc j) d h k e = ap suc (once_at l (once_rest o).1 i j d (omega arith) (omega arith) e)

-- what tells the members of a list apart leaves each of them once
pub once_map : {A B : Type 0} (f : A → B) (l : List A) → Nodup l → ((a b : A) → Memᴰ a l → Memᴰ b l → f a ≡ f b → a ≡ b)
    → Nodup (map f l)
once_map f [] o apart = Pairwise.nil
once_map f (a ∷ l) o apart =
    once_more (λ m. let s = in_map f l m in
    (once_rest o).0 (Memᴰ.cast (apart a s.0 (Memᴰ.head refl) (Memᴰ.tail s.1) s.2) s.1))
    (once_map f l (once_rest o).1 (λ b c k m. apart b c (Memᴰ.tail k) (Memᴰ.tail m)))

-- flattened, in one or in several lists
pub flat_append : {A B : Type 0} (f : A → List B) (a b : List A) → flat_map f (a ++ b) ≡ flat_map f a ++ flat_map f b
unfolding flat_map
flat_append f [] b = refl
flat_append f (t ∷ a) b = rw (flat_append f a b, append_assoc)

pub flat_gather : {A B : Type 0} (f : A → List B) (g : ℕ → List A) (qs : List ℕ)
    → flat_map f (gather g qs) ≡ gather (λ q. flat_map f (g q)) qs
unfolding flat_map gather
flat_gather f g [] = refl
flat_gather f g (q ∷ qs) = rw (flat_append f (g q) (gather g qs), flat_gather f g qs)

pub gather_same : {A : Type 0} (f g : ℕ → List A) → ((q : ℕ) → f q ≡ g q) → (qs : List ℕ) → gather f qs ≡ gather g qs
unfolding gather
gather_same f g e [] = refl
gather_same f g e (q ∷ qs) = rw (e q, gather_same f g e qs)

-- of lists of one length, gathered, each is a part
pub gather_part : {A : Type 0} (f : ℕ → List A) (n : ℕ) → ((q : ℕ) → length (f q) ≡ n) → (qs : List ℕ) (k : ℕ) → k < length qs
    → take n (drop (k * n) (gather f qs)) ≡ f (get_or qs k 0)
unfolding gather
gather_part f n e [] k h = absurd (omega arith)
gather_part f n e (q ∷ qs) zero h = let z : 0 * n ≡ 0 = omega arith in rw z (take_at (f q) (gather f qs) n (e q))
gather_part f n e (q ∷ qs) (suc k) h =
    let s : suc k * n ≡ length (f q) + k * n = omega (arith, e q) in
    rw (s, drop-append-add (f q) (gather f qs) (k * n)) (gather_part f n e qs k (omega arith))

-- one number more in front of a list
pub not_first : (a b : ℕ) {l : List ℕ} → (a ≡ b → ⊥) → (Memᴰ a l → ⊥) → Memᴰ a (b ∷ l) → ⊥
not_first a b {l} n o m = pick (Memᴰ.cases_cons m)
  where
    pick : (a ≡ b) ⊎ Memᴰ a l → ⊥
    pick (inl e) = n e
    pick (inr k) = o k

pub in_rest : {a b end : ℕ} {l : List ℕ} → b < end → (Memᴰ a l → a < end) → Memᴰ a (b ∷ l) → a < end
in_rest {a} {b} {end} {l} h o m = pick (Memᴰ.cases_cons m)
  where
    pick : (a ≡ b) ⊎ Memᴰ a l → a < end
    pick (inl e) = omega arith
    pick (inr k) = o k
