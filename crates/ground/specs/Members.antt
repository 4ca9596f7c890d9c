-- How long a list is by what stands in it: each of its members once, with a partner in another list that it shares with none.
use Rattle.std.specs.Prelude.{◌≡◌, refl, ◌⊎◌, suc, ◌≤◌, length}
use Rattle.std.proofs.Common.{sym, ap, ◌∙◌, subst, inl, inr, arith}
use mathlib.Core.HLevel.{⊥_prop}
use Rattle.std.proofs.Math.Logic.{∥∥₁_elim}
use mathlib.Core.List.Memᴰ
use mathlib.Core.List.{List, [], ◌∷◌, Memᴰ}
use mathlib.Core.List.Pairwise
use mathlib.Core.List.{Nodup, Nodup-cons}
use Rattle.tile.specs.declared.Tile.{Tile}
use Rattle.tile_set.specs.InOrder.{Ordered, before_irrefl}

once_rest : {A : Type 0} {a : A} {l : List A} → Nodup (a ∷ l) → (Memᴰ a l → ⊥) × Nodup l
once_rest o = (λ m. (Nodup-cons.0 o).0 ∣ m ∣₁, (Nodup-cons.0 o).1)

-- a list in order has each of its tiles once
pub ordered_once : (l : List Tile) → Ordered l → Nodup l
ordered_once [] o = Pairwise.nil
ordered_once (a ∷ l) o = Nodup-cons.1 (λ m. ∥∥₁_elim m ⊥_prop (λ (k : Memᴰ a l). before_irrefl (o.0 a k)), ordered_once l o.1)

-- a list without one of its members
less_one : {A : Type 0} (l : List A) (a : A) → Memᴰ a l
    → (r : List A) × (length l ≡ suc (length r)) × ((b : A) → Memᴰ b l → (b ≡ a) ⊎ Memᴰ b r)
less_one [] a m = absurd (Memᴰ.not-nil m)
less_one {A} (c ∷ l) a m = pick (Memᴰ.cases_cons m) (less_one l a)
  where
    Less : List A → Type 0
    Less k = (r : List A) × (length k ≡ suc (length r)) × ((b : A) → Memᴰ b k → (b ≡ a) ⊎ Memᴰ b r)

    pick : (a ≡ c) ⊎ Memᴰ a l → (Memᴰ a l → Less l) → Less (c ∷ l)
    pick (inl e) below = (l, refl, λ b n. keep b (Memᴰ.cases_cons n))
      where
        keep : (b : A) → (b ≡ c) ⊎ Memᴰ b l → (b ≡ a) ⊎ Memᴰ b l
        keep b (inl k) = inl (k ∙ sym e)
        keep b (inr k) = inr k
    pick (inr i) below = let s = below i in (c ∷ s.0, ap suc s.1, λ b n. keep s.0 s.2 b (Memᴰ.cases_cons n))
      where
        keep : (r : List A) → ((b : A) → Memᴰ b l → (b ≡ a) ⊎ Memᴰ b r) → (b : A) → (b ≡ c) ⊎ Memᴰ b l
            → (b ≡ a) ⊎ Memᴰ b (c ∷ r)
        keep r f b (inl k) = inr (Memᴰ.head k)
        keep r f b (inr k) = deep (f b k)
          where
            deep : (b ≡ a) ⊎ Memᴰ b r → (b ≡ a) ⊎ Memᴰ b (c ∷ r)
            deep (inl j) = inl j
            deep (inr j) = inr (Memᴰ.tail j)

-- the pigeonhole
pub no_longer : {A B : Type 0} (R : A → B → Type 0) (a : List A) (b : List B) → Nodup a
    → ((s : A) → Memᴰ s a → (t : B) × Memᴰ t b × R s t)
    → ((s r : A) (t : B) → Memᴰ s a → Memᴰ r a → R s t → R r t → s ≡ r) → length a ≤ length b
no_longer R [] b o partner one = omega arith
no_longer {A} {B} R (x ∷ a) b o partner one =
    let p = partner x (Memᴰ.head refl) in
    let d = less_one b p.0 p.1 in
    let rest : length a ≤ length d.0 =
    no_longer R a d.0 (once_rest o).1 (λ s m. other p.0 p.2 d.0 d.2 s m (partner s (Memᴰ.tail m)))
    (λ s r t m n. one s r t (Memᴰ.tail m) (Memᴰ.tail n)) in
    omega (arith, d.1)
  where
    other : (u : B) → R x u → (r : List B) → ((t : B) → Memᴰ t b → (t ≡ u) ⊎ Memᴰ t r)
        → (s : A) → Memᴰ s a → (t : B) × Memᴰ t b × R s t → (t : B) × Memᴰ t r × R s t
    other u h r f s m (t, n, k) = (t, pick (f t n), k)
      where
        pick : (t ≡ u) ⊎ Memᴰ t r → Memᴰ t r
        pick (inl e) =
            let same : x ≡ s = one x s t (Memᴰ.head refl) (Memᴰ.tail m) (subst (λ (v : B). R x v) (sym e) h) k in
            absurd ((once_rest o).0 (Memᴰ.cast same m))
        pick (inr j) = j
