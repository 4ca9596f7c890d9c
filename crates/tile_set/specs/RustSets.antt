-- Laws of the Rust's sets and loops, and of lists that have each tile once.
use Rattle.std.specs.Prelude.{◌≡◌, refl, ◌⊎◌, Bool, true, false, not, ◌&&◌, ℕ, zero, suc, ◌+◌, ◌*◌, ◌%◌, ◌^◌, ◌≤◌, ◌<◌, eqb, length}
use Rattle.std.proofs.Common.{sym, ap, ◌∙◌, subst, arith, pow_mono}
use Rattle.std.proofs.Math.Logic.{inl, inr, ⊎_elim}
use Rattle.std.proofs.Math.Bool.{true≢false, and-eq-true_iff, or-true}
use mathlib.Core.List.Memᴰ
use mathlib.Core.List.{List, [], ◌∷◌, foldl, Memᴰ}
use borrow.Author.Tests.{eqb-true, eq-eqb, not-true}
use Rattle.tile.specs.Order.{tile_ext}
use Rattle.tile.specs.declared.Tile.{Tile}
use Rattle.tile_set.specs.Holds.{child_of_parent}
use Rattle.tile_set.specs.Merged.{or_cases, is_false}
use Rattle.tile_set.specs.Rust.{same_tile, insert_tile, remove, extend, remove_all, children1, contains_all, NoRepeats}
use Rattle.tile_set.specs.Set.{parent_tile, child, whole}

pub same_means_equal : (s t : Tile) → same_tile s t ≡ true → s ≡ t
same_means_equal s t e =
    let i = (and-eq-true_iff (eqb s.x t.x) (eqb s.y t.y && eqb s.z t.z)).0 e in
    let j = (and-eq-true_iff (eqb s.y t.y) (eqb s.z t.z)).0 i.1 in
    tile_ext s t (eqb-true _ _ i.0) (eqb-true _ _ j.0) (eqb-true _ _ j.1)

pub same_as_itself : (t : Tile) → same_tile t t ≡ true
same_as_itself t = rw (eq-eqb t.x t.x refl, eq-eqb t.y t.y refl, eq-eqb t.z t.z refl)

dec_tile : (s t : Tile) → Dec (s ≡ t)
dec_tile s t = pick (same_tile s t) refl
  where
    pick : (b : Bool) → same_tile s t ≡ b → Dec (s ≡ t)
    pick true e = yes (same_means_equal s t e)
    pick false e = no (λ k. true≢false (sym (same_as_itself t) ∙ (ap (λ (u : Tile). same_tile u t) (sym k) ∙ e)))

module _ (a : Tile) (S : Tile → Bool) where
  pub insert_cases : (t : Tile) → insert_tile a S t ≡ true → (t ≡ a) ⊎ (S t ≡ true)
  unfolding insert_tile
  insert_cases t e = ⊎_elim (λ k. inl (same_means_equal t a k)) inr (or_cases (same_tile t a) (S t) e)

  pub insert_here : (t : Tile) → t ≡ a → insert_tile a S t ≡ true
  unfolding insert_tile
  insert_here t e = rw (ap (λ (u : Tile). same_tile u a) e ∙ same_as_itself a)

  pub insert_old : (t : Tile) → S t ≡ true → insert_tile a S t ≡ true
  unfolding insert_tile
  insert_old t e = rw e (or-true (same_tile t a))

  remove_of : (t : Tile) → remove a S t ≡ true → (t ≡ a → ⊥) × (S t ≡ true)
  unfolding remove
  remove_of t e =
      let i = (and-eq-true_iff (not (same_tile t a)) (S t)).0 e in
      (λ k. true≢false (sym (same_as_itself a) ∙ (ap (λ (u : Tile). same_tile u a) (sym k) ∙ not-true (same_tile t a) i.0)), i.1)

  remove_in : (t : Tile) → (t ≡ a → ⊥) → S t ≡ true → remove a S t ≡ true
  unfolding remove
  remove_in t n e = rw (e, is_false (same_tile t a) (λ k. n (same_means_equal t a k)))

not_in : {t a : Tile} {l : List Tile} → (t ≡ a → ⊥) → (Memᴰ t l → ⊥) → Memᴰ t (a ∷ l) → ⊥
not_in n o i = ⊎_elim n o (Memᴰ.cases_cons i)

pub remove_all_of : (l : List Tile) (S : Tile → Bool) (t : Tile) → remove_all l S t ≡ true → (S t ≡ true) × (Memᴰ t l → ⊥)
remove_all_of [] S t e = (e, Memᴰ.not-nil)
remove_all_of (a ∷ l) S t e =
    let r = remove_all_of l (remove a S) t e in
    let q = remove_of a S t r.0 in
    (q.1, not_in q.0 r.1)

pub remove_all_in : (l : List Tile) (S : Tile → Bool) (t : Tile) → S t ≡ true → (Memᴰ t l → ⊥) → remove_all l S t ≡ true
remove_all_in [] S t e n = e
remove_all_in (a ∷ l) S t e n = remove_all_in l (remove a S) t (remove_in a S t (λ k. n (Memᴰ.head k)) e) (λ i. n (Memᴰ.tail i))

pub extend_old : (l : List Tile) (S : Tile → Bool) (t : Tile) → S t ≡ true → extend l S t ≡ true
extend_old [] S t e = e
extend_old (a ∷ l) S t e = extend_old l (insert_tile a S) t (insert_old a S t e)

pub extend_in : (l : List Tile) (S : Tile → Bool) (t : Tile) → Memᴰ t l → extend l S t ≡ true
extend_in [] S t i = absurd (Memᴰ.not-nil i)
extend_in (a ∷ l) S t i =
    ⊎_elim (λ e. extend_old l (insert_tile a S) t (insert_here a S t e)) (λ k. extend_in l (insert_tile a S) t k) (Memᴰ.cases_cons i)

pub extend_cases : (l : List Tile) (S : Tile → Bool) (t : Tile) → extend l S t ≡ true → Memᴰ t l ⊎ (S t ≡ true)
extend_cases [] S t e = inr e
extend_cases (a ∷ l) S t e =
    ⊎_elim (λ i. inl (Memᴰ.tail i)) (λ k. ⊎_elim (λ s. inl (Memᴰ.head s)) inr (insert_cases a S t k))
    (extend_cases l (insert_tile a S) t e)

-- what each turn of a loop keeps, as it speaks of the tiles still to come, holds at the end, where none is to come
pub loop_keeps : {A : Type 0} (P : A → List Tile → Type 0) (f : A → Tile → A)
    → ((s : A) (t : Tile) (rest : List Tile) → P s (t ∷ rest) → P (f s t) rest)
    → (s : A) (tiles : List Tile) → P s tiles → P (foldl f s tiles) []
loop_keeps P f step s [] h = h
loop_keeps P f step s (t ∷ rest) h = loop_keeps P f step (f s t) rest (step s t rest h)

-- what was done, or is still to be done for a tile to come, after the turn for the first of these
pub after_turn : {P Q : Type 0} {u t : Tile} {rest : List Tile} → (P → Q) → (u ≡ t → Q) → P ⊎ Memᴰ u (t ∷ rest) → Q ⊎ Memᴰ u rest
after_turn f g (inl p) = inl (f p)
after_turn f g (inr i) = ⊎_elim (λ e. inl (g e)) inr (Memᴰ.cases_cons i)

pub at_end : {P : Type 0} {u : Tile} → P ⊎ Memᴰ u [] → P
at_end (inl p) = p
at_end (inr i) = absurd (Memᴰ.not-nil i)

pub same_zoom : {s t : Tile} → s ≡ t → s.z ≡ t.z
same_zoom e = ap (λ (u : Tile). u.z) e

dec_in : (t : Tile) (l : List Tile) → Dec (Memᴰ t l)
dec_in t [] = no Memᴰ.not-nil
dec_in t (a ∷ l) = pick (dec_tile t a) (dec_in t l)
  where
    pick : Dec (t ≡ a) → Dec (Memᴰ t l) → Dec (Memᴰ t (a ∷ l))
    pick (yes e) d = yes (Memᴰ.head e)
    pick (no n) (yes i) = yes (Memᴰ.tail i)
    pick (no n) (no o) = no (not_in n o)

-- a list one shorter, with every other tile of the list
record Without (a : Tile) (l : List Tile) : Type 0 where
  others : List Tile
  shorter : length l ≡ suc (length others)
  all : (t : Tile) → Memᴰ t l → (t ≡ a) ⊎ Memᴰ t others

without : (a : Tile) (l : List Tile) → Memᴰ a l → Without a l
without a [] i = absurd (Memᴰ.not-nil i)
without a (b ∷ l) i = pick (Memᴰ.cases_cons i) (without a l)
  where
    pick : (a ≡ b) ⊎ Memᴰ a l → (Memᴰ a l → Without a l) → Without a (b ∷ l)
    pick (inl e) g = record { others = l; shorter = refl; all = λ t k. ⊎_elim (λ s. inl (s ∙ sym e)) inr (Memᴰ.cases_cons k) }
    pick (inr k) g = let w = g k in record {
      others = b ∷ w.others;
      shorter = ap suc w.shorter;
      all = λ t j. ⊎_elim (λ s. inr (Memᴰ.head s)) (λ h. ⊎_elim inl (λ o. inr (Memᴰ.tail o)) (w.all t h))
          (Memᴰ.cases_cons j);
    }

-- a list that has each of its tiles once is no longer than another that has them all
once_shorter : (l k : List Tile) → NoRepeats l → ((t : Tile) → Memᴰ t l → Memᴰ t k) → length l ≤ length k
once_shorter [] k o f = omega arith
once_shorter (a ∷ l) k o f =
    let w = without a k (f a (Memᴰ.head refl)) in
    let h : length l ≤ length w.others = once_shorter l w.others o.1
    (λ t i. ⊎_elim (λ e. absurd (o.0 (Memᴰ.cast (sym e) i))) (λ j. j) (w.all t (f t (Memᴰ.tail i)))) in
    omega (arith, w.shorter)

-- the four children of a tile, in the order of `children1`
abbrev pub four_of : Tile → List Tile
four_of p = child p 0 0 ∷ child p 1 0 ∷ child p 0 1 ∷ child p 1 1 ∷ []

-- of a tile of the map above zoom 29 they fit their bits
pub children1_are_four : (p : Tile) → p.z < 29 → p.x < 2 ^ p.z → p.y < 2 ^ p.z → children1 p ≡ four_of p
children1_are_four p h c r =
    rw (odd_is p.x c, odd_is p.y r, even_is p.x c, even_is p.y r, deeper_is)
  where
    side : 2 ^ p.z ≤ 2 ^ 28
    side = pow_mono {j = 28} (omega arith)

    even_is : (n : ℕ) → n < 2 ^ p.z → n * 2 % 2 ^ 32 ≡ 2 * n + 0
    even_is n l = omega (arith, side)

    odd_is : (n : ℕ) → n < 2 ^ p.z → (n * 2 % 2 ^ 32 + 1) % 2 ^ 32 ≡ 2 * n + 1
    odd_is n l = omega (arith, side)

    deeper_is : (p.z + 1) % 2 ^ 8 ≡ suc p.z
    deeper_is = omega arith

pub contains_four : (S : Tile → Bool) (p : Tile) → contains_all S (four_of p) ≡ whole S p
unfolding contains_all
contains_four S p = pick (S (child p 0 0)) (S (child p 1 0)) (S (child p 0 1)) (S (child p 1 1))
  where
    pick : (a b c d : Bool) → a && (b && (c && (d && true))) ≡ (a && c) && (b && d)
    pick false b c d = refl
    pick true true true true = refl
    pick true true true false = refl
    pick true true false d = refl
    pick true false true d = refl
    pick true false false d = refl

module _ (p : Tile) where
  in_four : (i j : ℕ) → i < 2 → j < 2 → Memᴰ (child p i j) (four_of p)
  in_four zero zero a b = Memᴰ.head refl
  in_four (suc zero) zero a b = Memᴰ.tail (Memᴰ.head refl)
  in_four zero (suc zero) a b = Memᴰ.tail (Memᴰ.tail (Memᴰ.head refl))
  in_four (suc zero) (suc zero) a b = Memᴰ.tail (Memᴰ.tail (Memᴰ.tail (Memᴰ.head refl)))
  in_four zero (suc (suc j)) a b = absurd (omega arith)
  in_four (suc zero) (suc (suc j)) a b = absurd (omega arith)
  in_four (suc (suc i)) j a b = absurd (omega arith)

  pub each_of_four : (P : Tile → Type 0) → ((i j : ℕ) → i < 2 → j < 2 → P (child p i j)) → (t : Tile) → Memᴰ t (four_of p) → P t
  each_of_four P f t m =
      first (f 0 0 (omega arith) (omega arith)) (first (f 1 0 (omega arith) (omega arith)) (first (f 0 1 (omega arith) (omega arith))
      (first (f 1 1 (omega arith) (omega arith)) (λ k. absurd (Memᴰ.not-nil k))))) m
    where
      first : {a : Tile} {k : List Tile} → P a → (Memᴰ t k → P t) → Memᴰ t (a ∷ k) → P t
      first x rest m = ⊎_elim (λ e. subst P (sym e) x) rest (Memᴰ.cases_cons m)

  pub child_in_four : (t : Tile) → 0 < t.z → parent_tile t ≡ p → Memᴰ t (four_of p)
  child_in_four t h e =
      let c : t ≡ child p (t.x % 2) (t.y % 2) = sym (child_of_parent t h) ∙ ap (λ (q : Tile). child q (t.x % 2) (t.y % 2)) e in
      Memᴰ.cast c (in_four (t.x % 2) (t.y % 2) (omega arith) (omega arith))

  other_column : (i j k n : ℕ) → (i ≡ k → ⊥) → child p i j ≡ child p k n → ⊥
  other_column i j k n d e = let c : 2 * p.x + i ≡ 2 * p.x + k = ap (λ (t : Tile). t.x) e in d (omega arith)

  other_row : (i j k n : ℕ) → (j ≡ n → ⊥) → child p i j ≡ child p k n → ⊥
  other_row i j k n d e = let c : 2 * p.y + j ≡ 2 * p.y + n = ap (λ (t : Tile). t.y) e in d (omega arith)

  once_four : NoRepeats (four_of p)
  once_four = (
    not_in (other_column 0 0 1 0 (λ e. omega arith))
        (not_in (other_row 0 0 0 1 (λ e. omega arith)) (not_in (other_row 0 0 1 1 (λ e. omega arith)) Memᴰ.not-nil)),
    (
      not_in (other_row 1 0 0 1 (λ e. omega arith)) (not_in (other_row 1 0 1 1 (λ e. omega arith)) Memᴰ.not-nil),
      (not_in (other_column 0 1 1 1 (λ e. omega arith)) Memᴰ.not-nil, (Memᴰ.not-nil, tt)),
    ),
  )

-- a list that has children of p, each once, has four entries exactly where it has all four
module _ (p : Tile) (l : List Tile) (once : NoRepeats l) (children : (t : Tile) → Memᴰ t l → (0 < t.z) × (parent_tile t ≡ p)) where
  all_in_four : (t : Tile) → Memᴰ t l → Memᴰ t (four_of p)
  all_in_four t i = let c = children t i in child_in_four p t c.0 c.1

  pub four_all : length l ≡ 4 → (i j : ℕ) → i < 2 → j < 2 → Memᴰ (child p i j) l
  four_all e i j a b = pick (dec_in (child p i j) l)
    where
      pick : Dec (Memᴰ (child p i j) l) → Memᴰ (child p i j) l
      pick (yes k) = k
      pick (no n) =
          let w = without (child p i j) (four_of p) (in_four p i j a b) in
          let h : length l ≤ length w.others = once_shorter l w.others once
          (λ t k. ⊎_elim (λ s. absurd (n (Memᴰ.cast (sym s) k))) (λ o. o) (w.all t (all_in_four t k))) in
          absurd (omega (arith, w.shorter))

  pub all_four : ((i j : ℕ) → i < 2 → j < 2 → Memᴰ (child p i j) l) → length l ≡ 4
  all_four f =
      omega (
        arith,
        once_shorter l (four_of p) once all_in_four,
        once_shorter (four_of p) l (once_four p) (each_of_four p (λ (t : Tile). Memᴰ t l) f),
      )
