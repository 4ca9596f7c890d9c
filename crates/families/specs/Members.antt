-- Which numbers the pass leaves of a rising list: those that stand with no whole family, and the parents of the families.
use Rattle.std.specs.Prelude.{◌≡◌, Bool, true, false, cond, ◌⊎◌, ℕ, zero, suc, ◌+◌, ◌*◌, ◌/◌, ◌%◌, ◌≤◌, ◌<◌, length, drop}
use Rattle.std.proofs.Math.Path.{refl}
use Rattle.std.proofs.Common.{ap, ◌∙◌, inl, inr, arith}
use mathlib.Core.List.Memᴰ
use mathlib.Core.List.{List, [], ◌∷◌, Memᴰ}
use Rattle.std.proofs.Math.Decide.{dec_lt}
use Rattle.sort.specs.Sort.{Rising}
use Rattle.families.specs.Join.{four_from, join_after, join_of}
use Rattle.families.specs.Laws.{Four, four_true, true_four, join_cons, join_four}

-- the list holds the four children of p, the first of them from `from` on
pub record FourChildren (from p : ℕ) (l : List ℕ) : Type 0 where
  pub above : from ≤ 4 * p
  pub each : (i : ℕ) → i < 4 → Memᴰ (4 * p + i) l

rising_first : {q n : ℕ} {l : List ℕ} → Rising (q ∷ l) → Memᴰ n l → q < n
unfolding Rising
rising_first {q} {n} {l} r m = r.0 n m

rising_rest : (q : ℕ) (l : List ℕ) → Rising (q ∷ l) → Rising l
unfolding Rising
rising_rest q l r = r.1

-- a member above the first stands behind it
behind : {q n : ℕ} {l : List ℕ} → q < n → Memᴰ n (q ∷ l) → Memᴰ n l
behind {q} {n} {l} h m = pick (Memᴰ.cases_cons m)
  where
    pick : (n ≡ q) ⊎ Memᴰ n l → Memᴰ n l
    pick (inl e) = absurd (omega arith)
    pick (inr k) = k

at_least : {q n : ℕ} {l : List ℕ} → Rising (q ∷ l) → Memᴰ n (q ∷ l) → q ≤ n
at_least {q} {n} {l} r m = pick (Memᴰ.cases_cons m)
  where
    pick : (n ≡ q) ⊎ Memᴰ n l → q ≤ n
    pick (inl e) = omega arith
    pick (inr k) = let h = rising_first r k in omega arith

-- the number that follows the first in value follows it in the list
next : {q : ℕ} (l : List ℕ) → Rising (q ∷ l) → Memᴰ (suc q) l → (k : List ℕ) × (l ≡ suc q ∷ k)
next {q} [] r m = absurd (Memᴰ.not-nil m)
next {q} (a ∷ k) r m =
    let h : q < a = rising_first r (Memᴰ.head refl) in
    let g : a ≤ suc q = at_least (rising_rest q (a ∷ k) r) m in
    let e : a ≡ suc q = omega arith in
    (k, ap (λ (n : ℕ). n ∷ k) e)

-- a list that holds the three numbers after its first begins with them
run : {q : ℕ} (l : List ℕ) → Rising (q ∷ l) → Memᴰ (suc q) l → Memᴰ (suc (suc q)) l → Memᴰ (suc (suc (suc q))) l
    → (k : List ℕ) × (l ≡ suc q ∷ (suc (suc q) ∷ (suc (suc (suc q)) ∷ k)))
run {q} l r a b c = two (next l r a)
  where
    two : (k : List ℕ) × (l ≡ suc q ∷ k) → (k : List ℕ) × (l ≡ suc q ∷ (suc (suc q) ∷ (suc (suc (suc q)) ∷ k)))
    two (k, e) = three (next k r1 (behind (omega arith) (rw e at b)))
      where
        r1 : Rising (suc q ∷ k)
        r1 = rising_rest q (suc q ∷ k) (rw e at r)

        three : (j : List ℕ) × (k ≡ suc (suc q) ∷ j) → (k : List ℕ) × (l ≡ suc q ∷ (suc (suc q) ∷ (suc (suc (suc q)) ∷ k)))
        three (j, f) = four (next j (rising_rest (suc q) (suc (suc q) ∷ j) (rw f at r1))
            (behind (omega arith) (rw f at (behind (omega arith) (rw e at c)))))
          where
            four : (i : List ℕ) × (j ≡ suc (suc (suc q)) ∷ i) → (k : List ℕ) × (l ≡ suc q ∷ (suc (suc q) ∷ (suc (suc (suc q)) ∷ k)))
            four (i, g) = (i, e ∙ ap (λ (m : List ℕ). suc q ∷ m) (f ∙ ap (λ (m : List ℕ). suc (suc q) ∷ m) g))

-- a family of which the first number is one begins the list
family_first : (from p q : ℕ) (l : List ℕ) → Rising (q ∷ l) → FourChildren from p (q ∷ l) → q / 4 ≡ p → four_from from (q ∷ l) ≡ true
family_first from p q l r f e =
    here (run l r (later (suc q) 1 (omega (arith, start)) (omega arith, omega arith))
    (later (suc (suc q)) 2 (omega (arith, start)) (omega arith, omega arith))
    (later (suc (suc (suc q))) 3 (omega (arith, start)) (omega arith, omega arith)))
  where
    least : q ≤ 4 * p + 0
    least = at_least r (f.each 0 (omega arith))

    start : q ≡ 4 * p
    start = omega (arith, least)

    later : (n i : ℕ) → n ≡ 4 * p + i → (0 < i) × (i < 4) → Memᴰ n l
    later n i g h = behind (omega (arith, start, h.0)) (Memᴰ.cast g (f.each i h.1))

    here : (k : List ℕ) × (l ≡ suc q ∷ (suc (suc q) ∷ (suc (suc (suc q)) ∷ k))) → four_from from (q ∷ l) ≡ true
    here (k, g) =
        rw g (true_four (record
        { long = omega arith; above = omega (arith, f.above, start); first = omega (arith, start); last = omega arith }))

-- four that begin the list: they are one family
record Begun (from q : ℕ) (l : List ℕ) : Type 0 where
  rest : List ℕ
  split : l ≡ suc q ∷ (suc (suc q) ∷ (suc (suc (suc q)) ∷ rest))
  first : q % 4 ≡ 0
  above : from ≤ q

begun : (from q : ℕ) (l : List ℕ) → Rising (q ∷ l) → four_from from (q ∷ l) ≡ true → Begun from q l
begun from q l r e = pick l r (four_true from (q ∷ l) e)
  where
    pick : (l : List ℕ) → Rising (q ∷ l) → Four from (q ∷ l) → Begun from q l
    pick [] r f = let h = f.long in absurd (omega arith)
    pick (a ∷ []) r f = let h = f.long in absurd (omega arith)
    pick (a ∷ (b ∷ [])) r f = let h = f.long in absurd (omega arith)
    pick (a ∷ (b ∷ (c ∷ k))) r f =
        let h : q < a = rising_first r (Memᴰ.head refl) in
        let i : a < b = rising_first (rising_rest q (a ∷ (b ∷ (c ∷ k))) r) (Memᴰ.head refl) in
        let j : b < c = rising_first (rising_rest a (b ∷ (c ∷ k)) (rising_rest q (a ∷ (b ∷ (c ∷ k))) r)) (Memᴰ.head refl) in
        let g : q + 3 ≡ c = f.last in
        let x : a ≡ suc q = omega arith in
        let y : b ≡ suc (suc q) = omega arith in
        let z : c ≡ suc (suc (suc q)) = omega arith in
        record { rest = k; split = rw (x, y, z); first = f.first; above = f.above }

-- what the pass leaves
abbrev pub Left : ℕ → ℕ → List ℕ → Type 0
Left from n l = (Memᴰ n l × (FourChildren from (n / 4) l → ⊥)) ⊎ FourChildren from n l

-- a family in front of a list: the numbers behind it have nothing to do with it
module _ (from q : ℕ) (k : List ℕ) (r : Rising (q ∷ (suc q ∷ (suc (suc q) ∷ (suc (suc (suc q)) ∷ k))))) (z : q % 4 ≡ 0) where
  abbrev whole : List ℕ
  whole = q ∷ (suc q ∷ (suc (suc q) ∷ (suc (suc (suc q)) ∷ k)))

  last_rising : Rising (suc (suc (suc q)) ∷ k)
  last_rising = rising_rest _ _ (rising_rest _ _ (rising_rest _ _ r))

  rest_rising : Rising k
  rest_rising = rising_rest (suc (suc (suc q))) k last_rising

  far : (n : ℕ) → Memᴰ n k → q + 3 < n
  far n m = let h : suc (suc (suc q)) < n = rising_first last_rising m in omega arith

  deep : (n : ℕ) → q + 3 < n → Memᴰ n whole → Memᴰ n k
  deep n h m = behind (omega arith) (behind (omega arith) (behind (omega arith) (behind (omega arith) m)))

  into : {n : ℕ} → Memᴰ n k → Memᴰ n whole
  into m = Memᴰ.tail (Memᴰ.tail (Memᴰ.tail (Memᴰ.tail m)))

  family_into : (p : ℕ) → FourChildren from p k → FourChildren from p whole
  family_into p f = record { above = f.above; each = λ i h. into (f.each i h) }

  family_behind : (p : ℕ) → q + 3 < 4 * p → FourChildren from p whole → FourChildren from p k
  family_behind p h f = record { above = f.above; each = λ i l. deep (4 * p + i) (omega arith) (f.each i l) }

  own : from ≤ q → FourChildren from (q / 4) whole
  own h = record { above = omega arith; each = λ i l. pick i l }
    where
      pick : (i : ℕ) → i < 4 → Memᴰ (4 * (q / 4) + i) whole
      pick zero l = let e : 4 * (q / 4) + 0 ≡ q = omega arith in Memᴰ.head e
      pick (suc zero) l = let e : 4 * (q / 4) + 1 ≡ suc q = omega arith in Memᴰ.tail (Memᴰ.head e)
      pick (suc (suc zero)) l = let e : 4 * (q / 4) + 2 ≡ suc (suc q) = omega arith in Memᴰ.tail (Memᴰ.tail (Memᴰ.head e))
      pick (suc (suc (suc zero))) l =
          let e : 4 * (q / 4) + 3 ≡ suc (suc (suc q)) = omega arith in Memᴰ.tail (Memᴰ.tail (Memᴰ.tail (Memᴰ.head e)))
      pick (suc (suc (suc (suc i)))) l = absurd (omega arith)

  left_into : (n : ℕ) → Left from n k → Left from n whole
  left_into n (inl (m, f)) = let h = far n m in inl (into m, λ g. f (family_behind (n / 4) (omega arith) g))
  left_into n (inr f) = inr (family_into n f)

  left_behind : (n : ℕ) → from ≤ q → Left from n whole → (n ≡ q / 4) ⊎ Left from n k
  left_behind n a (inl (m, f)) = inr (pick (dec_lt (q + 3) n))
    where
      pick : Dec (q + 3 < n) → Left from n k
      pick (yes h) = inl (deep n h m, λ g. f (family_into (n / 4) g))
      pick (no h) = let l : q ≤ n = at_least r m in let e : n / 4 ≡ q / 4 = omega arith in absurd (f (rw e (own a)))
  left_behind n a (inr f) = pick (dec_lt (q + 3) (4 * n))
    where
      pick : Dec (q + 3 < 4 * n) → (n ≡ q / 4) ⊎ Left from n k
      pick (yes h) = inr (inr (family_behind n h f))
      pick (no h) = let l : q ≤ 4 * n + 0 = at_least r (f.each 0 (omega arith)) in inl (omega arith)

-- a number in front that begins no family
module _ (from q : ℕ) (l : List ℕ) (r : Rising (q ∷ l)) (n4 : four_from from (q ∷ l) ≡ false) where
  no_family : FourChildren from (q / 4) (q ∷ l) → ⊥
  no_family f = let t = family_first from (q / 4) q l r f refl in let c : ◌≡◌ {A = ℕ} 0 1 = cc in omega arith

  off : (p : ℕ) → FourChildren from p (q ∷ l) → FourChildren from p l
  off p f = record { above = f.above; each = λ i h. behind (past i) (f.each i h) }
    where
      least : q ≤ 4 * p + 0
      least = at_least r (f.each 0 (omega arith))

      apart : q / 4 ≡ p → ⊥
      apart e = no_family (rw e f)

      past : (i : ℕ) → q < 4 * p + i
      past i = pick (dec_lt q (4 * p + i))
        where
          pick : Dec (q < 4 * p + i) → q < 4 * p + i
          pick (yes h) = h
          pick (no h) = absurd (apart (omega (arith, least)))

  on : (p : ℕ) → FourChildren from p l → FourChildren from p (q ∷ l)
  on p f = record { above = f.above; each = λ i h. Memᴰ.tail (f.each i h) }

  left_on : (n : ℕ) → Left from n l → Left from n (q ∷ l)
  left_on n (inl (m, f)) = inl (Memᴰ.tail m, λ g. f (off (n / 4) g))
  left_on n (inr f) = inr (on n f)

  left_off : (n : ℕ) → Left from n (q ∷ l) → (n ≡ q) ⊎ Left from n l
  left_off n (inl (m, f)) = pick (Memᴰ.cases_cons m)
    where
      pick : (n ≡ q) ⊎ Memᴰ n l → (n ≡ q) ⊎ Left from n l
      pick (inl e) = inl e
      pick (inr k) = inr (inl (k, λ g. f (on (n / 4) g)))
  left_off n (inr f) = inr (inr (off n f))

-- where the lists of at most `most` numbers leave just those numbers, one more number changes nothing of that
module _ (from n most : ℕ) where
  abbrev Leaves : Type 0
  Leaves = (l : List ℕ) → length l ≤ most → Rising l → Memᴰ n (join_of from l) → Left from n l

  abbrev Keeps : Type 0
  Keeps = (l : List ℕ) → length l ≤ most → Rising l → Left from n l → Memᴰ n (join_of from l)

  module _ (q : ℕ) (l : List ℕ) (h : length (q ∷ l) ≤ suc most) (r : Rising (q ∷ l)) where
    module _ (b : Begun from q l) where
      abbrev all : List ℕ
      all = q ∷ (suc q ∷ (suc (suc q) ∷ (suc (suc (suc q)) ∷ b.rest)))

      rising : Rising all
      rising = rw b.split at r

      fewer : length b.rest ≤ most
      fewer = let e : length l ≡ length (suc q ∷ (suc (suc q) ∷ (suc (suc (suc q)) ∷ b.rest))) = ap length b.split in omega arith

      joined : four_from from (q ∷ l) ≡ true → join_of from (q ∷ l) ≡ q / 4 ∷ join_of from b.rest
      joined e = join_four from q l e ∙ ap (λ (j : List ℕ). q / 4 ∷ join_of from (drop 3 j)) b.split

      family_leaves : Leaves → (n ≡ q / 4) ⊎ Memᴰ n (join_of from b.rest) → Left from n all
      family_leaves below (inl f) = inr (rw f (own from q b.rest rising b.first b.above))
      family_leaves below (inr k) =
          left_into from q b.rest rising b.first n (below b.rest fewer (rest_rising from q b.rest rising b.first) k)

      family_keeps : Keeps → (n ≡ q / 4) ⊎ Left from n b.rest → Memᴰ n (q / 4 ∷ join_of from b.rest)
      family_keeps below (inl f) = Memᴰ.head f
      family_keeps below (inr k) = Memᴰ.tail (below b.rest fewer (rest_rising from q b.rest rising b.first) k)

    alone_leaves : Leaves → four_from from (q ∷ l) ≡ false → (n ≡ q) ⊎ Memᴰ n (join_of from l) → Left from n (q ∷ l)
    alone_leaves below e (inl f) = inl (Memᴰ.head f, rw f (no_family from q l r e))
    alone_leaves below e (inr k) = left_on from q l r e n (below l (omega arith) (rising_rest q l r) k)

    alone_keeps : Keeps → (n ≡ q) ⊎ Left from n l → Memᴰ n (q ∷ join_of from l)
    alone_keeps below (inl f) = Memᴰ.head f
    alone_keeps below (inr k) = Memᴰ.tail (below l (omega arith) (rising_rest q l r) k)

    step_leaves : Leaves → Memᴰ n (join_of from (q ∷ l)) → (b : Bool) → four_from from (q ∷ l) ≡ b → Left from n (q ∷ l)
    step_leaves below m true e =
        let b = begun from q l r e in
        rw b.split (family_leaves b below (Memᴰ.cases_cons (rw (joined b e) at m)))
    step_leaves below m false e = alone_leaves below e (Memᴰ.cases_cons (rw (join_cons from q l e) at m))

    step_keeps : Keeps → Left from n (q ∷ l) → (b : Bool) → four_from from (q ∷ l) ≡ b → Memᴰ n (join_of from (q ∷ l))
    step_keeps below m true e =
        let b = begun from q l r e in
        rw (joined b e) (family_keeps b below (left_behind from q b.rest (rising b) b.first n b.above (rw b.split at m)))
    step_keeps below m false e = rw (join_cons from q l e) (alone_keeps below (left_off from q l r e n m))

  next_leaves : Leaves → (l : List ℕ) → length l ≤ suc most → Rising l → Memᴰ n (join_of from l) → Left from n l
  unfolding join_after
  next_leaves below [] h r m = absurd (Memᴰ.not-nil m)
  next_leaves below (q ∷ l) h r m = step_leaves q l h r below m (four_from from (q ∷ l)) refl

  next_keeps : Keeps → (l : List ℕ) → length l ≤ suc most → Rising l → Left from n l → Memᴰ n (join_of from l)
  next_keeps below [] h r (inl (m, f)) = absurd (Memᴰ.not-nil m)
  next_keeps below [] h r (inr f) = absurd (Memᴰ.not-nil (f.each 0 (omega arith)))
  next_keeps below (q ∷ l) h r m = step_keeps q l h r below m (four_from from (q ∷ l)) refl

none : (l : List ℕ) → length l ≤ 0 → l ≡ []
none [] h = refl
none (q ∷ l) h = absurd (omega arith)

leaves : (most from n : ℕ) → Leaves from n most
unfolding join_after
leaves zero from n l h r m = absurd (Memᴰ.not-nil (rw (none l h) at m))
leaves (suc most) from n l h r m = next_leaves from n most (leaves most from n) l h r m

keeps : (most from n : ℕ) → Keeps from n most
keeps zero from n l h r m = next_keeps from n 0 (λ k i s j. absurd (nowhere k i j)) l (omega arith) r m
  where
    nowhere : (k : List ℕ) → length k ≤ 0 → Left from n k → ⊥
    nowhere k i (inl (j, f)) = Memᴰ.not-nil (rw (none k i) at j)
    nowhere k i (inr f) = Memᴰ.not-nil (rw (none k i) at (f.each 0 (omega arith)))
keeps (suc most) from n l h r m = next_keeps from n most (keeps most from n) l h r m

-- just those numbers stand in the list that the pass leaves
pub join_leaves : (from n : ℕ) (l : List ℕ) → Rising l → Memᴰ n (join_of from l) → Left from n l
join_leaves from n l r m = leaves (length l) from n l (omega arith) r m

pub join_keeps : (from n : ℕ) (l : List ℕ) → Rising l → Left from n l → Memᴰ n (join_of from l)
join_keeps from n l r m = keeps (length l) from n l (omega arith) r m

after_length : (from skip : ℕ) (l : List ℕ) → length (join_after from skip l) ≤ length l
unfolding join_after
after_length from skip [] = omega arith
after_length from (suc skip) (q ∷ l) = omega (arith, after_length from skip l)
after_length from zero (q ∷ l) = pick (four_from from (q ∷ l)) (after_length from 3 l) (after_length from 0 l)
  where
    pick : (b : Bool) → length (join_after from 3 l) ≤ length l → length (join_after from 0 l) ≤ length l
        → length (cond b (q / 4 ∷ join_after from 3 l) (q ∷ join_after from 0 l)) ≤ length (q ∷ l)
    pick true h k = omega arith
    pick false h k = omega arith

pub join_length : (from : ℕ) (l : List ℕ) → length (join_of from l) ≤ length l
join_length from l = after_length from 0 l

-- a family makes the list shorter, and without one it stays as it is
pub join_shorter : (from p : ℕ) (l : List ℕ) → Rising l → FourChildren from p l → length (join_of from l) < length l
join_shorter from p [] r f = absurd (Memᴰ.not-nil (f.each 0 (omega arith)))
join_shorter from p (q ∷ l) r f = pick (four_from from (q ∷ l)) refl (join_shorter from p l (rising_rest q l r))
  where
    pick : (b : Bool) → four_from from (q ∷ l) ≡ b → (FourChildren from p l → length (join_of from l) < length l)
        → length (join_of from (q ∷ l)) < length (q ∷ l)
    pick true e below =
        let b = begun from q l r e in
        let f : join_of from (q ∷ l) ≡ q / 4 ∷ join_of from b.rest =
        join_four from q l e ∙ ap (λ (j : List ℕ). q / 4 ∷ join_of from (drop 3 j)) b.split in
        let g : length l ≡ length (suc q ∷ (suc (suc q) ∷ (suc (suc (suc q)) ∷ b.rest))) = ap length b.split in
        rw f (omega (arith, join_length from b.rest))
    pick false e below = rw (join_cons from q l e) (omega (arith, below (off from q l r e p f)))

pub join_same : (from : ℕ) (l : List ℕ) → Rising l → ((p : ℕ) → FourChildren from p l → ⊥) → join_of from l ≡ l
unfolding join_after
join_same from [] r n = refl
join_same from (q ∷ l) r n = pick (four_from from (q ∷ l)) refl (join_same from l (rising_rest q l r))
  where
    pick : (b : Bool) → four_from from (q ∷ l) ≡ b → (((p : ℕ) → FourChildren from p l → ⊥) → join_of from l ≡ l)
        → join_of from (q ∷ l) ≡ q ∷ l
    pick true e below = let b = begun from q l r e in
        absurd (n (q / 4) (rw b.split (own from q b.rest (rw b.split at r) b.first b.above)))
    pick false e below = join_cons from q l e ∙ ap (λ (k : List ℕ). q ∷ k) (below (λ p f. n p (on from q l r e p f)))
