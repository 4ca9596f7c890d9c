-- How much can be left: a tile for each that others are taken away from, and three of each zoom for each that is taken away.
use Rattle.std.specs.Prelude.{◌≡◌, refl, Bool, true, false, cond, ◌||◌, ℕ, zero, suc, ◌+◌, ◌-◌, ◌*◌, ◌≤◌, ◌<◌, length, get_or}
use Rattle.std.proofs.Common.{ap, mul-add, suc-mul, mul-le-mul_left, mul-le-mul_right, arith, length-append}
use mathlib.Core.List.{List, [], ◌∷◌, map, Memᴰ}
use Rattle.std.proofs.lemmas.List.{length-map}
use Rattle.bits.specs.Tests.{any_of}
use Rattle.constants.specs.Limits.{max_zoom}
use Rattle.quadtree.specs.Numbers.{OfMap, location_tile}
use Rattle.quadtree.specs.Locations.{held_run, low_pos, tiles, Runs}
use Rattle.tile.specs.declared.Tile.{Tile}
use Rattle.tile_set.specs.Holds.{holds_both, holds_level, holds_trans, child_held}
use Rattle.tile_set.specs.Set.{child}
use Rattle.difference.specs.Holding.{holds_true, true_holds}
use Rattle.difference.specs.Left.{holds, of_four, left_of, left_of_all, without}
use Rattle.difference.specs.Touch.{gone_at}

abbrev one : Bool → ℕ
one b = cond b 1 0

-- how many of a list pass a test
unfoldable count_of : {A : Type 0} → (A → Bool) → List A → ℕ
count_of p [] = 0
count_of p (a ∷ l) = one (p a) + count_of p l

some_counted : {A : Type 0} (p : A → Bool) (l : List A) → any_of p l ≡ true → 1 ≤ count_of p l
unfolding any_of count_of
some_counted p [] e = let z : ◌≡◌ {A = ℕ} 0 1 = cc in absurd (omega arith)
some_counted p (a ∷ l) e = pick (p a) e (some_counted p l)
  where
    pick : (b : Bool) → b || any_of p l ≡ true → (any_of p l ≡ true → 1 ≤ count_of p l) → 1 ≤ one b + count_of p l
    pick true f below = omega arith
    pick false f below = omega (arith, below f)

-- of four tests that pass one at a time, and only where a fifth does
one_of_four : (a b c d e : Bool) → (a ≡ true → b ≡ true → ⊥) → (a ≡ true → c ≡ true → ⊥) → (a ≡ true → d ≡ true → ⊥)
    → (b ≡ true → c ≡ true → ⊥) → (b ≡ true → d ≡ true → ⊥) → (c ≡ true → d ≡ true → ⊥)
    → (a ≡ true → e ≡ true) → (b ≡ true → e ≡ true) → (c ≡ true → e ≡ true) → (d ≡ true → e ≡ true)
    → one a + (one b + (one c + one d)) ≤ one e
one_of_four true true c d e ab ac ad bc bd cd ae be ce de = absurd (ab refl refl)
one_of_four true false true d e ab ac ad bc bd cd ae be ce de = absurd (ac refl refl)
one_of_four true false false true e ab ac ad bc bd cd ae be ce de = absurd (ad refl refl)
one_of_four true false false false e ab ac ad bc bd cd ae be ce de = rw (ae refl) (omega arith)
one_of_four false true true d e ab ac ad bc bd cd ae be ce de = absurd (bc refl refl)
one_of_four false true false true e ab ac ad bc bd cd ae be ce de = absurd (bd refl refl)
one_of_four false true false false e ab ac ad bc bd cd ae be ce de = rw (be refl) (omega arith)
one_of_four false false true true e ab ac ad bc bd cd ae be ce de = absurd (cd refl refl)
one_of_four false false true false e ab ac ad bc bd cd ae be ce de = rw (ce refl) (omega arith)
one_of_four false false false true e ab ac ad bc bd cd ae be ce de = rw (de refl) (omega arith)
one_of_four false false false false e ab ac ad bc bd cd ae be ce de = omega arith

-- two children that hold one tile are the same
same_child : (t g : Tile) (i j k l : ℕ) → holds (child t i j) g ≡ true → holds (child t k l) g ≡ true → (i ≡ k) × (j ≡ l)
same_child t g i j k l a b =
    let e = holds_level (holds_both (holds_true (child t i j) g a) (holds_true (child t k l) g b) (omega arith)) (omega arith) in
    let x = ap (λ (s : Tile). s.x) e in
    let y = ap (λ (s : Tile). s.y) e in
    (omega (arith, x), omega (arith, y))

child_too : (t g : Tile) (i j : ℕ) → i < 2 → j < 2 → holds (child t i j) g ≡ true → holds t g ≡ true
child_too t g i j x y e = true_holds (holds_trans (child_held t i j x y) (holds_true (child t i j) g e))

held_by_children : (t : Tile) (gone : List Tile)
    → count_of (holds (child t 0 0)) gone +
    (count_of (holds (child t 1 0)) gone + (count_of (holds (child t 0 1)) gone + count_of (holds (child t 1 1)) gone))
    ≤ count_of (holds t) gone
unfolding count_of
held_by_children t [] = omega arith
held_by_children t (g ∷ gone) =
    let apart : (i j k l : ℕ) → ((i ≡ k) × (j ≡ l) → ⊥) → holds (child t i j) g ≡ true → holds (child t k l) g ≡ true → ⊥ =
    λ i j k l f a b. f (same_child t g i j k l a b) in
    let here = one_of_four (holds (child t 0 0) g) (holds (child t 1 0) g) (holds (child t 0 1) g) (holds (child t 1 1) g) (holds t g)
    (apart 0 0 1 0 (λ p. omega (arith, p.0))) (apart 0 0 0 1 (λ p. omega (arith, p.1))) (apart 0 0 1 1 (λ p. omega (arith, p.0)))
    (apart 1 0 0 1 (λ p. omega (arith, p.0))) (apart 1 0 1 1 (λ p. omega (arith, p.1))) (apart 0 1 1 1 (λ p. omega (arith, p.0)))
    (child_too t g 0 0 (omega arith) (omega arith)) (child_too t g 1 0 (omega arith) (omega arith))
    (child_too t g 0 1 (omega arith) (omega arith)) (child_too t g 1 1 (omega arith) (omega arith)) in
    omega (arith, here, held_by_children t gone)

four_length : (f : Tile → List Tile) (t : Tile)
    → length (of_four f t) ≡ length (f (child t 0 0)) + (length (f (child t 1 0)) + (length (f (child t 0 1)) + length (f (child t 1 1))))
four_length f t = simp length-append

-- of one tile with d levels below it
left_length : (d : ℕ) (gone : List Tile) (t : Tile) → length (left_of d gone t) ≤ 1 + 3 * (d * count_of (holds t) gone)
unfolding left_of
left_length zero gone t = pick (any_of (λ g. holds g t) gone)
  where
    pick : (b : Bool) → length (cond b [] (t ∷ [])) ≤ 1 + 3 * (0 * count_of (holds t) gone)
    pick true = omega arith
    pick false = omega arith
left_length (suc d) gone t =
    pick (any_of (λ g. holds g t) gone) (any_of (holds t) gone) (some_counted (holds t) gone) (λ i j. left_length d gone (child t i j))
  where
    n : ℕ → ℕ → ℕ
    n i j = count_of (holds (child t i j)) gone

    Below : Type 0
    Below = (i j : ℕ) → length (left_of d gone (child t i j)) ≤ 1 + 3 * (d * n i j)

    children : Below → length (of_four (left_of d gone) t) ≤ 4 + 3 * (d * (n 0 0 + (n 1 0 + (n 0 1 + n 1 1))))
    children below =
        let s : d * (n 0 0 + (n 1 0 + (n 0 1 + n 1 1))) ≡ d * n 0 0 + (d * n 1 0 + (d * n 0 1 + d * n 1 1)) = simp mul-add in
        omega (arith, four_length (left_of d gone) t, s, below 0 0, below 1 0, below 0 1, below 1 1)

    pick : (b c : Bool) → (c ≡ true → 1 ≤ count_of (holds t) gone) → Below
        → length (cond b [] (cond c (of_four (left_of d gone) t) (t ∷ []))) ≤ 1 + 3 * (suc d * count_of (holds t) gone)
    pick true c h below = omega arith
    pick false false h below = omega arith
    pick false true h below =
        omega (arith, children below, h refl, mul-le-mul_left d (held_by_children t gone), suc-mul d (count_of (holds t) gone))

-- how many tiles of a list hold one of another list, each as often as it does
unfoldable held_by : List Tile → List Tile → ℕ
held_by [] gone = 0
held_by (t ∷ l) gone = count_of (holds t) gone + held_by l gone

all_length : (D : ℕ) (gone l : List Tile) → length (left_of_all D gone l) ≤ length l + 3 * (D * held_by l gone)
unfolding left_of_all held_by
all_length D gone [] = omega arith
all_length D gone (t ∷ l) =
    let c = count_of (holds t) gone in
    let s : D * (c + held_by l gone) ≡ D * c + D * held_by l gone = mul-add D c (held_by l gone) in
    let h : (D - t.z) * c ≤ D * c = mul-le-mul_right c (omega arith) in
    omega (arith, length-append (left_of (D - t.z) gone t) (left_of_all D gone l), left_length (D - t.z) gone t, all_length D gone l, s, h)

held_none : (l : List Tile) → held_by l [] ≡ 0
unfolding held_by count_of
held_none [] = refl
held_none (t ∷ l) = omega (arith, held_none l)

-- one tile more that is taken away
held_more : (l : List Tile) (g : Tile) (gone : List Tile) → held_by l (g ∷ gone) ≡ count_of (λ t. holds t g) l + held_by l gone
unfolding held_by count_of
held_more [] g gone = refl
held_more (t ∷ l) g gone = omega (arith, held_more l g gone)

-- a test that no number of a list passes, and one that no two pass
count_none : (p : ℕ → Bool) (l : List ℕ) → ((i : ℕ) → i < length l → p (get_or l i 0) ≡ true → ⊥) → count_of p l ≡ 0
unfolding count_of
count_none p [] h = refl
count_none p (k ∷ l) h = pick (p k) (h 0 (omega arith)) (count_none p l (λ i a. h (suc i) (omega arith)))
  where
    pick : (b : Bool) → (b ≡ true → ⊥) → count_of p l ≡ 0 → one b + count_of p l ≡ 0
    pick true f e = absurd (f refl)
    pick false f e = omega arith

count_once : (p : ℕ → Bool) (l : List ℕ) → ((i j : ℕ) → i < j → j < length l → p (get_or l i 0) ≡ true → p (get_or l j 0) ≡ true → ⊥)
    → count_of p l ≤ 1
unfolding count_of
count_once p [] h = omega arith
count_once p (k ∷ l) h =
    pick (p k) (λ e. count_none p l (λ i a f. h 0 (suc i) (omega arith) (omega arith) e f))
    (count_once p l (λ i j a b. h (suc i) (suc j) (omega arith) (omega arith)))
  where
    pick : (b : Bool) → (b ≡ true → count_of p l ≡ 0) → count_of p l ≤ 1 → one b + count_of p l ≤ 1
    pick true f e = omega (arith, f refl)
    pick false f e = omega arith

count_map : {A B : Type 0} (p : B → Bool) (f : A → B) (l : List A) → count_of p (map f l) ≡ count_of (λ a. p (f a)) l
unfolding count_of
count_map p f [] = refl
count_map p f (a ∷ l) = ap (λ (n : ℕ). one (p (f a)) + n) (count_map p f l)

-- tiles whose runs follow each other do not hold the same tile
module _ (kept : List ℕ) (runs : Runs kept) where
  held_once : (g : Tile) → OfMap g → count_of (λ t. holds t g) (map location_tile kept) ≤ 1
  held_once g o = rw (count_map (λ t. holds t g) location_tile kept) (count_once (λ k. holds (location_tile k) g) kept two)
    where
      two : (i j : ℕ) → i < j → j < length kept → holds (tiles kept i) g ≡ true → holds (tiles kept j) g ≡ true → ⊥
      two i j a b x y =
          let s = held_run (holds_true (tiles kept i) g x) o in
          let t = held_run (holds_true (tiles kept j) g y) o in
          omega (arith, s.1, t.0, runs.rise i j a b, low_pos g)

  held_length : (gone : List Tile) → ((g : Tile) → Memᴰ g gone → OfMap g) → held_by (map location_tile kept) gone ≤ length gone
  held_length [] each = omega (arith, held_none (map location_tile kept))
  held_length (g ∷ gone) each =
      omega (
        arith,
        held_more (map location_tile kept) g gone,
        held_once g (each g (Memᴰ.head refl)),
        held_length gone (λ h m. each h (Memᴰ.tail m)),
      )

  pub without_length : (gone : List ℕ) → Runs gone → length (without kept gone) ≤ length kept + 3 * (max_zoom * length gone)
  without_length gone others =
      let h : held_by (map location_tile kept) (map location_tile gone) ≤ length gone =
      rw (length-map gone location_tile) at
      (held_length (map location_tile gone) (λ g m. let s = gone_at gone m in rw s.2 (others.each s.0 s.1).of_map)) in
      omega (
        arith,
        all_length max_zoom (map location_tile gone) (map location_tile kept),
        mul-le-mul_left max_zoom h,
        length-map kept location_tile,
      )
