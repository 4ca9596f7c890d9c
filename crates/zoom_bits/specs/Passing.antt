-- The list of the numbers below a bound that pass a test: how it grows, how many they are, and how it fills the front of a memory.
use Rattle.std.specs.Prelude.{◌≡◌, refl, Bool, true, false, cond, ◌&&◌, List, [], ◌∷◌, ◌++◌, ◌⊎◌, ℕ, zero, suc, ◌+◌, ◌/◌, ◌%◌, ◌^◌, ◌≤◌, ◌<◌, eqb, length, drop, set, get_or}
use Rattle.std.proofs.Common.{sym, ap, ap₂, ◌∙◌, append-nil, inl, inr, add_comm, mod-lt, zero-lt-suc, le_refl, one-add, arith, length-append, drop-cons, pow_pos, le-leb}
use Rattle.std.proofs.Math.Bool.{and-true, and-false}
use mathlib.Core.List.Memᴰ
use mathlib.Core.List.{Memᴰ}
use Rattle.std.proofs.Math.Decide.{dec_lt, le_ind}
use Rattle.std.proofs.lemmas.List.{set_at}
use Rattle.std.proofs.Math.Seq.{append_snoc}
use Rattle.std.proofs.lemmas.Nat.{mod-pow-add, ones_cat}
use Rattle.std.specs.Int.Count.{ones, ones_in}
use Rattle.std.proofs.lemmas.Bool.{lt-leb}
use Rattle.zoom_bits.specs.Bits.{has_bit, those, set_of, between, from_to, last_zoom}
use Rattle.zoom_bits.specs.Sets.{bit_of_set}

pub those_same : (f g : ℕ → Bool) (n : ℕ) → ((i : ℕ) → i < n → f i ≡ g i) → those f n ≡ those g n
unfolding those
those_same f g zero h = refl
those_same f g (suc n) h = rw (those_same f g n (λ i l. h i (omega arith)), h n (omega arith))

-- the bits of a number are counted by the machine's count
digit_ones : (d n : ℕ) → d < 2 → length (cond (eqb d 1) (n ∷ []) []) ≡ ones d
unfolding ones ones_in
digit_ones zero n h = refl
digit_ones (suc zero) n h = refl
digit_ones (suc (suc d)) n h = absurd (omega arith)

pub count_bits : (a n : ℕ) → length (those (has_bit a) n) ≡ ones (a % 2 ^ n)
unfolding those has_bit ones ones_in
count_bits a zero = let e : a % 2 ^ 0 ≡ 0 = omega arith in rw e
count_bits a (suc n) =
    length-append (those (has_bit a) n) (cond (has_bit a n) (n ∷ []) [])
    ∙ (ap₂ (λ (x y : ℕ). x + y) (count_bits a n) (digit_ones d n (mod-lt (a / 2 ^ n) (zero-lt-suc 1)))
    ∙ (add_comm (ones (a % 2 ^ n)) (ones d)
    ∙ (sym (ones_cat n d (a % 2 ^ n) (mod-lt a (pow_pos n))) ∙ ap ones (sym (mod-pow-add a 1 n) ∙ ap (λ (x : ℕ). a % 2 ^ x) (one-add n)))))
  where
    d : ℕ
    d = a / 2 ^ n % 2

-- one more number, where it passes
pub those_with : (has : ℕ → Bool) (z : ℕ) → has z ≡ true → those has (suc z) ≡ those has z ++ (z ∷ [])
unfolding those
those_with has z e = rw e

pub those_without : (has : ℕ → Bool) (z : ℕ) → has z ≡ false → those has (suc z) ≡ those has z
unfolding those
those_without has z e = rw e (append-nil (those has z))

pub those_grow : (has : ℕ → Bool) (m n : ℕ) → m ≤ n → length (those has m) ≤ length (those has n)
unfolding those
those_grow has m n l =
    le_ind (λ (k : ℕ). length (those has m) ≤ length (those has k)) (le_refl (length (those has m)))
    (λ k i h. omega (arith, length-append (those has k) (cond (has k) (k ∷ []) []))) n l

-- a number that passes has a place of its own
pub those_room : (has : ℕ → Bool) (z n : ℕ) → has z ≡ true → z < n → length (those has z) < length (those has n)
those_room has z n e l = omega (arith, those_grow has (suc z) n l, length-append (those has z) (z ∷ []), ap length (those_with has z e))

-- the list of those numbers in the front of a memory, by one more
pub front_with : (has : ℕ → Bool) (z k : ℕ) (out memory : List ℕ) → has z ≡ true → k ≡ length (those has z)
    → out ≡ those has z ++ drop k memory → k < length memory
    → set out k z ≡ those has (suc z) ++ drop (suc k) memory
front_with has z k out memory h e o l =
    ap (λ (s : List ℕ). set s k z) (o ∙ ap (λ (s : List ℕ). those has z ++ s) (drop-cons memory k 0 l))
    ∙ (set_at (those has z) (get_or memory k 0) (drop (suc k) memory) z k (sym e)
    ∙ (sym (append_snoc (those has z) z (drop (suc k) memory)) ∙ ap (λ (s : List ℕ). s ++ drop (suc k) memory) (sym (those_with has z h))))

pub those_none : (has : ℕ → Bool) (n : ℕ) → ((i : ℕ) → i < n → has i ≡ false) → those has n ≡ []
unfolding those
those_none has zero h = refl
those_none has (suc n) h = rw (those_none has n (λ i l. h i (omega arith)), h n (omega arith))

pub those_of_set : (has : ℕ → Bool) (n : ℕ) → those (has_bit (set_of has n)) n ≡ those has n
those_of_set has n = those_same (has_bit (set_of has n)) has n (bit_of_set has n)

-- what is filled with the zooms of a number, where the number is a set
pub zooms_filled : (has : ℕ → Bool) {set : ℕ} (memory : List ℕ) {after : List ℕ} → set ≡ set_of has (suc last_zoom)
    → after ≡ those (has_bit set) (suc last_zoom) ++ drop (length (those (has_bit set) (suc last_zoom))) memory
    → after ≡ those has (suc last_zoom) ++ drop (length (those has (suc last_zoom))) memory
zooms_filled has memory e f = f ∙ (rw e (ap (λ (l : List ℕ). l ++ drop (length l) memory) (those_of_set has (suc last_zoom))))

-- the numbers that pass are in the list, and no others
pub in_those : (has : ℕ → Bool) (n z : ℕ) → z < n → has z ≡ true → Memᴰ z (those has n)
unfolding those
in_those has zero z h e = absurd (omega arith)
in_those has (suc n) z h e = pick (dec_lt z n) (λ l. in_those has n z l e)
  where
    pick : Dec (z < n) → (z < n → Memᴰ z (those has n)) → Memᴰ z (those has n ++ cond (has n) (n ∷ []) [])
    pick (yes l) below = Memᴰ.append_left (cond (has n) (n ∷ []) []) (below l)
    pick (no l) below = let d : z ≡ n = omega arith in rw (← d, e) (Memᴰ.append_right (those has z) (Memᴰ.head refl))

pub those_in : (has : ℕ → Bool) (n z : ℕ) → Memᴰ z (those has n) → (z < n) × (has z ≡ true)
unfolding those
those_in has zero z m = absurd (Memᴰ.not-nil m)
those_in has (suc n) z m = pick (has n) refl (Memᴰ.append_cases (those has n) m) (those_in has n z)
  where
    pick : (b : Bool) → has n ≡ b → Memᴰ z (those has n) ⊎ Memᴰ z (cond b (n ∷ []) [])
        → (Memᴰ z (those has n) → (z < n) × (has z ≡ true)) → (z < suc n) × (has z ≡ true)
    pick b e (inl i) below = let s = below i in (omega (arith, s.0), s.1)
    pick true e (inr i) below = let d = Memᴰ.eq_of_singleton i in (omega (arith, d), rw d e)
    pick false e (inr i) below = absurd (Memᴰ.not-nil i)

-- a test that is the same for all numbers
pub those_and : (has : ℕ → Bool) (b : Bool) (n : ℕ) → those (λ i. has i && b) n ≡ cond b (those has n) []
those_and has true n = those_same (λ i. has i && true) has n (λ i l. and-true (has i))
those_and has false n = those_none (λ i. has i && false) n (λ i l. and-false (has i))

-- the numbers from a to b, by one more
pub from_to_one : (a : ℕ) → from_to a a ≡ a ∷ []
unfolding from_to
from_to_one a =
    those_with (between a a) a (rw (le-leb a a (le_refl a)))
    ∙ ap (λ (l : List ℕ). l ++ (a ∷ [])) (those_none (between a a) a (λ i l. rw (lt-leb a i l)))

pub from_to_more : (a b : ℕ) → a ≤ suc b → from_to a (suc b) ≡ from_to a b ++ (suc b ∷ [])
unfolding from_to
from_to_more a b h =
    those_with (between a (suc b)) (suc b) (rw (le-leb a (suc b) h, le-leb (suc b) (suc b) (le_refl (suc b))))
    ∙ ap (λ (l : List ℕ). l ++ (suc b ∷ []))
    (those_same (between a (suc b)) (between a b) (suc b) (λ i l. rw (le-leb i (suc b) (omega arith), le-leb i b (omega arith))))
