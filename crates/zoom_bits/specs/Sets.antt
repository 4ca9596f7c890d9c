-- Numbers as sets of bits: a set has just the bits that it is made of, a number is the set of its bits. The sets of one number, of one
-- number more, and of a span.
use Rattle.std.specs.Prelude.{◌≡◌, refl, Bool, true, false, cond, ◌||◌, ℕ, zero, suc, ◌+◌, ◌*◌, ◌/◌, ◌%◌, ◌^◌, ◌≤◌, ◌<◌, eqb, leb}
use Rattle.std.proofs.Common.{sym, ap, ◌∙◌, add_comm, add-zero, zero-add, mod-eq_of_lt, pow-suc, le_refl, one-add, arith, eq-eqb, ne_eqb, le-leb}
use Rattle.std.proofs.Math.Bool.{and-false}
use Rattle.std.proofs.Math.Decide.{dec_le, dec_lt, le_ind}
use Rattle.std.proofs.Math.Pow.{pow-lt, high, low}
use Rattle.std.proofs.lemmas.Nat.{mod-pow-add, or_lt}
use Rattle.std.specs.Int.Bits.{bit_or}
use Rattle.std.proofs.lemmas.Bool.{lt-leb}
use Rattle.zoom_bits.specs.Bits.{has_bit, set_of, between}
use Rattle.zoom_bits.specs.Bitwise.{bit_times, bit_low, bit_past, bit_or_lem}

pub set_below : (has : ℕ → Bool) (n : ℕ) → set_of has n < 2 ^ n
unfolding set_of
set_below has zero = omega arith
set_below has (suc n) = pick (has n) (set_below has n)
  where
    pick : (b : Bool) → set_of has n < 2 ^ n → set_of has n + cond b (2 ^ n) 0 < 2 ^ suc n
    pick true h = omega (arith, pow-suc 2 n)
    pick false h = omega (arith, pow-suc 2 n)

-- the top bit of a set apart
set_split : (has : ℕ → Bool) (n : ℕ) → set_of has (suc n) ≡ cond (has n) 1 0 * 2 ^ n + set_of has n
unfolding set_of
set_split has n = pick (has n)
  where
    pick : (b : Bool) → set_of has n + cond b (2 ^ n) 0 ≡ cond b 1 0 * 2 ^ n + set_of has n
    pick true = omega arith
    pick false = omega arith

set_rest : (has : ℕ → Bool) (n : ℕ) → set_of has (suc n) % 2 ^ n ≡ set_of has n
set_rest has n = rw (set_split has n) (low (cond (has n) 1 0) n (set_below has n))

set_top : (has : ℕ → Bool) (n : ℕ) → has_bit (set_of has (suc n)) n ≡ has n
unfolding has_bit
set_top has n = rw (set_split has n, high (cond (has n) 1 0) n (set_below has n)) (pick (has n))
  where
    pick : (b : Bool) → eqb (cond b 1 0 % 2) 1 ≡ b
    pick true = refl
    pick false = refl

-- a set has just the bits that it is made of
pub bit_of_set : (has : ℕ → Bool) (n i : ℕ) → i < n → has_bit (set_of has n) i ≡ has i
bit_of_set has zero i h = absurd (omega arith)
bit_of_set has (suc n) i h = pick (dec_lt i n) (bit_of_set has n i)
  where
    pick : Dec (i < n) → (i < n → has_bit (set_of has n) i ≡ has i) → has_bit (set_of has (suc n)) i ≡ has i
    pick (yes l) rest = sym (bit_low (set_of has (suc n)) n i l) ∙ (ap (λ (x : ℕ). has_bit x i) (set_rest has n) ∙ rest l)
    pick (no l) rest = let e : i ≡ n = omega arith in rw e (set_top has n)

-- a number is the set of its bits
pub set_of_bits : (a n : ℕ) → set_of (has_bit a) n ≡ a % 2 ^ n
unfolding set_of
set_of_bits a zero = omega arith
set_of_bits a (suc n) =
    rw (set_of_bits a n, bit_times a n (2 ^ n))
    (add_comm (a % 2 ^ n) (a / 2 ^ n % 2 * 2 ^ n) ∙ sym (mod-pow-add a 1 n) ∙ ap (λ (x : ℕ). a % 2 ^ x) (one-add n))

pub set_same : (f g : ℕ → Bool) (n : ℕ) → ((i : ℕ) → i < n → f i ≡ g i) → set_of f n ≡ set_of g n
unfolding set_of
set_same f g zero h = refl
set_same f g (suc n) h = rw (set_same f g n (λ i l. h i (omega arith)), h n (omega arith))

-- two numbers of n bits with the same bits are one
pub same_bits : (a b n : ℕ) → a < 2 ^ n → b < 2 ^ n → ((i : ℕ) → i < n → has_bit a i ≡ has_bit b i) → a ≡ b
same_bits a b n ha hb h =
    sym (mod-eq_of_lt ha) ∙ (sym (set_of_bits a n) ∙ (set_same (has_bit a) (has_bit b) n h ∙ (set_of_bits b n ∙ mod-eq_of_lt hb)))

pub set_none : (has : ℕ → Bool) (n : ℕ) → ((i : ℕ) → i < n → has i ≡ false) → set_of has n ≡ 0
unfolding set_of
set_none has zero h = refl
set_none has (suc n) h = rw (set_none has n (λ i l. h i (omega arith)), h n (omega arith))

-- a power is the set of one number
pub set_of_one : (z n : ℕ) → z < n → set_of (λ i. eqb i z) n ≡ 2 ^ z
unfolding set_of
set_of_one z zero h = absurd (omega arith)
set_of_one z (suc n) h = pick (dec_lt z n) (set_of_one z n)
  where
    pick : Dec (z < n) → (z < n → set_of (λ i. eqb i z) n ≡ 2 ^ z) → set_of (λ i. eqb i z) n + cond (eqb n z) (2 ^ n) 0 ≡ 2 ^ z
    pick (yes l) rest = rw (rest l, ne_eqb n z (λ e. omega arith)) (add-zero (2 ^ z))
    pick (no l) rest = let e : n ≡ z = omega arith in
        rw (e, eq-eqb z z refl, set_none (λ i. eqb i z) z (λ i k. ne_eqb i z (λ d. omega arith))) (zero-add (2 ^ z))

pub bit_of_power : (z i : ℕ) → has_bit (2 ^ z) i ≡ eqb i z
bit_of_power z i = ap (λ (x : ℕ). has_bit x i) (sym (set_of_one z (suc (z + i)) (omega arith)))
    ∙ bit_of_set (λ k. eqb k z) (suc (z + i)) i (omega arith)

-- a number with one bit more
pub set_with : (has : ℕ → Bool) (z n : ℕ) → z < n → bit_or (set_of has n) (2 ^ z) ≡ set_of (λ i. has i || eqb i z) n
set_with has z n h =
    same_bits (bit_or (set_of has n) (2 ^ z)) (set_of (λ i. has i || eqb i z) n) n
    (or_lt n (set_of has n) (2 ^ z) (set_below has n) (pow-lt h)) (set_below (λ i. has i || eqb i z) n)
    (λ i l. bit_or_lem (set_of has n) (2 ^ z) i ∙ (rw (bit_of_set has n i l, bit_of_power z i, bit_of_set (λ i. has i || eqb i z) n i l) refl))

pub set_past : (has : ℕ → Bool) (m n : ℕ) → m ≤ n → ((i : ℕ) → m ≤ i → has i ≡ false) → set_of has n ≡ set_of has m
unfolding set_of
set_past has m n l h = le_ind (λ (k : ℕ). set_of has k ≡ set_of has m) refl (λ k i e. rw (e, h k i) (add-zero (set_of has m))) n l

-- the numbers from a to b
span_up : (a b n : ℕ) → a ≤ n → n ≤ suc b → set_of (between a b) n + 2 ^ a ≡ 2 ^ n
unfolding set_of
span_up a b zero h l = let e : a ≡ 0 = omega arith in rw e
span_up a b (suc n) h l = pick (dec_le a n) (span_up a b n)
  where
    pick : Dec (a ≤ n) → (a ≤ n → n ≤ suc b → set_of (between a b) n + 2 ^ a ≡ 2 ^ n)
        → set_of (between a b) n + cond (between a b n) (2 ^ n) 0 + 2 ^ a ≡ 2 ^ suc n
    pick (yes k) rest = rw (le-leb a n k, le-leb n b (omega arith)) (omega (arith, rest k (omega arith), pow-suc 2 n))
    pick (no k) rest = let e : a ≡ suc n = omega arith in
        rw (set_none (between a b) n (λ i j. rw (lt-leb a i (omega arith))), lt-leb a n (omega arith)) (rw e (zero-add (2 ^ suc n)))

pub set_of_span : (a b n : ℕ) → a ≤ b → b < n → set_of (between a b) n + 2 ^ a ≡ 2 ^ suc b
set_of_span a b n h l =
    rw (set_past (between a b) (suc b) n l (λ i j. rw (lt-leb i b j) (and-false (leb a i))))
    (span_up a b (suc b) (omega arith) (le_refl (suc b)))

pub set_of_empty_span : (a b n : ℕ) → b < a → set_of (between a b) n ≡ 0
set_of_empty_span a b n h = set_none (between a b) n (λ i l. pick i (dec_le a i))
  where
    pick : (i : ℕ) → Dec (a ≤ i) → between a b i ≡ false
    pick i (yes k) = rw (lt-leb i b (omega arith)) (and-false (leb a i))
    pick i (no k) = rw (lt-leb a i (omega arith))

-- the bits of a set beyond its bound as well, where the test fails there
pub bit_of_whole : (has : ℕ → Bool) (n : ℕ) → ((i : ℕ) → n ≤ i → has i ≡ false) → (i : ℕ) → has_bit (set_of has n) i ≡ has i
bit_of_whole has n h i = pick (dec_lt i n)
  where
    pick : Dec (i < n) → has_bit (set_of has n) i ≡ has i
    pick (yes l) = bit_of_set has n i l
    pick (no l) = bit_past (set_of has n) n i (set_below has n) (omega arith) ∙ sym (h i (omega arith))

pub set_more : (has : ℕ → Bool) (z : ℕ) → has z ≡ true → set_of has (suc z) ≡ set_of has z + 2 ^ z
unfolding set_of
set_more has z e = rw e

pub set_no_more : (has : ℕ → Bool) (z : ℕ) → has z ≡ false → set_of has (suc z) ≡ set_of has z
unfolding set_of
set_no_more has z e = rw e (add-zero (set_of has z))
