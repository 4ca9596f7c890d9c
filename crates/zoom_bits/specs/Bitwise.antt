-- The bits of a number one by one: below a bound and past its length, and what `and`, `or`, `xor` and shifts by one do to them.
use Rattle.std.specs.Prelude.{◌≡◌, refl, Bool, false, cond, not, ◌&&◌, ◌||◌, ℕ, zero, suc, ◌+◌, ◌-◌, ◌*◌, ◌/◌, ◌%◌, ◌^◌, ◌≤◌, ◌<◌, min, max, eqb}
use Rattle.std.proofs.Common.{sym, ap, ◌∙◌, subst, mod-lt, zero-lt-suc, one-add, arith, pow_mono, shr_lt, shr-shr}
use Rattle.std.proofs.Math.Nat.{mul-add-mod_self_right}
use Rattle.std.proofs.Math.Pow.{field, mod-mod-pow}
use Rattle.std.proofs.lemmas.Nat.{shl-shr, and_shr, or_shr, xor_shr}
use Rattle.std.specs.Int.Bits.{bit_and, bit_or, bit_xor, differ, and_step, or_step, xor_step}
use Rattle.zoom_bits.specs.Bits.{has_bit}

-- a digit 0 or 1, as a test and as a factor
pub digit_times : (d p : ℕ) → d < 2 → cond (eqb d 1) p 0 ≡ d * p
digit_times zero p h = sym (omega arith)
digit_times (suc zero) p h = omega arith
digit_times (suc (suc d)) p h = absurd (omega arith)

pub bit_times : (a i p : ℕ) → cond (has_bit a i) p 0 ≡ a / 2 ^ i % 2 * p
unfolding has_bit
bit_times a i p = digit_times (a / 2 ^ i % 2) p (mod-lt (a / 2 ^ i) (zero-lt-suc 1))

-- lower bits are those of the remainder
pub bit_low : (a n i : ℕ) → i < n → has_bit (a % 2 ^ n) i ≡ has_bit a i
unfolding has_bit
bit_low a n i h = ap (λ (x : ℕ). eqb x 1) (sym (field (a % 2 ^ n) 1 i) ∙ ap (λ (x : ℕ). x / 2 ^ i) same ∙ field a 1 i)
  where
    fits : n ≡ (n - (1 + i)) + (1 + i)
    fits = omega arith

    same : a % 2 ^ n % 2 ^ (1 + i) ≡ a % 2 ^ (1 + i)
    same = ap (λ (x : ℕ). a % 2 ^ x % 2 ^ (1 + i)) fits ∙ mod-mod-pow a (n - (1 + i)) (1 + i)

-- a number has no bit past its length
pub bit_past : (a n i : ℕ) → a < 2 ^ n → n ≤ i → has_bit a i ≡ false
unfolding has_bit
bit_past a n i h l = ap (λ (x : ℕ). eqb (x % 2) 1) none
  where
    fits : (0 + i) ≡ i
    fits = omega arith

    small : a / 2 ^ i < 2 ^ 0
    small = shr_lt 0 i (subst (λ (x : ℕ). a < 2 ^ x) (sym fits) (omega (arith, pow_mono l)))

    none : a / 2 ^ i ≡ 0
    none = omega (arith, small)

-- what holds of each pair of digits
digits : (P : ℕ → ℕ → Type 0) → P 0 0 → P 0 1 → P 1 0 → P 1 1 → (d e : ℕ) → d < 2 → e < 2 → P d e
digits P a b c f zero zero h k = a
digits P a b c f zero (suc zero) h k = b
digits P a b c f (suc zero) zero h k = c
digits P a b c f (suc zero) (suc zero) h k = f
digits P a b c f (suc (suc d)) e h k = absurd (omega arith)
digits P a b c f zero (suc (suc e)) h k = absurd (omega arith)
digits P a b c f (suc zero) (suc (suc e)) h k = absurd (omega arith)

-- an operation that goes digit by digit, on one bit
module _ (op : ℕ → ℕ → ℕ) (f : ℕ → ℕ → ℕ) (g : Bool → Bool → Bool)
    (shr : (a b k : ℕ) → op a b / 2 ^ k ≡ op (a / 2 ^ k) (b / 2 ^ k))
    (step : (a b : ℕ) → op a b ≡ op (a / 2) (b / 2) * 2 + f (a % 2) (b % 2))
    (small : (d e : ℕ) → d < 2 → e < 2 → eqb (f d e % 2) 1 ≡ g (eqb d 1) (eqb e 1)) where
  low_bit : (a b : ℕ) → eqb (op a b % 2) 1 ≡ g (eqb (a % 2) 1) (eqb (b % 2) 1)
  low_bit a b =
      rw (step a b, mul-add-mod_self_right (op (a / 2) (b / 2)) 2 (f (a % 2) (b % 2)))
      (small (a % 2) (b % 2) (mod-lt a (zero-lt-suc 1)) (mod-lt b (zero-lt-suc 1)))

  bit_of_op : (a b i : ℕ) → has_bit (op a b) i ≡ g (has_bit a i) (has_bit b i)
  unfolding has_bit
  bit_of_op a b i = rw (shr a b i) (low_bit (a / 2 ^ i) (b / 2 ^ i))

pub bit_and_lem : (a b i : ℕ) → has_bit (bit_and a b) i ≡ has_bit a i && has_bit b i
bit_and_lem =
    bit_of_op bit_and min (λ (x y : Bool). x && y) and_shr and_step
    (digits (λ d e. eqb (min d e % 2) 1 ≡ eqb d 1 && eqb e 1) refl refl refl refl)

pub bit_or_lem : (a b i : ℕ) → has_bit (bit_or a b) i ≡ has_bit a i || has_bit b i
bit_or_lem =
    bit_of_op bit_or max (λ (x y : Bool). x || y) or_shr or_step
    (digits (λ d e. eqb (max d e % 2) 1 ≡ eqb d 1 || eqb e 1) refl refl refl refl)

pub bit_xor_lem : (a b i : ℕ) → has_bit (bit_xor a b) i ≡ cond (has_bit a i) (not (has_bit b i)) (has_bit b i)
bit_xor_lem =
    bit_of_op bit_xor differ (λ (x y : Bool). cond x (not y) y) xor_shr xor_step
    (digits (λ d e. eqb (differ d e % 2) 1 ≡ cond (eqb d 1) (not (eqb e 1)) (eqb e 1)) refl refl refl refl)

-- shifts by one
pub bit_half : (a i : ℕ) → has_bit (a / 2) i ≡ has_bit a (suc i)
unfolding has_bit
bit_half a i = ap (λ (x : ℕ). eqb (x % 2) 1) (shr-shr a 1 i ∙ ap (λ (x : ℕ). a / 2 ^ x) (one-add i))

pub bit_double : (a i : ℕ) → has_bit (a * 2) (suc i) ≡ has_bit a i
bit_double a i = sym (bit_half (a * 2) i) ∙ ap (λ (x : ℕ). has_bit x i) (shl-shr a 1)

pub bit_even : (a : ℕ) → has_bit (a * 2) 0 ≡ false
unfolding has_bit
bit_even a = let e : a * 2 / 2 ^ 0 % 2 ≡ 0 = omega arith in rw e
