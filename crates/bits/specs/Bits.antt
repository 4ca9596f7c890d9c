-- The bits of a number.
use Rattle.std.specs.Prelude.{◌≡◌, ℕ, zero, suc, ◌+◌, ◌-◌, ◌*◌, ◌/◌, ◌%◌, ◌^◌, ◌<◌}
use Rattle.std.proofs.Common.{sym, ap, ◌∙◌, mod-eq_of_lt, sub-add_cancel, pow-suc, div-one, one-add, arith, pow-add, shr-shr}
use Rattle.std.proofs.Math.Nat.{add-mul-mod_self_right}
use Rattle.std.specs.Int.Bits.{bit_and}
use Rattle.std.proofs.lemmas.Nat.Bits.{and_high}
use Rattle.std.proofs.lemmas.Nat.{mod-pow-add}
use Rattle.std.proofs.Math.Pow.{high, field}

-- bit i of n: 0 or 1
abbrev pub bit : ℕ → ℕ → ℕ
bit n i = n / 2 ^ i % 2

pub bit_small : (n i : ℕ) → bit n i < 2
bit_small n i = omega arith

-- the bits of a number shifted down are its upper bits
pub bit_shift : (n k i : ℕ) → bit (n / 2 ^ k) i ≡ bit n (k + i)
bit_shift n k i = ap (λ (m : ℕ). m % 2) (shr-shr n k i)

-- one bit more
pub low_bits_suc : (n i : ℕ) → n % 2 ^ suc i ≡ bit n i * 2 ^ i + n % 2 ^ i
low_bits_suc n i = ap (λ (m : ℕ). n % 2 ^ m) (sym (one-add i)) ∙ mod-pow-add n 1 i

-- a number above k low bits: the lowest of its own bits, and the low bits
pub bit_at_seam : (b k r : ℕ) → b < 2 → r < 2 ^ k → bit (b * 2 ^ k + r) k ≡ b
bit_at_seam b k r l h = rw (high b k h) (mod-eq_of_lt l)

-- a bit is one of the low bits up to its own
pub bit_of_low : (n i : ℕ) → bit n i ≡ n % 2 ^ (1 + i) / 2 ^ i
bit_of_low n i = sym (field n 1 i)

-- what stands above the bits is in none of them
pub bit_below : (c n x i : ℕ) → i < n → bit (c * 2 ^ n + x) i ≡ bit x i
bit_below c n x i h = bit_of_low (c * 2 ^ n + x) i ∙ (ap (λ (m : ℕ). m / 2 ^ i) same ∙ sym (bit_of_low x i))
  where
    k : ℕ
    k = n - (1 + i)

    power : 2 ^ n ≡ 2 ^ k * 2 ^ (1 + i)
    power = ap (λ (m : ℕ). 2 ^ m) (sym (sub-add_cancel (rw one-add h))) ∙ pow-add 2 k (1 + i)

    regroup : c * 2 ^ n + x ≡ x + c * 2 ^ k * 2 ^ (1 + i)
    regroup = ap (λ (m : ℕ). c * m + x) power ∙ omega arith

    same : (c * 2 ^ n + x) % 2 ^ (1 + i) ≡ x % 2 ^ (1 + i)
    same = ap (λ (m : ℕ). m % 2 ^ (1 + i)) regroup ∙ add-mul-mod_self_right x (c * 2 ^ k) (2 ^ (1 + i))

-- a bit of a number of w bits that is taken from the largest of w bits: the other one
pub bit_complement : (w n i : ℕ) → n < 2 ^ w → i < w → bit (2 ^ w - 1 - n) i ≡ 1 - bit n i
bit_complement zero n i h l = absurd (omega arith)
bit_complement (suc w) n zero h l =
    let h : n < 2 ^ w * 2 = rw pow-suc at h in
    rw (pow-suc 2 w, div-one (2 ^ w * 2 - 1 - n), div-one n) (omega arith)
bit_complement (suc w) n (suc i) h l =
    let h : n < 2 ^ w * 2 = rw pow-suc at h in
    let half : (2 ^ w * 2 - 1 - n) / 2 ≡ 2 ^ w - 1 - n / 2 = omega arith in
    rw (pow-suc 2 w, ← one-add i, ← bit_shift (2 ^ w * 2 - 1 - n) 1 i, ← bit_shift n 1 i, half)
    (bit_complement w (n / 2) i (omega arith) (omega arith))

-- a number under the mask of one bit
pub bit_masked : (n i : ℕ) → bit_and n (2 ^ i) ≡ bit n i * 2 ^ i
bit_masked n i = let mask : 2 ^ (1 + i) - 2 ^ i ≡ 2 ^ i = rw (one-add i, pow-suc 2 i) (omega arith) in rw mask at (and_high n 1 i)
