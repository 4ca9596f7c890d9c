-- Powers of two within a width of w bits, and past it; shifts down and up again.
use Rattle.std.specs.Prelude.{◌≡◌, ℕ, ◌-◌, ◌*◌, ◌/◌, ◌%◌, ◌^◌, ◌≤◌, ◌<◌}
use Rattle.std.proofs.Common.{sym, ap, ◌∙◌, mod-eq_of_lt, sub-add_cancel, arith, pow-add}
use Rattle.std.proofs.Math.Nat.{mul-mod_left}
use Rattle.std.proofs.Math.Pow.{pow-lt, split}

pub pow_within : (k w : ℕ) → k < w → 2 ^ k % 2 ^ w ≡ 2 ^ k
pow_within k w h = mod-eq_of_lt (pow-lt h)

pub pow_past : (k w : ℕ) → w ≤ k → 2 ^ k % 2 ^ w ≡ 0
pow_past k w h = ap (λ (n : ℕ). 2 ^ n % 2 ^ w) (sym (sub-add_cancel h))
    ∙ (ap (λ (n : ℕ). n % 2 ^ w) (pow-add 2 (k - w) w) ∙ mul-mod_left (2 ^ (k - w)) (2 ^ w))

-- what is shifted down and up again still fits, and leaves the low bits
pub high_part : (n k w : ℕ) → n < 2 ^ w → n / 2 ^ k * 2 ^ k % 2 ^ w ≡ n / 2 ^ k * 2 ^ k
high_part n k w h = mod-eq_of_lt (omega (arith, split n k))

pub high_part_below : (n k w : ℕ) → n < 2 ^ w → n / 2 ^ k * 2 ^ k % 2 ^ w ≤ n
high_part_below n k w h = omega (arith, split n k, high_part n k w h)

pub low_part : (n k w : ℕ) → n < 2 ^ w → n - n / 2 ^ k * 2 ^ k % 2 ^ w ≡ n % 2 ^ k
low_part n k w h = omega (arith, split n k, high_part n k w h)
