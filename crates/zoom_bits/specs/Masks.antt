-- The masks that the Rust reads a bit by, in 32 bits.
use Rattle.std.specs.Prelude.{◌≡◌, refl, Bool, true, false, cond, not, ◌&&◌, ℕ, suc, ◌%◌, ◌^◌, ◌<◌, eqb}
use Rattle.std.proofs.Common.{sym, ap, ◌∙◌, lt_of_le_of_lt, le_refl, arith, pow_pos, eq-eqb, ne_eqb}
use Rattle.std.proofs.Math.Bool.{and-false}
use Rattle.std.proofs.Math.Decide.{dec_lt}
use Rattle.std.specs.Int.Bits.{bit_and}
use Rattle.std.proofs.lemmas.Nat.{and_le_r}
use Rattle.std.proofs.Math.Pow.{pow-lt}
use Rattle.bits.specs.Powers.{pow_within}
use Rattle.zoom_bits.specs.Bits.{has_bit}
use Rattle.zoom_bits.specs.Bitwise.{bit_past, bit_and_lem}
use Rattle.zoom_bits.specs.Sets.{same_bits, bit_of_power}

-- 1 << i
abbrev pub mask : ℕ → ℕ
mask i = 2 ^ i % 2 ^ 32

-- zset & (1 << i) != 0
abbrev pub masked : ℕ → ℕ → Bool
masked zset i = not (eqb (bit_and zset (mask i)) 0)

no_bits : (i : ℕ) → has_bit 0 i ≡ false
no_bits i = bit_past 0 0 i (omega arith) (omega arith)

mask_one : (a i k : ℕ) → has_bit (bit_and a (2 ^ i)) k ≡ has_bit a k && eqb k i
mask_one a i k = bit_and_lem a (2 ^ i) k ∙ ap (λ (b : Bool). has_bit a k && b) (bit_of_power i k)

-- the mask's value is the bit's power, or 0
mask_of : (a i : ℕ) (b : Bool) → has_bit a i ≡ b → bit_and a (2 ^ i) ≡ cond b (2 ^ i) 0
mask_of a i b e =
    same_bits (bit_and a (2 ^ i)) (cond b (2 ^ i) 0) (suc i) (lt_of_le_of_lt (and_le_r a (2 ^ i)) (pow-lt (le_refl (suc i)))) (small b)
    (λ k l. mask_one a i k ∙ bit b e k (dec_lt k i) l)
  where
    small : (b : Bool) → cond b (2 ^ i) 0 < 2 ^ suc i
    small true = pow-lt (le_refl (suc i))
    small false = pow_pos (suc i)

    bit : (b : Bool) → has_bit a i ≡ b → (k : ℕ) → Dec (k < i) → k < suc i → (has_bit a k && eqb k i) ≡ has_bit (cond b (2 ^ i) 0) k
    bit true e k (yes l) h =
        rw (ne_eqb k i (λ d. omega arith), and-false (has_bit a k)) (sym (bit_of_power i k ∙ ne_eqb k i (λ d. omega arith)))
    bit true e k (no l) h = let d : k ≡ i = omega arith in rw (d, e, eq-eqb i i refl) (sym (bit_of_power i i ∙ eq-eqb i i refl))
    bit false e k (yes l) h = rw (ne_eqb k i (λ d. omega arith), and-false (has_bit a k)) (sym (no_bits k))
    bit false e k (no l) h = let d : k ≡ i = omega arith in rw (d, e) (sym (no_bits i))

pub masked_is : (a i : ℕ) → i < 32 → masked a i ≡ has_bit a i
masked_is a i h = pick (has_bit a i) refl
  where
    pick : (b : Bool) → has_bit a i ≡ b → masked a i ≡ b
    pick true e = rw (pow_within i 32 h, mask_of a i true e, ne_eqb (2 ^ i) 0 (λ z. omega (arith, pow_pos i)))
    pick false e = rw (pow_within i 32 h, mask_of a i false e)
