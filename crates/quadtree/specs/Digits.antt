-- Groups of bits that move apart and together again: how the code makes a Morton code of a column and a row, and takes it apart.
use Rattle.std.specs.Prelude.{◌≡◌, refl, ℕ, zero, suc, ◌+◌, ◌-◌, ◌*◌, ◌/◌, ◌%◌, ◌^◌, ◌≤◌, ◌<◌}
use Rattle.std.proofs.Common.{sym, ap, ap₂, ◌∙◌, lt_of_lt_of_le, lt_of_le_of_lt, pow-suc, mod-lt, mod-eq_of_lt, mul-le-mul_right, mul-lt-mul_of_pos_right, arith, pow_pos, pow_mono, pow-add, shl_lt, shr-shr}
use Rattle.std.proofs.Math.Arith.{digits_lt, digits_div, digits_mod}
use Rattle.std.specs.Int.Bits.{bit_and, bit_or, and_zero_r, or_zero_r, or_shifted_r}
use Rattle.std.proofs.lemmas.Nat.{and_block, or_block, and_mask, or_lt, or_mod, mod-pow-add}
use Rattle.std.proofs.Math.Pow.{ones_lt, split}
use Rattle.quadtree.specs.Numbers.{morton_at, even_bits}

-- the c groups of w low bits of n, with w zeros above each group
unfoldable pub apart : ℕ → ℕ → ℕ → ℕ
apart w zero n = 0
apart w (suc c) n = apart w c (n / 2 ^ w) * 2 ^ (2 * w) + n % 2 ^ w

-- the places of these groups
unfoldable pub groups : ℕ → ℕ → ℕ
groups w zero = 0
groups w (suc c) = groups w c * 2 ^ (2 * w) + (2 ^ w - 1)

double_power : (w : ℕ) → 2 ^ (2 * w) ≡ 2 ^ w * 2 ^ w
double_power w = let e : 2 * w ≡ w + w = omega arith in rw e (pow-add 2 w w)

below_double : (w : ℕ) {a : ℕ} → a < 2 ^ w → (a < 2 ^ (2 * w)) × (a * 2 ^ w < 2 ^ (2 * w))
below_double w h = (lt_of_lt_of_le h (pow_mono (omega arith)), rw (double_power w) (mul-lt-mul_of_pos_right h (pow_pos w)))

-- a pair of groups
module _ (w hi lo : ℕ) (h : hi < 2 ^ w) (l : lo < 2 ^ w) where
  pair_apart : bit_and (bit_or (hi * 2 ^ w + lo) ((hi * 2 ^ w + lo) * 2 ^ w)) ((2 ^ w - 1) * 2 ^ (2 * w) + (2 ^ w - 1))
      ≡ hi * 2 ^ (2 * w) + lo
  pair_apart =
      let p = 2 ^ w in
      let o = 2 ^ w - 1 in
      let f = hi * p + lo in
      let d = double_power w in
      let shifted : f * p ≡ f * p + 0 = omega arith in
      let mask : o * 2 ^ (2 * w) + o ≡ (o * p + 0) * p + o = rw d (omega arith) in
      let bare : hi ≡ 0 * p + hi = omega arith in
      let upper : bit_or hi f ≡ hi * p + bit_or hi lo = ap (λ (n : ℕ). bit_or n f) bare ∙ or_block w 0 hi hi lo h l in
      let both : bit_and hi o * p + bit_and (bit_or hi lo) 0 ≡ hi * p + 0 =
      ap₂ (λ (m n : ℕ). m * p + n) (and_mask hi w ∙ mod-eq_of_lt h) (and_zero_r (bit_or hi lo)) in
      let blocks = and_block w hi o (bit_or hi lo) 0 (or_lt w hi lo h l) (pow_pos w) in
      let kept : bit_and (bit_or hi f) (o * p + 0) ≡ hi * p + 0 = ap (λ (n : ℕ). bit_and n (o * p + 0)) upper ∙ (blocks ∙ both) in
      ap₂ bit_and (ap (bit_or f) shifted ∙ (or_block w hi f lo 0 l (pow_pos w) ∙ ap (λ (n : ℕ). bit_or hi f * p + n) (or_zero_r lo))) mask
      ∙ (and_block w (bit_or hi f) (o * p + 0) lo o l (ones_lt w)
      ∙ (ap₂ (λ (m n : ℕ). m * p + n) kept (and_mask lo w ∙ mod-eq_of_lt l) ∙ rw d (omega arith)))

  pair_together : (u : ℕ) → bit_or (hi * 2 ^ (2 * w) + lo) (u * 2 ^ (2 * w) + hi * 2 ^ w) % 2 ^ (2 * w) ≡ hi * 2 ^ w + lo
  pair_together u =
      or_mod (hi * 2 ^ (2 * w) + lo) (u * 2 ^ (2 * w) + hi * 2 ^ w) (2 * w)
      ∙ (ap₂ bit_or (digits_mod hi (below_double w l).0) (digits_mod u (below_double w h).1) ∙ or_shifted_r hi w lo l)

-- two groups more

low_pair : (w n : ℕ) → n % 2 ^ (2 * w) ≡ n / 2 ^ w % 2 ^ w * 2 ^ w + n % 2 ^ w
low_pair w n = let e : 2 * w ≡ w + w = omega arith in rw e (mod-pow-add n w w)

apart_pair : (w c n : ℕ)
    → apart w (2 * suc c) n ≡ apart w (2 * c) (n / 2 ^ (2 * w)) * 2 ^ (2 * (2 * w)) + (n / 2 ^ w % 2 ^ w * 2 ^ (2 * w) + n % 2 ^ w)
unfolding apart
apart_pair w c n =
    let e : 2 * suc c ≡ suc (suc (2 * c)) = omega arith in
    let f : w + w ≡ 2 * w = omega arith in
    rw (e, shr-shr n w w, f, double_power (2 * w)) (omega arith)

groups_pair : (w c : ℕ) → groups w (2 * suc c) ≡ groups w (2 * c) * 2 ^ (2 * (2 * w)) + ((2 ^ w - 1) * 2 ^ (2 * w) + (2 ^ w - 1))
unfolding groups
groups_pair w c = let e : 2 * suc c ≡ suc (suc (2 * c)) = omega arith in rw (e, double_power (2 * w)) (omega arith)

-- groups of 2w bits move apart by w
move_apart : (w c n : ℕ) → bit_and (bit_or (apart (2 * w) c n) (apart (2 * w) c n * 2 ^ w)) (groups w (2 * c)) ≡ apart w (2 * c) n
unfolding apart groups
move_apart w zero n = and_zero_r (bit_or 0 (0 * 2 ^ w))
move_apart w (suc c) n =
    let k = 2 * (2 * w) in
    let v = apart (2 * w) c (n / 2 ^ (2 * w)) in
    let f = n % 2 ^ (2 * w) in
    let o = 2 ^ w - 1 in
    let small : f < 2 ^ (2 * w) = mod-lt n (pow_pos (2 * w)) in
    let low : f < 2 ^ k = (below_double (2 * w) small).0 in
    let shifted-low : f * 2 ^ w < 2 ^ k = lt_of_lt_of_le (shl_lt (2 * w) w small) (pow_mono (omega arith)) in
    let ones : o < 2 ^ (2 * w) = (below_double w (ones_lt w)).0 in
    let mask : o * 2 ^ (2 * w) + o < 2 ^ k = rw (double_power (2 * w)) (digits_lt ones ones) in
    let shifted : (v * 2 ^ k + f) * 2 ^ w ≡ v * 2 ^ w * 2 ^ k + f * 2 ^ w = omega arith in
    let pair = pair_apart w (n / 2 ^ w % 2 ^ w) (n % 2 ^ w) (mod-lt (n / 2 ^ w) (pow_pos w)) (mod-lt n (pow_pos w)) in
    ap₂ bit_and (ap (bit_or (v * 2 ^ k + f)) shifted ∙ or_block k v (v * 2 ^ w) f (f * 2 ^ w) low shifted-low) (groups_pair w c)
    ∙ (and_block k (bit_or v (v * 2 ^ w)) (groups w (2 * c)) (bit_or f (f * 2 ^ w)) (o * 2 ^ (2 * w) + o)
    (or_lt k f (f * 2 ^ w) low shifted-low) mask
    ∙ (ap₂ (λ (a b : ℕ). a * 2 ^ k + b) (move_apart w c (n / 2 ^ (2 * w))) (rw (low_pair w n) pair) ∙ sym (apart_pair w c n)))

-- all but the lowest group
group_off : (w a b h l : ℕ)
    → (a * 2 ^ w + b) * 2 ^ (2 * (2 * w)) + (h * 2 ^ (2 * w) + l)
    ≡ (a * 2 ^ (2 * (2 * w)) + (b * 2 ^ w * 2 ^ (2 * w) + h * 2 ^ w)) * 2 ^ w + l
group_off w a b h l = rw (double_power (2 * w), double_power w) (omega arith)

-- and together again
move_together : (w c n : ℕ) → bit_and (bit_or (apart w (2 * c) n) (apart w (2 * c) n / 2 ^ w)) (groups (2 * w) c) ≡ apart (2 * w) c n
unfolding apart groups
move_together w zero n = and_zero_r (bit_or 0 (0 / 2 ^ w))
move_together w (suc c) n =
    let k = 2 * (2 * w) in
    let v = apart w (2 * c) (n / 2 ^ (2 * w)) in
    let hi = n / 2 ^ w % 2 ^ w in
    let lo = n % 2 ^ w in
    let h : hi < 2 ^ w = mod-lt (n / 2 ^ w) (pow_pos w) in
    let l : lo < 2 ^ w = mod-lt n (pow_pos w) in
    let g = hi * 2 ^ (2 * w) + lo in
    let u = v % 2 ^ w * 2 ^ w in
    let r = u * 2 ^ (2 * w) + hi * 2 ^ w in
    let d = double_power (2 * w) in
    let below : g < 2 ^ k = rw d (digits_lt (below_double w h).0 (below_double w l).0) in
    let above : r < 2 ^ k = rw d (digits_lt (below_double w (mod-lt v (pow_pos w))).1 (below_double w h).1) in
    let whole : v * 2 ^ k + g ≡ (v / 2 ^ w * 2 ^ w + v % 2 ^ w) * 2 ^ k + g = ap (λ (m : ℕ). m * 2 ^ k + g) (sym (split v w)) in
    let parts : v * 2 ^ k + g ≡ (v / 2 ^ w * 2 ^ k + r) * 2 ^ w + lo = whole ∙ group_off w (v / 2 ^ w) (v % 2 ^ w) hi lo in
    let shifted : (v * 2 ^ k + g) / 2 ^ w ≡ v / 2 ^ w * 2 ^ k + r =
    ap (λ (m : ℕ). m / 2 ^ w) parts ∙ digits_div (v / 2 ^ w * 2 ^ k + r) l in
    let pair : bit_and (bit_or g r) (2 ^ (2 * w) - 1) ≡ n % 2 ^ (2 * w) =
    and_mask (bit_or g r) (2 * w) ∙ (pair_together w hi lo h l u ∙ sym (low_pair w n)) in
    ap (λ (m : ℕ). bit_and (bit_or m (m / 2 ^ w)) (groups (2 * w) (suc c))) (apart_pair w c n)
    ∙ (ap (λ (m : ℕ). bit_and m (groups (2 * w) (suc c))) (ap (bit_or (v * 2 ^ k + g)) shifted ∙ or_block k v (v / 2 ^ w) g r below above)
    ∙ (and_block k (bit_or v (v / 2 ^ w)) (groups (2 * w) c) (bit_or g r) (2 ^ (2 * w) - 1) (or_lt k g r below above)
    (below_double (2 * w) (ones_lt (2 * w))).0
    ∙ ap₂ (λ (a b : ℕ). a * 2 ^ k + b) (move_together w c (n / 2 ^ (2 * w))) pair))

-- how the groups begin and end

apart_one : (w n : ℕ) → n < 2 ^ w → apart w 1 n ≡ n
unfolding apart
apart_one w n h = rw (mod-eq_of_lt h) (omega arith)

apart_within : (w c n : ℕ) → apart w c n ≤ groups w c
unfolding apart groups
apart_within w zero n = omega arith
apart_within w (suc c) n = omega (arith, mul-le-mul_right (2 ^ (2 * w)) (apart_within w c (n / 2 ^ w)), mod-lt n (pow_pos w), pow_pos w)

even_small : (k n : ℕ) → even_bits k n < 2 ^ k
unfolding even_bits
even_small zero n = omega arith
even_small (suc k) n = rw (pow-suc 2 k) (omega (arith, even_small k (n / 4)))

even_groups : (c n : ℕ) → bit_and n (groups 1 c) ≡ apart 1 c (even_bits c n)
unfolding apart groups even_bits
even_groups zero n = and_zero_r n
even_groups (suc c) n =
    let e : (2 * even_bits c (n / 4) + n % 2) / 2 ≡ even_bits c (n / 4) = omega arith in
    let f : (2 * even_bits c (n / 4) + n % 2) % 2 ≡ n % 4 % 2 = omega arith in
    rw (e, f)
    (ap (λ (m : ℕ). bit_and m (groups 1 c * 4 + 1)) (sym (split n 2))
    ∙ (and_block 2 (n / 4) (groups 1 c) (n % 4) 1 (mod-lt n (pow_pos 2)) (omega arith)
    ∙ ap₂ (λ (a b : ℕ). a * 4 + b) (even_groups c (n / 4)) (and_mask (n % 4) 1)))

-- the steps of the code

abbrev pub up : ℕ → ℕ → ℕ → ℕ
up w mask v = bit_and (bit_or v (v * 2 ^ w % 2 ^ 64)) mask

abbrev pub down : ℕ → ℕ → ℕ → ℕ
down w mask v = bit_and (bit_or v (v / 2 ^ w)) mask

up_apart : (w c n : ℕ) → groups (2 * w) c * 2 ^ w < 2 ^ 64 → up w (groups w (2 * c)) (apart (2 * w) c n) ≡ apart w (2 * c) n
up_apart w c n h =
    let l : apart (2 * w) c n * 2 ^ w < 2 ^ 64 = lt_of_le_of_lt (mul-le-mul_right (2 ^ w) (apart_within (2 * w) c n)) h in
    rw (mod-eq_of_lt l) (move_apart w c n)

pub spread_steps : (n : ℕ) → n < 2 ^ 32
    → up 1 (groups 1 32) (up 2 (groups 2 16) (up 4 (groups 4 8) (up 8 (groups 8 4) (up 16 (groups 16 2) n)))) ≡ apart 1 32 n
unfolding groups
spread_steps n h =
    let a = ap (up 16 (groups 16 2)) (sym (apart_one 32 n h)) ∙ up_apart 16 1 n (omega arith) in
    let b = ap (up 8 (groups 8 4)) a ∙ up_apart 8 2 n (omega arith) in
    let c = ap (up 4 (groups 4 8)) b ∙ up_apart 4 4 n (omega arith) in
    let d = ap (up 2 (groups 2 16)) c ∙ up_apart 2 8 n (omega arith) in
    ap (up 1 (groups 1 32)) d ∙ up_apart 1 16 n (omega arith)

pub gather_steps : (n : ℕ)
    → down 16 (groups 32 1)
    (down 8 (groups 16 2) (down 4 (groups 8 4) (down 2 (groups 4 8) (down 1 (groups 2 16) (bit_and n (groups 1 32)))))) ≡ even_bits 32 n
gather_steps n =
    let e = even_bits 32 n in
    let a = ap (down 1 (groups 2 16)) (even_groups 32 n) ∙ move_together 1 16 e in
    let b = ap (down 2 (groups 4 8)) a ∙ move_together 2 8 e in
    let c = ap (down 4 (groups 8 4)) b ∙ move_together 4 4 e in
    let d = ap (down 8 (groups 16 2)) c ∙ move_together 8 2 e in
    ap (down 16 (groups 32 1)) d ∙ (move_together 16 1 e ∙ apart_one 32 e (even_small 32 n))

-- a Morton code is its leading 1 with the column and the row spread apart

none_apart : (k : ℕ) → apart 1 k 0 ≡ 0
unfolding apart
none_apart zero = refl
none_apart (suc k) = rw (none_apart k)

pub morton_apart : (x y z k : ℕ) → x < 2 ^ z → y < 2 ^ z → z ≤ k → morton_at x y z ≡ 4 ^ z + apart 1 k x + 2 * apart 1 k y
unfolding morton_at apart
morton_apart x y zero k h l m =
    let a : x ≡ 0 = omega arith in
    let b : y ≡ 0 = omega arith in
    rw (a, b, none_apart k)
morton_apart x y (suc z) zero h l m = absurd (omega arith)
morton_apart x y (suc z) (suc k) h l m =
    let h : x < 2 ^ z * 2 = rw (pow-suc 2 z) at h in
    let l : y < 2 ^ z * 2 = rw (pow-suc 2 z) at l in
    rw (pow-suc 4 z, morton_apart (x / 2) (y / 2) z k (omega arith) (omega arith) (omega arith)) (omega arith)
