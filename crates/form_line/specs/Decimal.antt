-- Numbers as they are printed: decimal digits, the top one first, none of them a leading zero.
use Rattle.std.specs.Prelude.{◌≡◌, refl, cond, List, [], ◌∷◌, ◌++◌, ℕ, zero, suc, ◌+◌, ◌-◌, ◌*◌, ◌/◌, ◌%◌, ◌≤◌, ◌<◌, ltb, length, get_or}
use Rattle.std.proofs.Common.{ap, ◌∙◌, arith, length-append, lt-ltb, le-ltb}
use Rattle.std.proofs.Math.Decide.{dec_lt}
use Rattle.std.proofs.Math.ListN.{get_or-append}

-- the digits of n, if `fuel` is above n
unfoldable pub decimal_within : ℕ → ℕ → List ℕ
decimal_within zero n = []
decimal_within (suc fuel) n = cond (ltb n 10) ((48 + n) ∷ []) (decimal_within fuel (n / 10) ++ ((48 + n % 10) ∷ []))

unfoldable pub decimal : ℕ → List ℕ
decimal n = decimal_within (suc n) n

pub decimal_digit : (n : ℕ) → n < 10 → decimal n ≡ (48 + n) ∷ []
unfolding decimal decimal_within
decimal_digit n h = rw (lt-ltb _ _ h)

-- more fuel than enough makes no difference
same_digits : (f g n : ℕ) → n < f → n < g → decimal_within f n ≡ decimal_within g n
unfolding decimal_within
same_digits zero g n h k = absurd (omega arith)
same_digits (suc f) zero n h k = absurd (omega arith)
same_digits (suc f) (suc g) n h k = pick (dec_lt n 10) (same_digits f g (n / 10))
  where
    pick : Dec (n < 10) → (n / 10 < f → n / 10 < g → decimal_within f (n / 10) ≡ decimal_within g (n / 10))
        → decimal_within (suc f) n ≡ decimal_within (suc g) n
    pick (yes l) below = rw (lt-ltb n 10 l)
    pick (no l) below = let m : 10 ≤ n = omega arith in rw (le-ltb n 10 m, below (omega arith) (omega arith))

-- the last digit stands behind those of a tenth
pub decimal_more : (n : ℕ) → 10 ≤ n → decimal n ≡ decimal (n / 10) ++ ((48 + n % 10) ∷ [])
unfolding decimal decimal_within
decimal_more n h = rw (le-ltb n 10 h)
    (ap (λ (l : List ℕ). l ++ ((48 + n % 10) ∷ [])) (same_digits n (suc (n / 10)) (n / 10) (omega arith) (omega arith)))

pub decimal_tenth : (n : ℕ) → 10 ≤ n → length (decimal n) ≡ length (decimal (n / 10)) + 1
decimal_tenth n h = ap length (decimal_more n h) ∙ length-append (decimal (n / 10)) ((48 + n % 10) ∷ [])

-- a number below 1,000 has three digits at most
pub decimal_short : (n : ℕ) → n < 1000 → length (decimal n) ≤ 3
decimal_short n h = pick (dec_lt n 10) (dec_lt n 100)
  where
    few : (n : ℕ) → n < 10 → length (decimal n) ≡ 1
    few n l = ap length (decimal_digit n l)

    pick : Dec (n < 10) → Dec (n < 100) → length (decimal n) ≤ 3
    pick (yes a) b = omega (arith, few n a)
    pick (no a) (yes b) = omega (arith, decimal_tenth n (omega arith), few (n / 10) (omega arith))
    pick (no a) (no b) = omega (arith, decimal_tenth n (omega arith), decimal_tenth (n / 10) (omega arith), few (n / 10 / 10) (omega arith))

-- the number that decimal digits say, behind those that say a
unfoldable pub says_behind : ℕ → List ℕ → ℕ
says_behind a [] = a
says_behind a (b ∷ bs) = says_behind (a * 10 + (b - 48)) bs

says_append : (a : ℕ) (s t : List ℕ) → says_behind a (s ++ t) ≡ says_behind (says_behind a s) t
unfolding says_behind
says_append a [] t = refl
says_append a (b ∷ s) t = says_append (a * 10 + (b - 48)) s t

-- the digits of a number say it, and the first of them is no zero, except of 0 itself
says_within : (fuel n : ℕ) → n < fuel → says_behind 0 (decimal_within fuel n) ≡ n
unfolding decimal_within says_behind
says_within zero n h = absurd (omega arith)
says_within (suc fuel) n h = pick (dec_lt n 10) (says_within fuel (n / 10))
  where
    pick : Dec (n < 10) → (n / 10 < fuel → says_behind 0 (decimal_within fuel (n / 10)) ≡ n / 10)
        → says_behind 0 (decimal_within (suc fuel) n) ≡ n
    pick (yes l) below = rw (lt-ltb n 10 l) (omega arith)
    pick (no l) below =
        let m : 10 ≤ n = omega arith in
        rw (le-ltb n 10 m, says_append 0 (decimal_within fuel (n / 10)) ((48 + n % 10) ∷ []), below (omega arith)) (omega arith)

leads_within : (fuel n : ℕ) → n < fuel → 0 < n → (48 < get_or (decimal_within fuel n) 0 0) × (0 < length (decimal_within fuel n))
unfolding decimal_within
leads_within zero n h k = absurd (omega arith)
leads_within (suc fuel) n h k = pick (dec_lt n 10) (leads_within fuel (n / 10))
  where
    Leads : List ℕ → Type 0
    Leads l = (48 < get_or l 0 0) × (0 < length l)

    pick : Dec (n < 10) → (n / 10 < fuel → 0 < n / 10 → Leads (decimal_within fuel (n / 10))) → Leads (decimal_within (suc fuel) n)
    pick (yes l) below = rw (lt-ltb n 10 l) (omega arith, omega arith)
    pick (no l) below =
        let m : 10 ≤ n = omega arith in
        let tenth = below (omega arith) (omega arith) in
        rw (le-ltb n 10 m) (
          rw (get_or-append (decimal_within fuel (n / 10)) ((48 + n % 10) ∷ []) 0 0 tenth.1) tenth.0,
          omega (arith, length-append (decimal_within fuel (n / 10)) ((48 + n % 10) ∷ []), tenth.1),
        )

pub decimal_says : (n : ℕ) → says_behind 0 (decimal n) ≡ n
unfolding decimal
decimal_says n = says_within (suc n) n (omega arith)

pub no_leading_zero : (n : ℕ) → 0 < n → 48 < get_or (decimal n) 0 0
unfolding decimal
no_leading_zero n h = (leads_within (suc n) n (omega arith) h).0
