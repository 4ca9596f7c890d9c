-- The bytes of a key: which are digits, and whether all of a key's are.
use Rattle.std.specs.Prelude.{◌≡◌, refl, ◌↔◌, ◌⊎◌, Bool, true, false, ◌&&◌, List, [], ◌∷◌, ◌++◌, ℕ, zero, suc, ◌+◌, ◌-◌, ◌≤◌, ◌<◌, leb, length, drop, get_or}
use Rattle.std.proofs.Common.{subst, inl, inr, ⊎_elim, add-one, arith, drop_of_length-le, drop-cons, leb-true, leb-false}
use Rattle.std.proofs.lemmas.Bool.{lt-leb}
use Rattle.bits.specs.Tests.{and_parts}
use Rattle.quadkey.specs.Key.{is_digit, all_digits_of}

pub digit_bounds : (b : ℕ) → is_digit b ≡ true → (48 ≤ b) × (b ≤ 51)
digit_bounds b e = let p = and_parts (leb 48 b) (leb b 51) e in (leb-true _ _ p.0, leb-true _ _ p.1)

-- what holds of the four digits holds of each
pub by_digit : (P : ℕ → Type 0) → P 48 → P 49 → P 50 → P 51 → (b : ℕ) → is_digit b ≡ true → P b
by_digit P p q r s b e =
    let d = digit_bounds b e in
    let f : 48 + (b - 48) ≡ b = omega (arith, d.0) in
    subst P f (pick (b - 48) (omega (arith, d.1)))
  where
    pick : (k : ℕ) → k < 4 → P (48 + k)
    pick zero h = p
    pick (suc zero) h = q
    pick (suc (suc zero)) h = r
    pick (suc (suc (suc zero))) h = s
    pick (suc (suc (suc (suc k)))) h = absurd (omega arith)

pub digits_first : (b : ℕ) (bs : List ℕ) → all_digits_of (b ∷ bs) ≡ true → (is_digit b ≡ true) × (all_digits_of bs ≡ true)
unfolding all_digits_of
digits_first b bs e = and_parts (is_digit b) (all_digits_of bs) e

-- whether all bytes of two parts are digits
pub digits_append : (front back : List ℕ) → all_digits_of (front ++ back) ≡ all_digits_of front && all_digits_of back
unfolding all_digits_of
digits_append [] back = refl
digits_append (a ∷ front) back = rw (digits_append front back) (pick (is_digit a))
  where
    pick : (p : Bool) → p && (all_digits_of front && all_digits_of back) ≡ (p && all_digits_of front) && all_digits_of back
    pick true = refl
    pick false = refl

-- whether all bytes from place i on are digits, a byte at a time
pub rest_digit : (key : List ℕ) (i : ℕ) → i < length key → is_digit (get_or key i 0) ≡ true
    → all_digits_of (drop i key) ≡ all_digits_of (drop (i + 1) key)
unfolding all_digits_of
rest_digit key i h e = rw (add-one i, drop-cons key i 0 h, e)

pub rest_bad : (key : List ℕ) (i : ℕ) → i < length key → is_digit (get_or key i 0) ≡ false → all_digits_of (drop i key) ≡ false
unfolding all_digits_of
rest_bad key i h e = rw (drop-cons key i 0 h, e)

pub rest_none : (key : List ℕ) (i : ℕ) → length key ≤ i → all_digits_of (drop i key) ≡ true
unfolding all_digits_of
rest_none key i h = rw (drop_of_length-le key h)

pub digits_at : (key : List ℕ) (i : ℕ) → all_digits_of key ≡ true → i < length key → is_digit (get_or key i 0) ≡ true
digits_at [] i e h = absurd (omega arith)
digits_at (b ∷ bs) zero e h = (digits_first b bs e).0
digits_at (b ∷ bs) (suc i) e h = digits_at bs i (digits_first b bs e).1 (omega arith)

-- all bytes are digits if each is
pub all_digits : (key : List ℕ) → ((i : ℕ) → i < length key → is_digit (get_or key i 0) ≡ true) → all_digits_of key ≡ true
unfolding all_digits_of
all_digits [] h = refl
all_digits (b ∷ bs) h = rw (h 0 (omega arith), all_digits bs (λ i l. h (suc i) (omega arith)))

-- if not all are, one is not
pub some_bad : (key : List ℕ) → all_digits_of key ≡ false → (i : ℕ) × (i < length key) × (is_digit (get_or key i 0) ≡ false)
unfolding all_digits_of
some_bad [] e = let z : ◌≡◌ {A = ℕ} 0 1 = cc in absurd (omega arith)
some_bad (b ∷ bs) e = pick (is_digit b) refl e (some_bad bs)
  where
    pick : (p : Bool) → is_digit b ≡ p → p && all_digits_of bs ≡ false
        → (all_digits_of bs ≡ false → (i : ℕ) × (i < length bs) × (is_digit (get_or bs i 0) ≡ false))
        → (i : ℕ) × (i < length (b ∷ bs)) × (is_digit (get_or (b ∷ bs) i 0) ≡ false)
    pick false q e more = (0, omega arith, q)
    pick true q e more = let r = more e in (suc r.0, omega (arith, r.1), r.2)

pub digits_bad : (key : List ℕ) (i : ℕ) → i < length key → is_digit (get_or key i 0) ≡ false → all_digits_of key ≡ false
digits_bad key i h e = pick (all_digits_of key) refl
  where
    pick : (p : Bool) → all_digits_of key ≡ p → p ≡ false
    pick false q = refl
    pick true q = let d = digits_at key i q h in let z : ◌≡◌ {A = ℕ} 0 1 = cc in absurd (omega arith)

-- a byte that is no digit is below the digits or above them
pub digit_out : (b : ℕ) → is_digit b ≡ false ↔ (b < 48) ⊎ (51 < b)
digit_out b = (λ e. pick (leb 48 b) refl (leb b 51) refl e, ⊎_elim (λ l. rw (lt-leb _ _ l)) (λ g. rw (lt-leb _ _ g) (last (leb 48 b))))
  where
    pick : (p : Bool) → leb 48 b ≡ p → (q : Bool) → leb b 51 ≡ q → p && q ≡ false → (b < 48) ⊎ (51 < b)
    pick false p q r e = inl (leb-false _ _ p)
    pick true p false q e = inr (leb-false _ _ q)
    pick true p true q e = let z : ◌≡◌ {A = ℕ} 0 1 = cc in absurd (omega arith)

    last : (p : Bool) → p && false ≡ false
    last true = refl
    last false = refl
