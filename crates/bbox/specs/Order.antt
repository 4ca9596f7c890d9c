-- Laws of IEEE 754's comparisons: no NaN passes one; `le` is transitive, and total and reflexive but for NaN; what is at most another
-- is not above it.
use Rattle.std.specs.Prelude.{◌≡◌, Bool, true, false, not, ◌&&◌, ◌||◌, ◌⊎◌, ℕ, zero, suc, ◌+◌, ◌*◌, ◌<◌, ◌≤◌, T, leb, ltb, eqb, Float}
use Rattle.std.proofs.Common.{sym, ◌∙◌, inl, inr, le_trans, le_of_eq, le_of_lt, eq-or-lt_of_le, mul_right_comm, mul-le-mul_right, le_of_mul-le-mul_right, zero-mul, mul-pos, zero-lt-suc, arith, leb→le, lt→ltb, ltb→lt, eqb→eq}
use Rattle.std.proofs.Math.Dec.{nleb→lt, not_T}
use Rattle.std.specs.Float.{nan, inf, fin}
use Rattle.std.specs.Float.Ieee.{up, down, lt, eq, le, is_nan, below, level}
use Rattle.std.specs.Float.Ieee.Fits.{down_pos, and_l, and_r, and_i, eq→eqb}
use Rattle.bbox.specs.Laws.{or_left, or_right}

pub first_known : (x y : Float) → T (le x y) → T (not (is_nan x))
unfolding le is_nan
first_known (inf s) y h = tt
first_known (fin s m e) y h = tt
first_known nan y h = elim h [ ]

pub second_known : (x y : Float) → T (le x y) → T (not (is_nan y))
unfolding le is_nan
second_known x (inf s) h = tt
second_known x (fin s m e) h = tt
second_known (inf s) nan h = h
second_known (fin s m e) nan h = h
second_known nan nan h = elim h [ ]

pub lt_le : (x y : Float) → T (lt x y) → T (le x y)
unfolding le
lt_le x y h = or_left (lt x y) (eq x y) h

-- ---- two finite numbers, each a sign and a magnitude in the same unit

either : (p q : Bool) → T (p || q) → T p ⊎ T q
either true q h = inl tt
either false q h = inr h

-- ±a ≤ ±b
abbrev Le : Bool → ℕ → Bool → ℕ → Type 0
Le false a false b = a ≤ b
Le false a true b = (a ≡ 0) × (b ≡ 0)
Le true a false b = Unit {0}
Le true a true b = b ≤ a

read : (s : Bool) (a : ℕ) (t : Bool) (b : ℕ) → T (below s a t b || level s a t b) → Le s a t b
read false a false b h =
    elim (either (ltb a b) (eqb a b && true) h) [ inl p ↦ le_of_lt (ltb→lt a b p) | inr q ↦ le_of_eq (eqb→eq a b (and_l (eqb a b) true q)) ]
read false a true b h =
    let same = eqb→eq a b (and_l (eqb a b) (eqb a 0) h) in
    let zero = eqb→eq a 0 (and_r (eqb a b) (eqb a 0) h) in
    (zero, sym same ∙ zero)
read true a false b h = tt
read true a true b h =
    elim (either (ltb b a) (eqb a b && true) h) [
      | inl p ↦ le_of_lt (ltb→lt b a p)
      | inr q ↦ le_of_eq
          (sym (eqb→eq a b (and_l (eqb a b) true q)))
    ]

write : (s : Bool) (a : ℕ) (t : Bool) (b : ℕ) → Le s a t b → T (below s a t b || level s a t b)
write false a false b h =
    elim (eq-or-lt_of_le h) [
      | inl e ↦ or_right (ltb a b) (eqb a b && true) (and_i (eqb a b) true (eq→eqb e) tt)
      | inr l ↦ or_left (ltb a b)
          (eqb a b && true) (lt→ltb a b l)
    ]
write false a true b h = and_i (eqb a b) (eqb a 0) (eq→eqb (h.0 ∙ sym h.1)) (eq→eqb h.0)
write true zero false zero h = tt
write true zero false (suc b) h = or_left (ltb 0 (0 + suc b)) (level true 0 false (suc b)) (lt→ltb 0 (0 + suc b) (omega arith))
write true (suc a) false b h = or_left (ltb 0 (suc a + b)) (level true (suc a) false b) (lt→ltb 0 (suc a + b) (omega arith))
write true a true b h =
    elim (eq-or-lt_of_le h) [
      | inl e ↦ or_right (ltb b a) (eqb a b && true) (and_i (eqb a b) true (eq→eqb (sym e)) tt)
      | inr l ↦ or_left
          (ltb b a) (eqb a b && true) (lt→ltb b a l)
    ]

-- ---- fractions P / p, Q / q and R / r

-- P / p ≤ Q / q and Q / q ≤ R / r make P / p ≤ R / r
through : (P Q R p q r : ℕ) → 0 < q → P * q ≤ Q * p → Q * r ≤ R * q → P * r ≤ R * p
through P Q R p q r pos h k =
    le_of_mul-le-mul_right
    (le_trans (le_of_eq (mul_right_comm P r q))
    (le_trans (mul-le-mul_right r h)
    (le_trans (le_of_eq (mul_right_comm Q p r))
    (le_trans (mul-le-mul_right p k) (le_of_eq (mul_right_comm R q p))))))
    pos

-- a number that gives 0 times a positive one gives 0 times any
nought : (P p q : ℕ) → 0 < p → P * p ≡ 0 → P * q ≡ 0
nought zero p q pos h = zero-mul q
nought (suc P) p q pos h = let above : 0 < suc P * p = mul-pos (zero-lt-suc P) pos in absurd (omega arith)

-- signed: where the signs differ, only zeros are equal
trans_fin : (s t u : Bool) (P Q R p q r : ℕ) → 0 < p → 0 < q → 0 < r → Le s (P * q) t (Q * p) → Le t (Q * r) u (R * q)
    → Le s (P * r) u (R * p)
trans_fin false false false P Q R p q r pp pq pr h k = through P Q R p q r pq h k
trans_fin false false true P Q R p q r pp pq pr h k = (nought P q r pq (omega (arith, nought Q r p pr k.0)), nought R q p pq k.1)
trans_fin false true false P Q R p q r pp pq pr h k = omega (arith, nought P q r pq h.0)
trans_fin false true true P Q R p q r pp pq pr h k = (nought P q r pq h.0, nought R q p pq (omega (arith, nought Q p r pp h.1)))
trans_fin true false false P Q R p q r pp pq pr h k = tt
trans_fin true false true P Q R p q r pp pq pr h k = omega (arith, nought R q p pq k.1)
trans_fin true true false P Q R p q r pp pq pr h k = tt
trans_fin true true true P Q R p q r pp pq pr h k = through R Q P r q p pq k h

-- ---- the laws

pub le_through : (x y z : Float) → T (le x y) → T (le y z) → T (le x z)
unfolding le is_nan
le_through (inf true) y nan h k = second_known y nan k
le_through (inf true) y (inf true) h k = tt
le_through (inf true) y (inf false) h k = tt
le_through (inf true) y (fin u n f) h k = tt
le_through (inf false) (inf false) z h k = k
le_through (fin s m e) (inf false) (inf false) h k = tt
le_through (fin s m e) (fin t n d) (inf false) h k = tt
le_through (fin s m e) (fin t n d) (fin u l f) h k =
    write s (m * up e * down f) u (l * up f * down e)
    (trans_fin s t u (m * up e) (n * up d) (l * up f) (down e) (down d) (down f) (down_pos e) (down_pos d) (down_pos f)
    (read s (m * up e * down d) t (n * up d * down e) h)
    (read t (n * up d * down f) u (l * up f * down d) k))
le_through nan y z h k = elim h [ ]
le_through (inf false) nan z h k = elim h [ ]
le_through (inf false) (inf true) z h k = elim h [ ]
le_through (inf false) (fin t n d) z h k = elim h [ ]
le_through (fin s m e) nan z h k = elim h [ ]
le_through (fin s m e) (inf false) nan h k = elim k [ ]
le_through (fin s m e) (inf false) (inf true) h k = elim k [ ]
le_through (fin s m e) (inf false) (fin u n f) h k = elim k [ ]
le_through (fin s m e) (inf true) z h k = elim h [ ]
le_through (fin s m e) (fin t n d) nan h k = elim k [ ]
le_through (fin s m e) (fin t n d) (inf true) h k = elim k [ ]

not_below : (s : Bool) (a : ℕ) (t : Bool) (b : ℕ) → Le s a t b → T (not (below t b s a))
not_below false a false b h = not_T (ltb b a) (λ l. omega (arith, ltb→lt b a l))
not_below false a true b h = not_T (ltb 0 (b + a)) (λ l. omega (arith, ltb→lt 0 (b + a) l))
not_below true a false b h = tt
not_below true a true b h = not_T (ltb a b) (λ l. omega (arith, ltb→lt a b l))

pub le_not_above : (x y : Float) → T (le x y) → T (not (lt y x))
unfolding le
le_not_above (inf true) (inf true) h = tt
le_not_above (inf true) (inf false) h = tt
le_not_above (inf true) (fin t n d) h = tt
le_not_above (inf false) (inf false) h = tt
le_not_above (fin s m e) (inf false) h = tt
le_not_above (fin s m e) (fin t n d) h =
    not_below s (m * up e * down d) t (n * up d * down e) (read s (m * up e * down d) t (n * up d * down e) h)
le_not_above nan y h = elim h [ ]
le_not_above (inf false) nan h = elim h [ ]
le_not_above (inf false) (inf true) h = elim h [ ]
le_not_above (inf false) (fin t n d) h = elim h [ ]
le_not_above (inf true) nan h = elim h [ ]
le_not_above (fin s m e) nan h = elim h [ ]
le_not_above (fin s m e) (inf true) h = elim h [ ]

ordered : (a b : ℕ) → (a ≤ b) ⊎ (b ≤ a)
ordered a b = go (leb a b) (leb→le a b) (nleb→lt a b)
  where
    go : (t : Bool) → (T t → a ≤ b) → (T (not t) → b < a) → (a ≤ b) ⊎ (b ≤ a)
    go true f g = inl (f tt)
    go false f g = inr (le_of_lt (g tt))

total_fin : (s : Bool) (a : ℕ) (t : Bool) (b : ℕ) → Le s a t b ⊎ Le t b s a
total_fin false a false b = ordered a b
total_fin false a true b = inr tt
total_fin true a false b = inl tt
total_fin true a true b = ordered b a

pub le_either : (x y : Float) → T (not (is_nan x)) → T (not (is_nan y)) → T (le x y) ⊎ T (le y x)
unfolding le is_nan
le_either (inf true) (inf true) h k = inl tt
le_either (inf true) (inf false) h k = inl tt
le_either (inf false) (inf true) h k = inr tt
le_either (inf false) (inf false) h k = inl tt
le_either (inf true) (fin t n d) h k = inl tt
le_either (inf false) (fin t n d) h k = inr tt
le_either (fin s m e) (inf true) h k = inr tt
le_either (fin s m e) (inf false) h k = inl tt
le_either (fin s m e) (fin t n d) h k =
    let a = m * up e * down d in
    let b = n * up d * down e in
    elim (total_fin s a t b) [ inl p ↦ inl (write s a t b p) | inr q ↦ inr (write t b s a q) ]
le_either nan y h k = elim h [ ]
le_either (inf false) nan h k = elim k [ ]
le_either (inf true) nan h k = elim k [ ]
le_either (fin s m e) nan h k = elim k [ ]

pub le_itself : (x : Float) → T (not (is_nan x)) → T (le x x)
le_itself x h = elim (le_either x x h h) [ inl p ↦ p | inr q ↦ q ]

-- two stretches of which neither begins past the other's end have a number in common
pub common : (l h l' h' : Float) → T (le l h) → T (le l' h') → T (le l h') → T (le l' h)
    → (x : Float) × (T (le l x) × T (le x h) × T (le l' x) × T (le x h'))
common l h l' h' p p' q q' =
    elim (le_either l l' (first_known l h p) (first_known l' h' p')) [
      | inl e ↦ (l', (e, q', le_itself l' (first_known l' h' p'), p'))
      | inr e ↦ (l, (le_itself l (first_known l h p), p, e, q))
    ]
