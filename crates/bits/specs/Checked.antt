-- The Rust's unsigned arithmetic in a width of bits, with the checks of a debug build: the models of the Rust are written in it.
-- Where such a run returns a value, a build with fewer checks returns the same.
use Rattle.std.specs.Prelude.{◌≡◌, Bool, cond, ℕ, ◌+◌, ◌-◌, ◌*◌, ◌/◌, ◌%◌, ◌^◌, ◌≤◌, ◌<◌, leb, ltb}
use Rattle.std.proofs.Common.{mod-eq_of_lt, arith, le-leb, lt-ltb}
use Rattle.std.proofs.Math.Pow.{pow-lt}

infixr 15 ◌then◌
-- what a call of the Rust comes to: a value, or a failed check that ends the program
pub data Run (A : Type 0) : Type 0 where
  stops : Run A
  returns : A → Run A

abbrev pub ◌then◌ : {A B : Type 0} → Run A → (A → Run B) → Run B
stops then f = stops
returns a then f = f a

-- the Rust's value, said in other terms
abbrev pub read : {A B : Type 0} → (A → B) → Run A → Run B
read f stops = stops
read f (returns a) = returns (f a)

-- a check: the value where it holds
abbrev pub only : {A : Type 0} → Bool → A → Run A
only b a = cond b (returns a) stops

-- a result that must fit the width
unfoldable pub within : ℕ → ℕ → Run ℕ
within bits n = only (ltb n (2 ^ bits)) n

abbrev pub plus : ℕ → ℕ → ℕ → Run ℕ
plus bits a b = within bits (a + b)

abbrev pub times : ℕ → ℕ → ℕ → Run ℕ
times bits a b = within bits (a * b)

abbrev pub power : ℕ → ℕ → ℕ → Run ℕ
power bits a k = within bits (a ^ k)

-- a difference must not pass below 0, in any width
unfoldable pub minus : ℕ → ℕ → Run ℕ
minus a b = only (leb b a) (a - b)

-- `<<` and `>>`: the shift must be below the width; bits that `<<` moves past the width are lost
unfoldable pub shift_up : ℕ → ℕ → ℕ → Run ℕ
shift_up bits a k = only (ltb k bits) (a * 2 ^ k % 2 ^ bits)

unfoldable pub shift_down : ℕ → ℕ → ℕ → Run ℕ
shift_down bits a k = only (ltb k bits) (a / 2 ^ k)

-- `as`, to a smaller width: the low bits stay
abbrev pub cut : ℕ → ℕ → ℕ
cut bits n = n % 2 ^ bits

-- where the checks hold
pub fits : (bits n : ℕ) → n < 2 ^ bits → within bits n ≡ returns n
unfolding within
fits bits n h = rw (lt-ltb _ _ h)

pub minus_fits : (a b : ℕ) → b ≤ a → minus a b ≡ returns (a - b)
unfolding minus
minus_fits a b h = rw (le-leb _ _ h)

pub shifted_up : (bits a k : ℕ) → k < bits → a * 2 ^ k < 2 ^ bits → shift_up bits a k ≡ returns (a * 2 ^ k)
unfolding shift_up
shifted_up bits a k h l = rw (lt-ltb _ _ h, mod-eq_of_lt l)

pub one_shifted : (bits k : ℕ) → k < bits → shift_up bits 1 k ≡ returns (2 ^ k)
one_shifted bits k h = let e : 1 * 2 ^ k ≡ 2 ^ k = omega arith in rw e at (shifted_up bits 1 k h (rw e (pow-lt h)))

pub shifted_down : (bits a k : ℕ) → k < bits → shift_down bits a k ≡ returns (a / 2 ^ k)
unfolding shift_down
shifted_down bits a k h = rw (lt-ltb _ _ h)
