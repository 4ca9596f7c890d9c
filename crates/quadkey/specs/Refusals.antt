-- Which keys are refused, and what a key's refusal says of it.
use Rattle.std.specs.Prelude.{◌≡◌, refl, Bool, true, false, not, List, ℕ, ◌≤◌, ◌<◌, ltb, length}
use Rattle.std.proofs.Common.{arith, ltb-true, ltb-false, le-ltb, lt-ltb}
use Rattle.constants.specs.Limits.{max_zoom}
use Rattle.errors.specs.Answer.{◌when◌, ◌else◌}
use Rattle.quadkey.specs.Key.{all_digits_of, key_refusal}

-- the refusals of a key, one by one
pub key_too_long : (key : List ℕ) → max_zoom < length key → key_refusal key ≡ 4
unfolding key_refusal
key_too_long key h = rw (lt-ltb _ _ h)

pub key_bad_byte : (key : List ℕ) → length key ≤ max_zoom → all_digits_of key ≡ false → key_refusal key ≡ 5
unfolding key_refusal
key_bad_byte key h e = rw (le-ltb _ _ h, e)

pub key_accepted : (key : List ℕ) → length key ≤ max_zoom → all_digits_of key ≡ true → key_refusal key ≡ 0
unfolding key_refusal
key_accepted key h e = rw (le-ltb _ _ h, e)

pub accepted_key : (key : List ℕ) → key_refusal key ≡ 0 → (length key ≤ max_zoom) × (all_digits_of key ≡ true)
unfolding key_refusal
accepted_key key e = pick (ltb max_zoom (length key)) refl (all_digits_of key) refl e
  where
    pick : (a : Bool) → ltb max_zoom (length key) ≡ a → (b : Bool) → all_digits_of key ≡ b → (4 when a else 5 when not b) ≡ 0
        → (length key ≤ max_zoom) × (all_digits_of key ≡ true)
    pick true p b q e = absurd (omega arith)
    pick false p false q e = absurd (omega arith)
    pick false p true q e = (ltb-false _ _ p, q)

pub refused_long : (key : List ℕ) → key_refusal key ≡ 4 → max_zoom < length key
unfolding key_refusal
refused_long key e = pick (ltb max_zoom (length key)) refl (all_digits_of key) e
  where
    pick : (a : Bool) → ltb max_zoom (length key) ≡ a → (b : Bool) → (4 when a else 5 when not b) ≡ 4 → max_zoom < length key
    pick true p b e = ltb-true _ _ p
    pick false p false e = absurd (omega arith)
    pick false p true e = absurd (omega arith)

pub refused_byte : (key : List ℕ) → key_refusal key ≡ 5 → (length key ≤ max_zoom) × (all_digits_of key ≡ false)
unfolding key_refusal
refused_byte key e = pick (ltb max_zoom (length key)) refl (all_digits_of key) refl e
  where
    pick : (a : Bool) → ltb max_zoom (length key) ≡ a → (b : Bool) → all_digits_of key ≡ b → (4 when a else 5 when not b) ≡ 5
        → (length key ≤ max_zoom) × (all_digits_of key ≡ false)
    pick true p b q e = absurd (omega arith)
    pick false p false q e = (ltb-false _ _ p, q)
    pick false p true q e = absurd (omega arith)
