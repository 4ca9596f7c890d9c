-- The steps of the code: a bracket more, the key behind a space, and the word that the bytes start with.
use Rattle.std.specs.Prelude.{◌≡◌, refl, Bool, true, false, not, cond, List, [], ◌∷◌, ℕ, zero, suc, ◌+◌, ◌≤◌, ◌<◌, eqb, ltb, drop, get_or, take, Option, Some, None, unwrap_or}
use Rattle.std.proofs.Common.{sym, ap, ◌∙◌, add-one, drop_of_length-le}
use Rattle.std.proofs.Math.Decide.{dec_lt}
use native.Mathlib.Omega.{arith}
use Rattle.std.proofs.Math.ListN.{length}
use Rattle.std.proofs.Math.Seq.{drop-cons}
use Rattle.std.proofs.lemmas.List.Recursion.{is_position_or_len}
use Rattle.std.proofs.lemmas.List.Sums.{prefix_len-le-length}
use Rattle.std.specs.List.{position, position_or_len}
use Rattle.std.specs.Cmp.Lexicographic.{pointwise}
use borrow.Author.Tests.{lt-ltb, le-ltb, ne_eqb}
use Rattle.constants.specs.Limits.{max_open}
use Rattle.form.specs.Ends.{byte_there}
use Rattle.form.specs.Form.{space, is_key_byte, open_behind, too_deep}
use Rattle.form.specs.Words.{run_length_of, behind_space, key_length, starts_with}

module _ (l : List ℕ) (i : ℕ) where
  pub deep_here : (n : ℕ) → i < length l → max_open < open_behind n (get_or l i 0) → too_deep n (drop i l) ≡ true
  unfolding too_deep
  deep_here n h e = rw (drop-cons l i 0 h, lt-ltb _ _ e)

  pub deep_later : (n : ℕ) → i < length l → open_behind n (get_or l i 0) ≤ max_open
      → too_deep n (drop i l) ≡ too_deep (open_behind n (get_or l i 0)) (drop (i + 1) l)
  unfolding too_deep
  deep_later n h e = rw (add-one i, drop-cons l i 0 h, le-ltb _ _ e)

  pub deep_nowhere : (n : ℕ) → length l ≤ i → too_deep n (drop i l) ≡ false
  unfolding too_deep
  deep_nowhere n h = rw (drop_of_length-le l h)

  pub key_past : length l ≤ i → key_length (drop i l) ≡ None
  unfolding key_length
  key_past h = rw (drop_of_length-le l h)

  -- a space, and so many bytes of a key behind it
  key_there : get_or l i 0 ≡ space → key_length (drop i l) ≡ behind_space (run_length_of (drop (i + 1) l))
  unfolding key_length
  key_there e = rw (add-one i, drop-cons l i 0 (byte_there l i space e (λ z. omega (arith, z))), e)

  pub no_key_there : get_or l i 0 ≡ space → run_length_of (drop (i + 1) l) ≡ 0 → key_length (drop i l) ≡ None
  no_key_there e r = key_there e ∙ ap behind_space r

  pub some_key_there : (n : ℕ) → get_or l i 0 ≡ space → n ≡ run_length_of (drop (i + 1) l) → (n ≡ 0 → ⊥) → Some (n + 1) ≡ key_length (drop i l)
  some_key_there zero e r d = absurd (d refl)
  some_key_there (suc n) e r d = let f : suc n + 1 ≡ suc (suc n) = omega arith in ap (λ (k : ℕ). Some k) f ∙ sym (key_there e ∙ ap behind_space (sym r))

  pub key_not_there : (get_or l i 0 ≡ space → ⊥) → key_length (drop i l) ≡ None
  unfolding key_length
  key_not_there d = pick (dec_lt i (length l))
    where
      pick : Dec (i < length l) → key_length (drop i l) ≡ None
      pick (yes h) = rw (drop-cons l i 0 h, ne_eqb _ _ d)
      pick (no h) = key_past (omega arith)

-- a run reaches to the first byte that is no key's
pub run_position : (l : List ℕ) → run_length_of l ≡ position_or_len (λ b. not (is_key_byte b)) l
unfolding run_length_of
run_position = is_position_or_len run_length_of (λ b. not (is_key_byte b)) refl more
  where
    pick : (t : Bool) (n : ℕ) → cond t (suc n) 0 ≡ cond (not t) 0 (1 + n)
    pick true n = omega arith
    pick false n = refl

    more : (b : ℕ) (l : List ℕ) → run_length_of (b ∷ l) ≡ cond (not (is_key_byte b)) 0 (1 + run_length_of l)
    more b l = pick (is_key_byte b) (run_length_of l)

first_or_all : (n m : ℕ) → n ≤ m → unwrap_or (cond (ltb n m) (Some n) None) m ≡ n
first_or_all n m h = pick (dec_lt n m)
  where
    pick : Dec (n < m) → unwrap_or (cond (ltb n m) (Some n) None) m ≡ n
    pick (yes k) = rw (lt-ltb n m k)
    pick (no k) = let e : m ≤ n = omega arith in rw (le-ltb n m e) (omega arith)

pub run_reached : (l : List ℕ) (found : Option ℕ) (n : ℕ) → found ≡ position (λ b. not (is_key_byte b)) l → n ≡ unwrap_or found (length l)
    → n ≡ run_length_of l
run_reached l found n e f =
    let p : ℕ → Bool = λ b. not (is_key_byte b) in
    f ∙ (ap (λ (o : Option ℕ). unwrap_or o (length l)) e
    ∙ (first_or_all (position_or_len p l) (length l) (prefix_len-le-length (λ b. not (p b)) l) ∙ sym (run_position l)))

-- what std's test of a word at the front says
same_either_way : (a b : ℕ) → eqb a b ≡ eqb b a
same_either_way a b = grind arith

pub starts_gives : (w l : List ℕ) → pointwise eqb w (take (length w) l) ≡ starts_with w l
unfolding starts_with
starts_gives [] l = refl
starts_gives (b ∷ w) [] = refl
starts_gives (b ∷ w) (c ∷ l) = rw (starts_gives w l, same_either_way b c)
