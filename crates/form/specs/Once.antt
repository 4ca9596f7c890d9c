-- What tells the forms at the front of some bytes apart: a run of key bytes ends at the first other byte, and a word's first letter tells
-- it from the others.
use Rattle.std.specs.Prelude.{◌≡◌, refl, true, ℕ, get_or}
use Rattle.std.proofs.Common.{sym, ap, ap₂, ◌∙◌, true≢false, arith}
use mathlib.Core.List.{List, [], ◌∷◌, ◌++◌, append_assoc, head-eq_of_cons-eq, tail-eq_of_cons-eq, nil≢cons, cons≢nil}
use Rattle.bits.specs.Tests.{and_parts, all_of}
use Rattle.form.specs.Form.{space, opening, closing, Form, tiles, pair, is_key_byte, is_run, spaced, text, word_of}
use Rattle.form.specs.Form.{tiles_word}
use Rattle.form.specs.Front.{FormFirst, Ended}
use Rattle.form.specs.declared.Verb.{Verb}
use Rattle.form.specs.declared.Verb.TheVariants.{Plus, Both, Minus}

-- a run of key bytes ends where the first other byte stands
pub one_run : (k j r s : List ℕ) → all_of is_key_byte k ≡ true → all_of is_key_byte j ≡ true → Ended r → Ended s → k ++ r ≡ j ++ s
    → (k ≡ j) × (r ≡ s)
unfolding all_of
one_run [] [] r s a b p q e = (refl, e)
one_run [] (y ∷ j) [] s a b p q e = absurd (nil≢cons e)
one_run [] (y ∷ j) (x ∷ r) s a b p q e =
    absurd (true≢false (sym (ap is_key_byte (head-eq_of_cons-eq e) ∙ (and_parts (is_key_byte y) (all_of is_key_byte j) b).0) ∙ p))
one_run (x ∷ k) [] r [] a b p q e = absurd (cons≢nil e)
one_run (x ∷ k) [] r (y ∷ s) a b p q e =
    absurd (true≢false (sym (ap is_key_byte (sym (head-eq_of_cons-eq e)) ∙ (and_parts (is_key_byte x) (all_of is_key_byte k) a).0) ∙ q))
one_run (x ∷ k) (y ∷ j) r s a b p q e =
    let below = one_run k j r s (and_parts (is_key_byte x) (all_of is_key_byte k) a).1 (and_parts (is_key_byte y) (all_of is_key_byte j) b).1 p q
    (tail-eq_of_cons-eq e) in
    (ap₂ (λ (z : ℕ) (l : List ℕ). z ∷ l) (head-eq_of_cons-eq e) below.0, below.1)

pub run_bytes : (k : List ℕ) → is_run k ≡ true → all_of is_key_byte k ≡ true
unfolding is_run all_of
run_bytes [] e = refl
run_bytes (b ∷ k) e = e

pub tiles_text : (keys : List (List ℕ)) (rest : List ℕ)
    → text (tiles keys) ++ rest ≡ opening ∷ (tiles_word ++ (spaced keys ++ closing ∷ rest))
unfolding text
tiles_text keys rest = rw (append_assoc (spaced keys) (closing ∷ []) rest)

pub pair_text : (verb : Verb) (f g : Form) (rest : List ℕ)
    → text (pair verb f g) ++ rest ≡ opening ∷ (word_of verb ++ space ∷ (text f ++ space ∷ (text g ++ closing ∷ rest)))
unfolding text
pair_text verb f g rest =
    rw (
      append_assoc (word_of verb) (space ∷ (text f ++ (space ∷ (text g ++ (closing ∷ []))))) rest,
      append_assoc (text f) (space ∷ (text g ++ (closing ∷ []))) rest,
      append_assoc (text g) (closing ∷ []) rest,
    )

-- the first letter tells the four words apart
abbrev pub verb_letter : Verb → ℕ
verb_letter Plus = 112
verb_letter Both = 98
verb_letter Minus = 109

abbrev pub tiles_letter : ℕ
tiles_letter = 116

abbrev letter : Form → ℕ
letter (tiles keys) = tiles_letter
letter (pair verb f g) = verb_letter verb

pub same_verb : (v w : Verb) → verb_letter v ≡ verb_letter w → v ≡ w
same_verb Plus Plus e = refl
same_verb Plus Both e = absurd (omega (arith, e))
same_verb Plus Minus e = absurd (omega (arith, e))
same_verb Both Plus e = absurd (omega (arith, e))
same_verb Both Both e = refl
same_verb Both Minus e = absurd (omega (arith, e))
same_verb Minus Plus e = absurd (omega (arith, e))
same_verb Minus Both e = absurd (omega (arith, e))
same_verb Minus Minus e = refl

pub tiles_no_verb : (v : Verb) → tiles_letter ≡ verb_letter v → ⊥
tiles_no_verb Plus e = omega (arith, e)
tiles_no_verb Both e = omega (arith, e)
tiles_no_verb Minus e = omega (arith, e)

letter_at : (f : Form) (rest : List ℕ) → get_or (text f ++ rest) 1 0 ≡ letter f
unfolding text
letter_at (tiles keys) rest = refl
letter_at (pair Plus f g) rest = refl
letter_at (pair Both f g) rest = refl
letter_at (pair Minus f g) rest = refl

pub letter_of : (f : Form) (rest bytes : List ℕ) → FormFirst f rest bytes → get_or bytes 1 0 ≡ letter f
letter_of f rest bytes a = rw (← a.spelled) (letter_at f rest)
