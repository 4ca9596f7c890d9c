-- No line has two readings: what stands at the front of some bytes is one form, and one rest follows it.
use Rattle.std.specs.Prelude.{◌≡◌, refl, ℕ}
use Rattle.std.proofs.Common.{sym, ap, ap₂, ◌∙◌, arith}
use mathlib.Core.List.{List, [], ◌∷◌, ◌++◌, append_assoc, append_cancel_left, head-eq_of_cons-eq, tail-eq_of_cons-eq}
use Rattle.bits.specs.Tests.{and_parts}
use Rattle.form.specs.Form.{space, closing, Form, tiles, pair, is_run, all_runs, is_form, spaced, text, word_of}
use Rattle.form.specs.Form.{tiles_word}
use Rattle.form.specs.Front.{FormFirst, KeysFirst, Ended}
use Rattle.form.specs.declared.Verb.{Verb}
use Rattle.form.specs.Once.{letter_of, one_run, pair_text, run_bytes, same_verb, tiles_no_verb, tiles_text}

-- behind a key stands a space or the closing bracket
pub keys_ended : (keys : List (List ℕ)) (rest : List ℕ) → Ended (spaced keys ++ closing ∷ rest)
unfolding spaced
keys_ended [] rest = refl
keys_ended (k ∷ keys) rest = refl

space_not_closing : (a b : List ℕ) → space ∷ a ≡ closing ∷ b → ⊥
space_not_closing a b e = let z : ◌≡◌ {A = ℕ} 32 41 = head-eq_of_cons-eq e in omega arith

pub one_keys : (keys others : List (List ℕ)) (r s bytes : List ℕ) → KeysFirst keys r bytes → KeysFirst others s bytes
    → (keys ≡ others) × (r ≡ s)
unfolding spaced all_runs
one_keys [] [] r s bytes a b = (refl, tail-eq_of_cons-eq (a.spelled ∙ sym b.spelled))
one_keys [] (j ∷ others) r s bytes a b = absurd (space_not_closing _ _ (b.spelled ∙ sym a.spelled))
one_keys (k ∷ keys) [] r s bytes a b = absurd (space_not_closing _ _ (a.spelled ∙ sym b.spelled))
one_keys (k ∷ keys) (j ∷ others) r s bytes a b =
    let p = and_parts (is_run k) (all_runs keys) a.runs in
    let q = and_parts (is_run j) (all_runs others) b.runs in
    let e = tail-eq_of_cons-eq (a.spelled ∙ sym b.spelled) in
    let h = one_run k j (spaced keys ++ closing ∷ r) (spaced others ++ closing ∷ s) (run_bytes k p.0) (run_bytes j q.0)
    (keys_ended keys r) (keys_ended others s)
    (sym (append_assoc k (spaced keys) (closing ∷ r)) ∙ (e ∙ append_assoc j (spaced others) (closing ∷ s))) in
    let below = one_keys keys others r s (spaced others ++ closing ∷ s) (record { runs = p.1; spelled = h.1 })
    (record { runs = q.1; spelled = refl }) in
    (ap₂ (λ (z : List ℕ) (l : List (List ℕ)). z ∷ l) h.0 below.0, below.1)

pub one_form : (f g : Form) (r s bytes : List ℕ) → FormFirst f r bytes → FormFirst g s bytes → (f ≡ g) × (r ≡ s)
unfolding is_form
one_form (tiles keys) (tiles others) r s bytes a b =
    let e = append_cancel_left tiles_word _ _
    (tail-eq_of_cons-eq (sym (tiles_text keys r) ∙ (a.spelled ∙ (sym b.spelled ∙ tiles_text others s)))) in
    let h = one_keys keys others r s (spaced others ++ closing ∷ s) (record { runs = a.formed; spelled = e })
    (record { runs = b.formed; spelled = refl }) in
    (ap tiles h.0, h.1)
one_form (tiles keys) (pair w c d) r s bytes a b =
    absurd (tiles_no_verb w (sym (letter_of (tiles keys) r bytes a) ∙ letter_of (pair w c d) s bytes b))
one_form (pair v c d) (tiles others) r s bytes a b =
    absurd (tiles_no_verb v (sym (letter_of (tiles others) s bytes b) ∙ letter_of (pair v c d) r bytes a))
one_form (pair v f g) (pair w j k) r s bytes a b =
    let same = same_verb v w (sym (letter_of (pair v f g) r bytes a) ∙ letter_of (pair w j k) s bytes b) in
    let p = and_parts (is_form f) (is_form g) a.formed in
    let q = and_parts (is_form j) (is_form k) b.formed in
    let t = tail-eq_of_cons-eq (sym (pair_text v f g r) ∙ (a.spelled ∙ (sym b.spelled ∙ pair_text w j k s))) in
    let u = append_cancel_left (word_of w) _ _
    (sym (ap (λ (x : Verb). word_of x ++ space ∷ (text f ++ space ∷ (text g ++ closing ∷ r))) same) ∙ t) in
    let left = one_form f j (space ∷ (text g ++ closing ∷ r)) (space ∷ (text k ++ closing ∷ s)) (text j ++ space ∷ (text k ++ closing ∷ s))
    (record { formed = p.0; spelled = tail-eq_of_cons-eq u }) (record { formed = q.0; spelled = refl }) in
    let right = one_form g k (closing ∷ r) (closing ∷ s) (text k ++ closing ∷ s)
    (record { formed = p.1; spelled = tail-eq_of_cons-eq left.1 })
    (record { formed = q.1; spelled = refl }) in
    (rw (same, left.0, right.0), tail-eq_of_cons-eq right.1)
