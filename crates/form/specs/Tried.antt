-- Whether a form stands at the front of some bytes with a given rest behind it can be told: by trying where each part of it can end. It
-- asks nothing of what a key's bytes are. What it answers is in the types, so that nothing else leans on how it is found.
use Rattle.std.specs.Prelude.{◌≡◌, refl, Bool, true, false, ℕ, zero, suc, ◌<◌, length, drop, Option, Some, None}
use Rattle.std.proofs.Common.{sym, ap, ◌∙◌, subst, arith, length-append, true≢false}
use mathlib.Core.List.{List, [], ◌∷◌, ◌++◌, append_assoc, head-eq_of_cons-eq, tail-eq_of_cons-eq, cons≢nil, List-discrete}
use Rattle.std.proofs.Math.Decide.{ℕ_discrete}
use Rattle.bits.specs.Tests.{and_parts}
use Rattle.form.specs.Ends.{Opened, opened, keys_form, form_keys, pair_form, form_pair}
use Rattle.form.specs.Form.{space, closing, Form, tiles, pair, is_run, all_runs, spaced, text}
use Rattle.form.specs.Front.{FormFirst, KeysFirst, PairFirst}
use Rattle.form.specs.Words.{tiles_front, pair_front, word_at}
use Rattle.form.specs.declared.Verb.{Verb}
use Rattle.form.specs.declared.Word.{Word}
use Rattle.form.specs.declared.Word.TheVariants as word

-- a list in two parts, of which this holds
abbrev Split : (List ℕ → List ℕ → Type 0) → List ℕ → Type 0
Split P l = (a : List ℕ) × (b : List ℕ) × (a ++ b ≡ l) × P a b

some_split : (l : List ℕ) (P : List ℕ → List ℕ → Type 0) → ((a b : List ℕ) → a ++ b ≡ l → Dec (P a b)) → Dec (Split P l)
some_split [] P d = pick (d [] [] refl)
  where
    never : (P [] [] → ⊥) → (a b : List ℕ) → a ++ b ≡ [] → P a b → ⊥
    never n [] b e p = n (subst (λ (l : List ℕ). P [] l) e p)
    never n (x ∷ a) b e p = cons≢nil e

    pick : Dec (P [] []) → Dec (Split P [])
    pick (yes p) = yes ([], [], refl, p)
    pick (no n) = no (λ s. never n s.0 s.1 s.2 s.3)
some_split (x ∷ l) P d = pick (d [] (x ∷ l) refl) (some_split l (λ a b. P (x ∷ a) b) (λ a b e. d (x ∷ a) b (ap (λ (t : List ℕ). x ∷ t) e)))
  where
    never : (P [] (x ∷ l) → ⊥) → (Split (λ a b. P (x ∷ a) b) l → ⊥) → (a b : List ℕ) → a ++ b ≡ x ∷ l → P a b → ⊥
    never n m [] b e p = n (subst (λ (t : List ℕ). P [] t) e p)
    never n m (y ∷ a) b e p =
        m (a, b, tail-eq_of_cons-eq e, subst (λ (z : ℕ). P (z ∷ a) b) (head-eq_of_cons-eq e) p)

    pick : Dec (P [] (x ∷ l)) → Dec (Split (λ a b. P (x ∷ a) b) l) → Dec (Split P (x ∷ l))
    pick (yes p) s = yes ([], x ∷ l, refl, p)
    pick (no n) (yes (a, b, e, p)) = yes (x ∷ a, b, ap (λ (t : List ℕ). x ∷ t) e, p)
    pick (no n) (no m) = no (λ s. never n m s.0 s.1 s.2 s.3)

both : {P Q : Type 0} → Dec P → Dec Q → Dec (P × Q)
both (yes p) (yes q) = yes (p, q)
both (yes p) (no n) = no (λ s. n s.1)
both (no n) q = no (λ s. n s.0)

holds : (b : Bool) → Dec (b ≡ true)
holds true = yes refl
holds false = no (λ e. true≢false (sym e))

-- ---- keys

abbrev KeysAt : List ℕ → List ℕ → Type 0
KeysAt rest bytes = (keys : List (List ℕ)) × KeysFirst keys rest bytes

abbrev KeyThen : List ℕ → List ℕ → List ℕ → Type 0
KeyThen rest key behind = (is_run key ≡ true) × KeysAt rest behind

keys_at : (n : ℕ) (rest bytes : List ℕ) → length bytes < n → Dec (KeysAt rest bytes)
unfolding all_runs spaced
keys_at zero rest bytes h = absurd (omega (arith, h))
keys_at (suc n) rest [] h = no (λ s. never s.0 s.1)
  where
    never : (keys : List (List ℕ)) → KeysFirst keys rest [] → ⊥
    never [] a = cons≢nil a.spelled
    never (key ∷ keys) a = cons≢nil a.spelled
keys_at (suc n) rest (b ∷ bytes) h =
    pick (List-discrete ℕ_discrete (closing ∷ rest) (b ∷ bytes)) (ℕ_discrete space b)
    (some_split bytes (KeyThen rest) (λ key behind e. both (holds (is_run key))
    (keys_at n rest behind (omega (arith, h, sym (ap length e) ∙ length-append key behind)))))
  where
    none : closing ∷ rest ≡ b ∷ bytes → KeysAt rest (b ∷ bytes)
    none e = ([], record { runs = refl; spelled = e })

    some : space ≡ b → Split (KeyThen rest) bytes → KeysAt rest (b ∷ bytes)
    some e (key, behind, f, (k, (keys, a))) = (
      key ∷ keys,
      record {
        runs = rw (k, a.runs);
        spelled = rw (append_assoc key (spaced keys) (closing ∷ rest), a.spelled, f, e);
      },
    )

    other : (closing ∷ rest ≡ b ∷ bytes → ⊥) → (space ≡ b → Split (KeyThen rest) bytes → ⊥) → (keys : List (List ℕ))
        → KeysFirst keys rest (b ∷ bytes) → ⊥
    other c s [] a = c a.spelled
    other c s (key ∷ keys) a =
        let p = and_parts (is_run key) (all_runs keys) a.runs in
        s (head-eq_of_cons-eq a.spelled) (
          key,
          spaced keys ++ closing ∷ rest,
          sym (append_assoc key (spaced keys) (closing ∷ rest)) ∙ tail-eq_of_cons-eq a.spelled,
          (p.0, (keys, record { runs = p.1; spelled = refl })),
        )

    pick : Dec (closing ∷ rest ≡ b ∷ bytes) → Dec (space ≡ b) → Dec (Split (KeyThen rest) bytes) → Dec (KeysAt rest (b ∷ bytes))
    pick (yes e) s k = yes (none e)
    pick (no c) (yes e) (yes k) = yes (some e k)
    pick (no c) (yes e) (no m) = no (λ s. other c (λ f k. m k) s.0 s.1)
    pick (no c) (no d) k = no (λ s. other c (λ f k. d f) s.0 s.1)

-- ---- forms

abbrev FormAt : List ℕ → List ℕ → Type 0
FormAt rest bytes = (f : Form) × FormFirst f rest bytes

abbrev PairAt : List ℕ → List ℕ → Type 0
PairAt rest bytes = (p : Form × Form) × PairFirst p.0 p.1 rest bytes

-- behind the left form: a space, and the right form before the closing bracket
abbrev RightAt : List ℕ → List ℕ → Type 0
RightAt rest [] = ⊥
RightAt rest (b ∷ bytes) = (space ≡ b) × FormAt (closing ∷ rest) bytes

right_at : (rest bytes : List ℕ) → ((r l : List ℕ) → length l < length bytes → Dec (FormAt r l)) → Dec (RightAt rest bytes)
right_at rest [] forms = no (λ a. a)
right_at rest (b ∷ bytes) forms = both (ℕ_discrete space b) (forms (closing ∷ rest) bytes (omega arith))

pair_at : (rest bytes : List ℕ) → ((r l : List ℕ) → length l < suc (length bytes) → Dec (FormAt r l)) → Dec (PairAt rest bytes)
pair_at rest bytes forms =
    pick (some_split bytes (λ a b. FormAt b bytes × RightAt rest b) (λ a b e. both (forms b bytes (omega arith))
    (right_at rest b (λ r l h. forms r l (omega (arith, h, sym (ap length e) ∙ length-append a b))))))
  where
    found : (b : List ℕ) → FormAt b bytes → RightAt rest b → PairAt rest bytes
    found [] f g = absurd g
    found (c ∷ b) (f, s) (e, (g, t)) = (
      (f, g),
      record {
        formed_left = s.formed;
        formed_right = t.formed;
        spelled = rw (t.spelled, e) s.spelled;
      },
    )

    parts : (p : Form × Form) → PairFirst p.0 p.1 rest bytes → Split (λ a b. FormAt b bytes × RightAt rest b) bytes
    parts (f, g) a = (
      text f,
      space ∷ (text g ++ closing ∷ rest),
      a.spelled,
      ((f, record { formed = a.formed_left; spelled = a.spelled }), (refl, (g, record { formed = a.formed_right; spelled = refl }))),
    )

    pick : Dec (Split (λ a b. FormAt b bytes × RightAt rest b) bytes) → Dec (PairAt rest bytes)
    pick (yes (a, b, e, (f, g))) = yes (found b f g)
    pick (no n) = no (λ s. n (parts s.0 s.1))

pub form_at : (n : ℕ) (rest bytes : List ℕ) → length bytes < n → Dec ((f : Form) × FormFirst f rest bytes)
form_at zero rest bytes h = absurd (omega (arith, h))
form_at (suc n) rest bytes h = pick (word_at bytes) (opened bytes) (λ r l k. form_at n r l (omega (arith, k, h)))
  where
    of_keys : (o : Opened (Some word.Tiles) bytes) → Dec (KeysAt rest (drop (length tiles_front) bytes)) → Dec (FormAt rest bytes)
    of_keys o (yes (keys, a)) = yes (tiles keys, keys_form (drop (length tiles_front) bytes) bytes o keys rest a)
    of_keys o (no m) = no (λ s. let b = form_keys (drop (length tiles_front) bytes) bytes o s.0 rest s.1 in m (b.0, b.2))

    of_pair : (verb : Verb) (o : Opened (Some (word.Pair verb)) bytes) → Dec (PairAt rest (drop (length (pair_front verb)) bytes))
        → Dec (FormAt rest bytes)
    of_pair verb o (yes (p, a)) = yes (pair verb p.0 p.1, pair_form verb (drop (length (pair_front verb)) bytes) bytes o p.0 p.1 rest a)
    of_pair verb o (no m) = no (λ s. let b = form_pair verb (drop (length (pair_front verb)) bytes) bytes o s.0 rest s.1 in m (b.0, b.2))

    pick : (w : Option Word) → Opened w bytes → ((r l : List ℕ) → length l < length bytes → Dec (FormAt r l)) → Dec (FormAt rest bytes)
    pick (Some word.Tiles) o forms = of_keys o (keys_at (suc (length bytes)) rest (drop (length tiles_front) bytes)
        (omega (arith, ap length (sym o) ∙ length-append tiles_front (drop (length tiles_front) bytes))))
    pick (Some (word.Pair verb)) o forms =
        let body = drop (length (pair_front verb)) bytes in
        let l = ap length (sym o) ∙ length-append (pair_front verb) body in
        of_pair verb o (pair_at rest body (λ r t k. forms r t (omega (arith, k, l))))
    pick None o forms = no (λ s. o s.0 rest s.1)
