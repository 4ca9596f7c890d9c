-- Where a form, a list of keys or a pair of forms at the front of some bytes ends, and how the three hang together.
use Rattle.std.specs.Prelude.{◌≡◌, Bool, true, cond, ℕ, suc, ◌+◌, ◌-◌, ◌≤◌, ◌<◌, length, take, drop, Option, Some, None}
use Rattle.std.proofs.Math.Path.{refl, sym, ap}
use Rattle.std.proofs.Common.{◌∙◌, true≢false, add-one, arith, length-append, length-drop, take_all, drop-cons, drop-drop, get_or-drop}
use Rattle.std.proofs.Math.Bool.{false}
use mathlib.Core.List.{List, [], ◌∷◌, ◌++◌, append_assoc, append_cancel_left}
use Rattle.std.proofs.Math.Decide.{dec_lt}
use Rattle.std.proofs.Math.ListN.{get_or, get_or-eq_default}
use Rattle.bits.specs.Tests.{and_parts}
use Rattle.form.specs.Form.{space, opening, closing, Form, tiles, pair, is_form, word_of, spaced, text}
use Rattle.form.specs.Front.{FormFirst, KeysFirst, PairFirst}
use Rattle.form.specs.Once.{tiles_text, pair_text, letter_of, verb_letter, same_verb, tiles_no_verb}
use Rattle.form.specs.Words.{starts_with, starts_with_lem, start_split, tiles_front, pair_front, word_at}
use Rattle.form.specs.declared.Verb.{Verb}
use Rattle.form.specs.declared.Verb.TheVariants.{Plus, Both, Minus}
use Rattle.form.specs.declared.Word.{Word}
use Rattle.form.specs.declared.Word.TheVariants as word

-- what stands at the front takes that many bytes, or nothing of its kind stands there
abbrev pub Ends : (A : Type 0) → (A → List ℕ → List ℕ → Type 0) → Option ℕ → List ℕ → Type 0
Ends A First (Some n) bytes = (n ≤ length bytes) × ((a : A) × First a (drop n bytes) bytes)
Ends A First None bytes = (a : A) (rest : List ℕ) → First a rest bytes → ⊥

abbrev pub FormEnds : Option ℕ → List ℕ → Type 0
FormEnds = Ends Form FormFirst

abbrev pub KeysEnds : Option ℕ → List ℕ → Type 0
KeysEnds = Ends (List (List ℕ)) KeysFirst

abbrev pub PairEnds : Option ℕ → List ℕ → Type 0
PairEnds = Ends (Form × Form) (λ p. PairFirst p.0 p.1)

-- of bytes that start with `(tiles`: a form there is a form of tiles, and the keys follow
module _ (body bytes : List ℕ) (e : tiles_front ++ body ≡ bytes) where
  pub keys_form : (keys : List (List ℕ)) (rest : List ℕ) → KeysFirst keys rest body → FormFirst (tiles keys) rest bytes
  unfolding is_form
  keys_form keys rest k = record {
    formed = k.runs;
    spelled = tiles_text keys rest ∙ (ap (λ (l : List ℕ). tiles_front ++ l) k.spelled ∙ e);
  }

  pub form_keys : (f : Form) (rest : List ℕ) → FormFirst f rest bytes → (keys : List (List ℕ)) × (f ≡ tiles keys) × KeysFirst keys rest body
  unfolding is_form
  form_keys (tiles keys) rest a = (
    keys,
    refl,
    record {
      runs = a.formed;
      spelled = append_cancel_left tiles_front _ _ (sym (tiles_text keys rest) ∙ (a.spelled ∙ sym e));
    },
  )
  form_keys (pair verb f g) rest a =
      absurd (tiles_no_verb verb (sym (ap (λ (l : List ℕ). get_or l 1 0) (sym e)) ∙ letter_of (pair verb f g) rest bytes a))

-- of bytes that start with the word of a pair and a space: a form there is such a pair, and its two forms follow
module _ (verb : Verb) (body bytes : List ℕ) (e : pair_front verb ++ body ≡ bytes) where
  front_body : (l : List ℕ) → opening ∷ (word_of verb ++ space ∷ l) ≡ pair_front verb ++ l
  front_body l = ap (λ (t : List ℕ). opening ∷ t) (sym (append_assoc (word_of verb) (space ∷ []) l))

  pub pair_form : (f g : Form) (rest : List ℕ) → PairFirst f g rest body → FormFirst (pair verb f g) rest bytes
  unfolding is_form
  pair_form f g rest k = record {
    formed = rw k.formed_left k.formed_right;
    spelled = pair_text verb f g rest ∙ (front_body _ ∙ (ap (λ (l : List ℕ). pair_front verb ++ l) k.spelled ∙ e));
  }

  letter_here : get_or bytes 1 0 ≡ verb_letter verb
  letter_here = rw (← e) (go verb)
    where
      go : (v : Verb) → get_or (pair_front v ++ body) 1 0 ≡ verb_letter v
      go Plus = refl
      go Both = refl
      go Minus = refl

  pub form_pair : (h : Form) (rest : List ℕ) → FormFirst h rest bytes
      → (p : Form × Form) × (h ≡ pair verb p.0 p.1) × PairFirst p.0 p.1 rest body
  unfolding is_form
  form_pair (tiles keys) rest a = absurd (tiles_no_verb verb (sym (letter_of (tiles keys) rest bytes a) ∙ letter_here))
  form_pair (pair v f g) rest a =
      let same = same_verb v verb (sym (letter_of (pair v f g) rest bytes a) ∙ letter_here) in
      let p = and_parts (is_form f) (is_form g) a.formed in
      let u = sym (ap (λ (x : Verb). text (pair x f g) ++ rest) same) ∙ (a.spelled ∙ sym e) in (
        (f, g),
        ap (λ (x : Verb). pair x f g) same,
        record {
          formed_left = p.0;
          formed_right = p.1;
          spelled = append_cancel_left (pair_front verb) _ _ (sym (front_body _) ∙ (sym (pair_text verb f g rest) ∙ u));
        },
      )

-- what the word at the front says of the bytes
abbrev pub Opened : Option Word → List ℕ → Type 0
Opened (Some word.Tiles) bytes = tiles_front ++ drop (length tiles_front) bytes ≡ bytes
Opened (Some (word.Pair verb)) bytes = pair_front verb ++ drop (length (pair_front verb)) bytes ≡ bytes
Opened None bytes = (f : Form) (rest : List ℕ) → FormFirst f rest bytes → ⊥

module _ (bytes : List ℕ) where
  tiles_front_lem : starts_with tiles_front bytes ≡ false → (keys : List (List ℕ)) (rest : List ℕ) → FormFirst (tiles keys) rest bytes → ⊥
  tiles_front_lem miss keys rest a =
      true≢false (sym (starts_with_lem tiles_front (spaced keys ++ closing ∷ rest))
      ∙ (ap (starts_with tiles_front) (sym (tiles_text keys rest) ∙ a.spelled) ∙ miss))

  pair_front_lem : (verb : Verb) → starts_with (pair_front verb) bytes ≡ false → (f g : Form) (rest : List ℕ)
      → FormFirst (pair verb f g) rest bytes → ⊥
  pair_front_lem verb miss f g rest a =
      let body = text f ++ space ∷ (text g ++ closing ∷ rest) in
      let e : opening ∷ (word_of verb ++ space ∷ body) ≡ pair_front verb ++ body =
      ap (λ (t : List ℕ). opening ∷ t) (sym (append_assoc (word_of verb) (space ∷ []) body)) in
      true≢false (sym (starts_with_lem (pair_front verb) body)
      ∙ (ap (starts_with (pair_front verb)) (sym e ∙ (sym (pair_text verb f g rest) ∙ a.spelled)) ∙ miss))

  none : starts_with tiles_front bytes ≡ false → ((verb : Verb) → starts_with (pair_front verb) bytes ≡ false)
      → (f : Form) (rest : List ℕ) → FormFirst f rest bytes → ⊥
  none t p (tiles keys) rest a = tiles_front_lem t keys rest a
  none t p (pair verb f g) rest a = pair_front_lem verb (p verb) f g rest a

  pub opened : Opened (word_at bytes) bytes
  unfolding word_at
  opened = first (starts_with tiles_front bytes) refl
    where
      each : starts_with (pair_front Plus) bytes ≡ false → starts_with (pair_front Both) bytes ≡ false
          → starts_with (pair_front Minus) bytes ≡ false
          → (verb : Verb) → starts_with (pair_front verb) bytes ≡ false
      each p q r Plus = p
      each p q r Both = q
      each p q r Minus = r

      fourth : starts_with tiles_front bytes ≡ false → starts_with (pair_front Plus) bytes ≡ false → starts_with (pair_front Both) bytes ≡ false
          → (b : Bool) → starts_with (pair_front Minus) bytes ≡ b → Opened (cond b (Some (word.Pair Minus)) None) bytes
      fourth t p q true e = start_split (pair_front Minus) bytes e
      fourth t p q false e = none t (each p q e)

      third : starts_with tiles_front bytes ≡ false → starts_with (pair_front Plus) bytes ≡ false → (b : Bool)
          → starts_with (pair_front Both) bytes ≡ b
          → Opened (cond b (Some (word.Pair Both)) (cond (starts_with (pair_front Minus) bytes) (Some (word.Pair Minus)) None)) bytes
      third t p true e = start_split (pair_front Both) bytes e
      third t p false e = fourth t p e (starts_with (pair_front Minus) bytes) refl

      second : starts_with tiles_front bytes ≡ false → (b : Bool) → starts_with (pair_front Plus) bytes ≡ b
          → Opened (cond b (Some (word.Pair Plus))
          (cond (starts_with (pair_front Both) bytes) (Some (word.Pair Both))
          (cond (starts_with (pair_front Minus) bytes) (Some (word.Pair Minus)) None))) bytes
      second t true e = start_split (pair_front Plus) bytes e
      second t false e = third t e (starts_with (pair_front Both) bytes) refl

      first : (b : Bool) → starts_with tiles_front bytes ≡ b
          → Opened (cond b (Some word.Tiles)
          (cond (starts_with (pair_front Plus) bytes) (Some (word.Pair Plus)) (cond (starts_with (pair_front Both) bytes) (Some (word.Pair Both))
          (cond (starts_with (pair_front Minus) bytes) (Some (word.Pair Minus)) None)))) bytes
      first true e = start_split tiles_front bytes e
      first false e = second e (starts_with (pair_front Plus) bytes) refl

-- a part of the bytes from a place on, as it is lent
pub rest_part : (bytes : List ℕ) (n : ℕ) → take (length bytes - n) (drop n bytes) ≡ drop n bytes
rest_part bytes n = take_all (length bytes - n) (drop n bytes) (omega (arith, length-drop n bytes))

pub front_within : (front bytes : List ℕ) → front ++ drop (length front) bytes ≡ bytes → length front ≤ length bytes
front_within front bytes e = omega (arith, ap length (sym e) ∙ length-append front (drop (length front) bytes))

abbrev pub shifted : ℕ → Option ℕ → Option ℕ
shifted n (Some m) = Some (n + m)
shifted n None = None

-- a form whose front is read ends where what follows the front does
module _ (A : Type 0) (First : A → List ℕ → List ℕ → Type 0) (front bytes : List ℕ) (e : front ++ drop (length front) bytes ≡ bytes)
    (make : A → Form) (forth : (a : A) (rest : List ℕ) → First a rest (drop (length front) bytes) → FormFirst (make a) rest bytes)
    (back : (f : Form) (rest : List ℕ) → FormFirst f rest bytes → (a : A) × First a rest (drop (length front) bytes)) where
  pub ends_behind : (end : Option ℕ) → Ends A First end (drop (length front) bytes) → FormEnds (shifted (length front) end) bytes
  ends_behind (Some m) (h, (a, first)) =
      let l = ap length (sym e) ∙ length-append front (drop (length front) bytes) in
      (omega (arith, l, h), (make a, forth a (drop (length front + m) bytes) (rw (← drop-drop m (length front) bytes) first)))
  ends_behind None never = λ f rest a. let b = back f rest a in never b.0 rest b.1

-- a byte behind what was read; 0 stands for the end
pub byte_there : (l : List ℕ) (n b : ℕ) → get_or l n 0 ≡ b → (b ≡ 0 → ⊥) → n < length l
byte_there l n b e d = pick (dec_lt n (length l))
  where
    pick : Dec (n < length l) → n < length l
    pick (yes h) = h
    pick (no h) = absurd (d (sym e ∙ get_or-eq_default l 0 (omega arith)))

pub byte_split : (l : List ℕ) (n b : ℕ) → get_or l n 0 ≡ b → (b ≡ 0 → ⊥) → drop n l ≡ b ∷ drop (n + 1) l
byte_split l n b e d = rw (add-one n) (drop-cons l n 0 (byte_there l n b e d) ∙ ap (λ (x : ℕ). x ∷ drop (suc n) l) e)

pub split_byte : (l : List ℕ) (n b : ℕ) (t : List ℕ) → drop n l ≡ b ∷ t → get_or l n 0 ≡ b
split_byte l n b t e = let z : n + 0 ≡ n = omega arith in
    ap (λ (i : ℕ). get_or l i 0) (sym z) ∙ (sym (get_or-drop n l 0 0) ∙ ap (λ (x : List ℕ). get_or x 0 0) e)
