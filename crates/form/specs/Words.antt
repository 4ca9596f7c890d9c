-- What the front of a form says that it is: the opening bracket, the word and, before two forms, a space. And the bytes of a key.
use Rattle.std.specs.Prelude.{◌≡◌, refl, Bool, true, false, cond, ◌&&◌, List, [], ◌∷◌, ◌++◌, ℕ, zero, suc, eqb, length, drop, Option, Some, None}
use Rattle.std.proofs.Common.{sym, ap₂, true≢false, eqb-true, eq-eqb}
use Rattle.bits.specs.Tests.{and_parts}
use Rattle.form.specs.Form.{space, opening, is_key_byte, tiles_word, word_of}
use Rattle.form.specs.declared.Verb.{Verb}
use Rattle.form.specs.declared.Verb.TheVariants.{Plus, Both, Minus}
use Rattle.form.specs.declared.Word.{Word}
use Rattle.form.specs.declared.Word.TheVariants as word

unfoldable pub starts_with : List ℕ → List ℕ → Bool
starts_with [] bytes = true
starts_with (w ∷ ws) [] = false
starts_with (w ∷ ws) (b ∷ bytes) = eqb b w && starts_with ws bytes

pub starts_with_lem : (w r : List ℕ) → starts_with w (w ++ r) ≡ true
unfolding starts_with
starts_with_lem [] r = refl
starts_with_lem (b ∷ w) r = rw (eq-eqb b b refl, starts_with_lem w r)

pub start_split : (w bytes : List ℕ) → starts_with w bytes ≡ true → w ++ drop (length w) bytes ≡ bytes
unfolding starts_with
start_split [] bytes e = refl
start_split (b ∷ w) [] e = absurd (true≢false (sym e))
start_split (b ∷ w) (c ∷ bytes) e =
    let p = and_parts (eqb c b) (starts_with w bytes) e in
    ap₂ (λ (x : ℕ) (l : List ℕ). x ∷ l) (sym (eqb-true c b p.0)) (start_split w bytes p.1)

abbrev pub tiles_front : List ℕ
tiles_front = opening ∷ tiles_word

abbrev pub pair_front : Verb → List ℕ
pair_front verb = opening ∷ (word_of verb ++ (space ∷ []))

-- what the bytes start with
unfoldable pub word_at : List ℕ → Option Word
word_at bytes =
    cond (starts_with tiles_front bytes) (Some word.Tiles)
    (cond (starts_with (pair_front Plus) bytes) (Some (word.Pair Plus))
    (cond (starts_with (pair_front Both) bytes) (Some (word.Pair Both))
    (cond (starts_with (pair_front Minus) bytes) (Some (word.Pair Minus)) None)))

-- how many of the first bytes are a key's
unfoldable pub run_length_of : List ℕ → ℕ
run_length_of [] = 0
run_length_of (b ∷ bs) = cond (is_key_byte b) (suc (run_length_of bs)) 0

-- how many of the first bytes are a space and a key, if they are
abbrev pub behind_space : ℕ → Option ℕ
behind_space zero = None
behind_space (suc n) = Some (suc (suc n))

unfoldable pub key_length : List ℕ → Option ℕ
key_length [] = None
key_length (b ∷ bs) = cond (eqb b space) (behind_space (run_length_of bs)) None
