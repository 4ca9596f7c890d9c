-- Document 01's form line: what a form is, how it is written, and which lines are refused before any key is read.
use Rattle.std.specs.Prelude.{◌≡◌, Bool, true, false, cond, not, ◌&&◌, ◌||◌, List, [], ◌∷◌, ◌++◌, ℕ, suc, ◌-◌, ltb, eqb}
use Rattle.bits.specs.Tests.{all_of}
use Rattle.constants.specs.Limits.{max_open}
use Rattle.form.specs.declared.Verb.{Verb}
use Rattle.form.specs.declared.Verb.TheVariants.{Plus, Both, Minus}

-- the bytes that are no part of a key
abbrev pub newline : ℕ
newline = 10

abbrev pub space : ℕ
space = 32

abbrev pub opening : ℕ
opening = 40

abbrev pub closing : ℕ
closing = 41

-- "`(tiles K K ..)`, `(plus F F)`, `(both F F)`, `(minus F F)`": a form, with its keys as bytes
pub data Form : Type 0 where
  tiles : List (List ℕ) → Form
  pair : Verb → Form → Form → Form

-- the words, as bytes: tiles, plus, both, minus
abbrev pub tiles_word : List ℕ
tiles_word = 116 ∷ 105 ∷ 108 ∷ 101 ∷ 115 ∷ []

abbrev pub word_of : Verb → List ℕ
word_of Plus = 112 ∷ 108 ∷ 117 ∷ 115 ∷ []
word_of Both = 98 ∷ 111 ∷ 116 ∷ 104 ∷ []
word_of Minus = 109 ∷ 105 ∷ 110 ∷ 117 ∷ 115 ∷ []

-- "single spaces, none elsewhere": a space before each key
unfoldable pub spaced : List (List ℕ) → List ℕ
spaced [] = []
spaced (key ∷ keys) = space ∷ (key ++ spaced keys)

-- how a form is written
unfoldable pub text : Form → List ℕ
text (tiles keys) = opening ∷ (tiles_word ++ (spaced keys ++ (closing ∷ [])))
text (pair verb f g) = opening ∷ (word_of verb ++ (space ∷ (text f ++ (space ∷ (text g ++ (closing ∷ []))))))

-- "K a run of bytes without space, bracket or newline", of at least one byte
abbrev pub is_key_byte : ℕ → Bool
is_key_byte b = not (eqb b space || (eqb b opening || (eqb b closing || eqb b newline)))

unfoldable pub is_run : List ℕ → Bool
is_run [] = false
is_run (b ∷ bs) = is_key_byte b && all_of is_key_byte bs

unfoldable pub all_runs : List (List ℕ) → Bool
all_runs [] = true
all_runs (key ∷ keys) = is_run key && all_runs keys

-- all keys of the form are runs
unfoldable pub is_form : Form → Bool
is_form (tiles keys) = all_runs keys
is_form (pair verb f g) = is_form f && is_form g

-- a line that is a form, read so
pub record Reads (line : List ℕ) (f : Form) : Type 0 where
  pub formed : is_form f ≡ true
  pub spelled : text f ≡ line

-- how many brackets are open behind a byte: "a closing bracket taking one off but never below 0"
abbrev pub open_behind : ℕ → ℕ → ℕ
open_behind n b = cond (eqb b opening) (suc n) (cond (eqb b closing) (n - 1) n)

-- "more than 16 brackets open at some byte", where n are open before the first
unfoldable pub too_deep : ℕ → List ℕ → Bool
too_deep n [] = false
too_deep n (b ∷ bs) = ltb max_open (open_behind n b) || too_deep (open_behind n b) bs
