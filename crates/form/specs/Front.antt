-- A form, a key or a list of keys at the front of some bytes, and what follows it.
use Rattle.std.specs.Prelude.{◌≡◌, true, false, List, [], ◌∷◌, ◌++◌, ℕ}
use Rattle.form.specs.Form.{space, closing, Form, is_key_byte, all_runs, is_form, spaced, text}

pub record FormFirst (f : Form) (rest bytes : List ℕ) : Type 0 where
  pub formed : is_form f ≡ true
  pub spelled : text f ++ rest ≡ bytes

-- keys, each with a space before it, and the closing bracket
pub record KeysFirst (keys : List (List ℕ)) (rest bytes : List ℕ) : Type 0 where
  pub runs : all_runs keys ≡ true
  pub spelled : spaced keys ++ closing ∷ rest ≡ bytes

-- two forms with a space between them, and the closing bracket
pub record PairFirst (f g : Form) (rest bytes : List ℕ) : Type 0 where
  pub formed_left : is_form f ≡ true
  pub formed_right : is_form g ≡ true
  pub spelled : text f ++ space ∷ (text g ++ closing ∷ rest) ≡ bytes

-- the first byte, if there is one, is no key's
abbrev pub Ended : List ℕ → Type 0
Ended [] = Unit
Ended (b ∷ bs) = is_key_byte b ≡ false
