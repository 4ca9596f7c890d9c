-- Where a pair of forms ends: behind its left form stands a space, behind its right form the closing bracket.
use Rattle.std.specs.Prelude.{◌≡◌, ℕ, ◌+◌, drop, get_or, Some, None}
use Rattle.std.proofs.Common.{sym, ap, ◌∙◌, arith, drop-drop}
use mathlib.Core.List.{List, ◌∷◌, ◌++◌, tail-eq_of_cons-eq}
use Rattle.form.specs.Ends.{FormEnds, PairEnds, byte_there, byte_split, split_byte}
use Rattle.form.specs.Form.{space, closing, Form, text}
use Rattle.form.specs.Front.{FormFirst, PairFirst}
use Rattle.form.proofs.OnceLemmas.{one_form}

module _ (bytes : List ℕ) where
  -- the left form of a pair, and what follows it
  left_first : (f g : Form) (rest : List ℕ) → PairFirst f g rest bytes → FormFirst f (space ∷ (text g ++ closing ∷ rest)) bytes
  left_first f g rest p = record { formed = p.formed_left; spelled = p.spelled }

  pub no_left : FormEnds None bytes → PairEnds None bytes
  no_left never p rest a = never p.0 (space ∷ (text p.1 ++ closing ∷ rest)) (left_first p.0 p.1 rest a)

  module _ (n : ℕ) (left : FormEnds (Some n) bytes) where
    -- what follows the left form of a pair is the rest of the bytes
    behind_left : (f g : Form) (rest : List ℕ) → PairFirst f g rest bytes → drop n bytes ≡ space ∷ (text g ++ closing ∷ rest)
    behind_left f g rest a =
        sym (one_form f left.1.0 (space ∷ (text g ++ closing ∷ rest)) (drop n bytes) bytes (left_first f g rest a) left.1.1).1

    pub no_space : (get_or bytes n 0 ≡ space → ⊥) → PairEnds None bytes
    no_space d p rest a = d (split_byte bytes n space _ (behind_left p.0 p.1 rest a))

    module _ (e : get_or bytes n 0 ≡ space) where
      after_space : drop n bytes ≡ space ∷ drop (n + 1) bytes
      after_space = byte_split bytes n space e (λ z. omega (arith, z))

      right_first : (f g : Form) (rest : List ℕ) → PairFirst f g rest bytes → FormFirst g (closing ∷ rest) (drop (n + 1) bytes)
      right_first f g rest a = record {
        formed = a.formed_right;
        spelled = tail-eq_of_cons-eq (sym (behind_left f g rest a) ∙ after_space);
      }

      pub no_right : FormEnds None (drop (n + 1) bytes) → PairEnds None bytes
      no_right never p rest a = never p.1 (closing ∷ rest) (right_first p.0 p.1 rest a)

      module _ (m : ℕ) (right : FormEnds (Some m) (drop (n + 1) bytes)) where
        behind : drop m (drop (n + 1) bytes) ≡ drop (n + 1 + m) bytes
        behind = drop-drop m (n + 1) bytes

        pub no_closing : (get_or bytes (n + 1 + m) 0 ≡ closing → ⊥) → PairEnds None bytes
        no_closing d p rest a =
            let r = (one_form p.1 right.1.0 (closing ∷ rest) (drop m (drop (n + 1) bytes)) (drop (n + 1) bytes)
            (right_first p.0 p.1 rest a) right.1.1).1 in
            d (split_byte bytes (n + 1 + m) closing rest (sym behind ∙ sym r))

        pub a_pair : get_or bytes (n + 1 + m) 0 ≡ closing → PairEnds (Some (n + 1 + m + 1)) bytes
        a_pair c =
            let h = byte_there bytes (n + 1 + m) closing c (λ z. omega (arith, z)) in
            let s = byte_split bytes (n + 1 + m) closing c (λ z. omega (arith, z)) in
            let f = left.1.0 in
            let g = right.1.0 in (
              omega (arith, h),
              (
                (f, g),
                record {
                  formed_left = left.1.1.formed;
                  formed_right = right.1.1.formed;
                  spelled = ap (λ (t : List ℕ). text f ++ space ∷ (text g ++ t)) (sym (behind ∙ s))
                      ∙ (ap (λ (t : List ℕ). text f ++ space ∷ t) right.1.1.spelled
                      ∙ (ap (λ (t : List ℕ). text f ++ t) (sym after_space) ∙ left.1.1.spelled));
                },
              ),
            )
