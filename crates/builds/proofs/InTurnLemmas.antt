-- Lists that grow by one for each call: how long they get, and that calls that follow change nothing of what stands.
use Rattle.std.specs.Prelude.{◌≡◌, ℕ, ◌+◌, ◌<◌, length}
use Rattle.std.proofs.Math.Path.{refl}
use Rattle.std.proofs.Common.{◌∙◌}
use mathlib.Core.List.{List, [], ◌∷◌, ◌++◌}
use native.Mathlib.Omega.{arith}
use Rattle.std.proofs.Math.ListN.{get_or, length-append, get_or-append}
use Rattle.builds.specs.InTurn.{in_turn}

module _ {A C : Type 0} (next : List A → C → A) where
  -- one for each call
  pub turns_length : (back : List A) (calls : List C) → length (in_turn next back calls) ≡ length back + length calls
  unfolding in_turn
  turns_length back [] = omega arith
  turns_length back (c ∷ calls) =
      turns_length (back ++ (next back c ∷ [])) calls ∙ rw (length-append back (next back c ∷ [])) (omega arith)

  pub turns_append : (back : List A) (a b : List C) → in_turn next back (a ++ b) ≡ in_turn next (in_turn next back a) b
  unfolding in_turn
  turns_append back [] b = refl
  turns_append back (c ∷ a) b = turns_append (back ++ (next back c ∷ [])) a b

  -- calls that follow change nothing of what stands
  pub turns_keep : (back : List A) (calls : List C) (d : A) (i : ℕ) → i < length back → get_or (in_turn next back calls) i d ≡ get_or back i d
  unfolding in_turn
  turns_keep back [] d i h = refl
  turns_keep back (c ∷ calls) d i h =
      turns_keep (back ++ (next back c ∷ [])) calls d i (omega (arith, h, length-append back (next back c ∷ [])))
      ∙ get_or-append back (next back c ∷ []) d i h
