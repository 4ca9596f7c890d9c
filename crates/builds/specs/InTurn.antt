-- Lists that grow by one for each call: what is added is made of the call and of what stands before it. What stands is never changed.
use mathlib.Core.List.{List, [], ◌∷◌, ◌++◌}

unfoldable pub in_turn : {A C : Type 0} → (List A → C → A) → List A → List C → List A
in_turn next back [] = back
in_turn next back (c ∷ calls) = in_turn next (back ++ (next back c ∷ [])) calls
