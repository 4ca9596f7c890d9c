-- What document 01 adds to keys: the leading part that an ancestor has for its key, and the one that two keys share.
use Rattle.std.specs.Prelude.{cond, not, ◌||◌, List, [], ◌∷◌, ℕ, zero, suc, ltb, eqb, length, take}
use Rattle.std.specs.Borrow.{Bor}
use Rattle.constants.specs.Limits.{max_zoom}
use Rattle.errors.specs.Answer.{◌when◌, ◌else◌}
use Rattle.quadkey.specs.Key.{all_digits_of, key_refusal}

-- an ancestor's key of n digits: 3 past the key's own length, which is tested first
abbrev pub ancestor_refusal : List ℕ → ℕ → ℕ
ancestor_refusal key n = 3 when ltb (length key) n else key_refusal key

-- how many leading bytes two keys share
unfoldable pub shared_length : List ℕ → List ℕ → ℕ
shared_length [] t = 0
shared_length (a ∷ s) [] = 0
shared_length (a ∷ s) (b ∷ t) = cond (eqb a b) (suc (shared_length s t)) 0

-- of two keys the refusal that is tested first over both
abbrev pub shared_refusal : List ℕ → List ℕ → ℕ
shared_refusal a b = 4 when (ltb max_zoom (length a) || ltb max_zoom (length b)) else 5 when (not (all_digits_of a) || not (all_digits_of b))

-- the part of the caller's own bytes that is handed back: where it starts, and its bytes.
-- It starts where the key does; it has n bytes, and none where the call is refused
abbrev pub leading_part : Bor (List ℕ) → ℕ → ℕ → (ℕ × ℕ) × List ℕ
leading_part key zero n = (key.ref_ptr, take n key.now)
leading_part key (suc refusal) n = (key.ref_ptr, [])
