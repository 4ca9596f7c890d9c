-- The leading parts of a key: they are the keys of ancestors, and what a call hands back.
use Rattle.std.specs.Prelude.{◌≡◌, refl, Bool, true, false, List, [], ◌∷◌, ◌++◌, ℕ, zero, suc, ◌+◌, ◌-◌, ◌*◌, ◌/◌, ◌^◌, ◌≤◌, ◌<◌, ltb, length, take, drop}
use Rattle.std.proofs.Common.{sym, ap, ◌∙◌, arith, length-append, length-drop, take-append-drop, pow-add, take_at, ltb-false, le-ltb}
use Rattle.std.proofs.Math.Pow.{high}
use Rattle.std.specs.Borrow.{Bor}
use Rattle.errors.specs.Answer.{number_of, ◌when◌, ◌else◌}
use Rattle.errors.specs.Laws.{positive}
use Rattle.errors.specs.declared.Refusal.{Refusal}
use Rattle.quadkey.specs.Bytes.{digits_first}
use Rattle.quadkey.specs.Key.{key_from, all_digits_of, key_refusal, spelled}
use Rattle.quadkey.specs.Spelling.{key_length_lem, key_in_two, spelled_small}
use Rattle.key_parts.specs.Parts.{ancestor_refusal, leading_part}

-- an ancestor's key is the leading part of the key
pub key_above : (base x y n k : ℕ) → key_from base (x / 2 ^ k) (y / 2 ^ k) n ≡ take n (key_from base x y (n + k))
key_above base x y n k =
    rw (key_in_two base x y n k) (sym (take_at (key_from base (x / 2 ^ k) (y / 2 ^ k) n) (key_from base x y k) n (key_length_lem base _ _ n)))

pub digits_take : (n : ℕ) (key : List ℕ) → all_digits_of key ≡ true → all_digits_of (take n key) ≡ true
unfolding all_digits_of
digits_take zero key e = refl
digits_take (suc n) [] e = refl
digits_take (suc n) (b ∷ bs) e = let p = digits_first b bs e in rw (p.0, digits_take n bs p.1)

-- what the leading part of a key spells
pub spelled_append : (j : ℕ) (s t : List ℕ) → spelled j (s ++ t) ≡ spelled j s * 2 ^ length t + spelled j t
unfolding spelled
spelled_append j [] t = omega arith
spelled_append j (b ∷ s) t = rw (spelled_append j s t, length-append s t, pow-add 2 (length s) (length t)) (omega arith)

pub spelled_take : (j n : ℕ) (key : List ℕ) → n ≤ length key → spelled j key / 2 ^ (length key - n) ≡ spelled j (take n key)
spelled_take j n key h =
    let e : spelled j key ≡ spelled j (take n key) * 2 ^ (length key - n) + spelled j (drop n key) =
    ap (spelled j) (sym (take-append-drop n key)) ∙ rw length-drop at (spelled_append j (take n key) (drop n key)) in
    let s : spelled j (drop n key) < 2 ^ (length key - n) = rw length-drop at (spelled_small j (drop n key)) in
    rw e (high (spelled j (take n key)) (length key - n) s)

pub ancestor_within : (key : List ℕ) (n : ℕ) → ancestor_refusal key n ≡ 0 → n ≤ length key
ancestor_within key n e = pick (ltb (length key) n) refl e
  where
    pick : (p : Bool) → ltb (length key) n ≡ p → (3 when p else key_refusal key) ≡ 0 → n ≤ length key
    pick true q e = absurd (omega arith)
    pick false q e = ltb-false _ _ q

pub ancestor_accepted : (key : List ℕ) (n : ℕ) → ancestor_refusal key n ≡ 0 → (n ≤ length key) × (key_refusal key ≡ 0)
ancestor_accepted key n e = let h = ancestor_within key n e in (h, rw (le-ltb _ _ h) at e)

-- the two ends of a call that hands back a part
pub part_handed : {refusal : ℕ} (key : Bor (List ℕ)) (n : ℕ) → refusal ≡ 0 → (key.ref_ptr, take n key.now) ≡ leading_part key refusal n
part_handed key n e = rw e

pub part_refused : (why : Refusal) {refusal : ℕ} (key : Bor (List ℕ)) (n : ℕ) → number_of why ≡ refusal
    → (key.ref_ptr, []) ≡ leading_part key refusal n
part_refused why key n e = rw (← e, (positive why).1)
