-- What stands before a call in a list that grows by one for each: what the call adds is made of that, and it stands there after all calls.
use Rattle.std.specs.Prelude.{◌≡◌, cond, ℕ, suc, ◌≤◌, ◌<◌, ltb, length, take, drop}
use Rattle.std.proofs.Math.Path.{ap}
use Rattle.std.proofs.Common.{sym, ◌∙◌, lt-ltb, le-ltb, take-append-drop, drop-cons, length-take-le}
use mathlib.Core.List.{List, [], ◌∷◌, ◌++◌}
use Rattle.std.proofs.Math.Decide.{dec_lt}
use native.Mathlib.Omega.{arith}
use Rattle.std.proofs.Math.ListN.{get_or, length-append, get_or-eq_default}
use Rattle.std.proofs.Math.Seq.{get_or_at}
use Rattle.builds.specs.InTurn.{in_turn}
use Rattle.builds.proofs.InTurnLemmas.{turns_length, turns_append, turns_keep}

module _ {A C : Type 0} (next : List A → C → A) where
  module _ (calls : List C) (k : ℕ) where
    -- what stands before call k
    abbrev pub standing : List A
    standing = in_turn next [] (take k calls)

    standing_length : k ≤ length calls → length standing ≡ k
    standing_length h = turns_length next [] (take k calls) ∙ (omega (arith, length-take-le k calls h))

    split : in_turn next [] calls ≡ in_turn next standing (drop k calls)
    split = ap (in_turn next []) (sym (take-append-drop k calls)) ∙ turns_append next [] (take k calls) (drop k calls)

    -- what call k adds is made of that
    pub turn_at : (d : A) (c : C) → k < length calls → get_or (in_turn next [] calls) k d ≡ next standing (get_or calls k c)
    unfolding in_turn
    turn_at d c h =
        let l = standing_length (omega arith) in
        let r = next standing (get_or calls k c) in
        let n = length-append standing (r ∷ []) in
        ap (λ (l : List A). get_or l k d) (split ∙ ap (in_turn next standing) (drop-cons calls k c h))
        ∙ (turns_keep next (standing ++ (r ∷ [])) (drop (suc k) calls) d k (omega (arith, l, n)) ∙ get_or_at standing r [] d k l)

    -- and that is what stands for the calls before k after all calls, and nothing behind it
    pub turn_before : (i : ℕ) (d : A) → k ≤ length calls → get_or standing i d ≡ cond (ltb i k) (get_or (in_turn next [] calls) i d) d
    turn_before i d h = pick (dec_lt i k)
      where
        pick : Dec (i < k) → get_or standing i d ≡ cond (ltb i k) (get_or (in_turn next [] calls) i d) d
        pick (yes l) =
            rw (lt-ltb i k l)
            (sym (ap (λ (l : List A). get_or l i d) split ∙ turns_keep next standing (drop k calls) d i (omega (arith, l, standing_length h))))
        pick (no l) = rw (le-ltb i k (omega arith)) (get_or-eq_default standing d (omega (arith, standing_length h)))
