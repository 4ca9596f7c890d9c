-- The proof of specs/Demand3.antt: `demand_3`. An answer is the settled list of the set that is kept, and what call k finds for an operand
-- is what its name says of the whole build. Then, that the account's own notions are not empty.
use Rattle.std.specs.Prelude.{◌≡◌, refl, ◌↔◌, Bool, true, false, cond, not, ◌&&◌, ◌||◌, ℕ, zero, suc, ◌≤◌, ◌<◌, ltb, length, get_or}
use Rattle.std.proofs.Common.{sym, ap, ap₂, ◌∙◌, subst, arith}
use mathlib.Core.List.{List, [], ◌++◌, map, map-append}
use Rattle.std.proofs.lemmas.List.{length-map}
use Rattle.std.proofs.Math.ListN.{get_or-map}
use Rattle.area.specs.Area.{tiles_of, ground_of, settled_entries}
use Rattle.area.proofs.Grounds.{settled_tiles, settled_ground, settled_none, one_settled}
use Rattle.area.proofs.Settled.{settled_test, settled_entries_settled}
use Rattle.bits.specs.Tests.{all_of}
use Rattle.builds.specs.Account.{Kept, nothing, nothing_kept, told, set_for, entries_for, set_kept, refusal_of, keep}
use Rattle.builds.specs.Account.{kept_of, kept_next, account}
use Rattle.builds.proofs.Beside.{Agree, beside, agree_at}
use Rattle.builds.specs.Build.{Operand, own, earlier, Operation, settling, union, common_part, difference, Build}
use Rattle.builds.specs.Build.{nothing_back, handed_in, performed, comes_back, run}
use Rattle.builds.proofs.InTurnLemmas.{turns_length, turns_append, turns_keep}
use Rattle.builds.proofs.Standing.{standing, turn_at, turn_before}
use Rattle.builds.specs.Refusals.{Refuses}
use Rattle.builds.proofs.RefusalsLemmas.{what_comes_back_is_refused}
use Rattle.constants.specs.Limits.{max_zoom}
use Rattle.errors.specs.Answer.{Lent}
use Rattle.errors.specs.Gives.{answer_of}
use Rattle.ground.specs.Ground.{Same, Settled}
use Rattle.ground.proofs.Theorems.{settled_list_settled, settled_is_least}
use Rattle.ids.specs.Entry.{entry_tile, is_entry}
use Rattle.settled.specs.Settled.{is_settled}
use Rattle.tile.specs.declared.Tile.{Tile}
use Rattle.builds.specs.Demand3.{AnsweredTo, Demand3, OneSettledList, RefusedByWords, call_answer, call_at, entries_named, kept, list_named, no_call, returned, set_named}

agreed : (build : Build) (k : ℕ) → Agree (returned build k) (kept build k)
agreed build k = agree_at (run [] build) (account [] (map told build)) (beside [] [] tt build) k

-- an answer is the settled list of the set that is kept
its_list : (build : Build) (k : ℕ) → Settled max_zoom (tiles_of (call_answer build k))
its_list build k = rw ((agreed build k).answer, settled_tiles (kept build k).set) (settled_list_settled max_zoom (kept build k).set)

its_ground : (build : Build) (k : ℕ) → Same max_zoom (ground_of (call_answer build k)) (kept build k).set
its_ground build k = rw (agreed build k).answer (settled_ground (kept build k).set)

told_length : (build : Build) → length (map told build) ≡ length build
told_length build = length-map build told

-- what call k finds for an operand is what its name says of the whole build
module _ (build : Build) (k : ℕ) (made : k < length build) where
  handed_list : (a : Operand) → handed_in (standing comes_back build k) a ≡ list_named build k a
  handed_list (own list) = refl
  handed_list (earlier i) = ap answer_of (turn_before comes_back build k i nothing_back (omega arith)) ∙ pick (ltb i k)
    where
      pick : (b : Bool) → answer_of (cond b (returned build i) nothing_back) ≡ cond b (call_answer build i) []
      pick true = refl
      pick false = refl

  call_returned : returned build k ≡ performed (list_named build k) (call_at build k).asked (call_at build k).memory
  call_returned =
      let c = call_at build k in
      turn_at comes_back build k nothing_back _ made
      ∙ ap (λ (list : Operand → List ℕ). performed list c.asked c.memory) (λ i a. handed_list a i)

  handed_set : (a : Operand) → set_for (standing kept_next (map told build) k) a ≡ set_named build k a
  handed_set (own list) = refl
  handed_set (earlier i) =
      ap (λ (q : Kept). q.set) (turn_before kept_next (map told build) k i nothing_kept (omega (arith, told_length build))) ∙ pick (ltb i k)
    where
      pick : (b : Bool) → (cond b (kept build i) nothing_kept).set ≡ cond b (kept build i).set nothing
      pick true = refl
      pick false = refl

  handed_entries : (a : Operand) → entries_for (standing kept_next (map told build) k) a ≡ entries_named build k a
  handed_entries (own list) = refl
  handed_entries (earlier i) = ap settled_entries (handed_set (earlier i))

  call_kept : kept build k ≡ kept_of (set_named build k) (entries_named build k) (told (call_at build k))
  call_kept =
      turn_at kept_next (map told build) k nothing_kept (told no_call) (omega (arith, told_length build))
      ∙ (ap (kept_next (standing kept_next (map told build) k)) (get_or-map told build k no_call)
      ∙ ap₂ (λ (set : Operand → ℕ → ℕ → Bool) (entries : Operand → List ℕ). kept_of set entries (told (call_at build k)))
      (λ i a. handed_set a i) (λ i a. handed_entries a i))

  call_refused : RefusedByWords build k
  call_refused =
      let c = call_at build k in
      subst (Refuses (λ a. ground_of (list_named build k a)) (list_named build k) c.asked (length c.memory))
      (ap (λ (r : Lent ℕ). r.number) (sym call_returned)) (what_comes_back_is_refused (list_named build k) c.asked c.memory)

keep_accepted : (n : ℕ) (G : ℕ → ℕ → Bool) → (keep n G).refusal ≡ 0 → (keep n G).set ≡ G
keep_accepted zero G e = refl
keep_accepted (suc n) G e = absurd (omega (arith, e))

-- an answer covers what its operation keeps of the sets named, and these are the grounds of the lists named
module _ (build : Build) (k : ℕ) where
  same_named : (a : Operand) → Same max_zoom (set_named build k a) (ground_of (list_named build k a))
  same_named (own list) X Y p q = refl
  same_named (earlier i) X Y p q = pick (ltb i k)
    where
      pick : (b : Bool) → cond b (kept build i).set nothing X Y ≡ ground_of (cond b (call_answer build i) []) X Y
      pick true = sym (its_ground build i X Y p q)
      pick false = sym (settled_ground nothing X Y p q) ∙ ap (λ (l : List ℕ). ground_of l X Y) settled_none

  covers : (asked : Operation) → AnsweredTo build k asked → Same max_zoom (ground_of (call_answer build k)) (set_kept (set_named build k) asked)
  covers asked t X Y p q =
      let c = call_at build k in
      let set = set_named build k in
      let e = call_kept build k t.answered.made in
      let accepted = sym (ap (λ (q : Kept). q.refusal) e) ∙ (sym (agreed build k).refusal ∙ t.answered.accepted) in
      let all = keep_accepted (refusal_of set (entries_named build k) (told c)) (set_kept set c.asked) accepted in
      its_ground build k X Y p q
      ∙ (ap (λ (q : Kept). q.set X Y) e ∙ (ap (λ (G : ℕ → ℕ → Bool). G X Y) all ∙ ap (λ (o : Operation). set_kept set o X Y) t.to))

calls_later : (one later : Build) (k : ℕ) → k < length one
    → (returned (one ++ later) k ≡ returned one k) × (kept (one ++ later) k ≡ kept one k)
calls_later one later k h = (
  ap (λ (l : List (Lent ℕ)). get_or l k nothing_back) (turns_append comes_back [] one later)
      ∙ turns_keep comes_back (run [] one) later nothing_back k (omega (arith, turns_length comes_back [] one)),
  ap (λ (l : List Kept). get_or l k nothing_kept)
      (ap (account []) (map-append told one later) ∙ turns_append kept_next [] (map told one) (map told later))
      ∙ turns_keep kept_next (account [] (map told one)) (map told later) nothing_kept k
      (omega (arith, turns_length kept_next [] (map told one), told_length one)),
)

pub demand_3 : (one other : Build) → Demand3 one other
demand_3 one other = record {
  fed = call_returned one;
  stays = calls_later one;
  fed_alone = call_kept one;
  refusals = λ k. (agreed one k).refusal;
  refused_by_words = call_refused one;
  settled = its_list one;
  ground_kept = its_ground one;
  of_the_list = λ k a t X Y p q. covers one k (settling a) t X Y p q ∙ same_named one k a X Y p q;
  in_either = λ k a b t X Y p q. covers one k (union a b) t X Y p q ∙ ap₂ ◌||◌ (same_named one k a X Y p q) (same_named one k b X Y p q);
  in_both = λ k a b t X Y p q. covers one k (common_part a b) t X Y p q ∙ ap₂ ◌&&◌ (same_named one k a X Y p q) (same_named one k b X Y p q);
  in_first_only = λ k a b t X Y p q.
      covers one k (difference a b) t X Y p q ∙ ap₂ (λ (u v : Bool). u && not v) (same_named one k a X Y p q) (same_named one k b X Y p q);
  same_ground = λ i j. (
    λ e X Y p q. ap (λ (l : List ℕ). ground_of l X Y) e,
    λ e. one_settled (ground_of (call_answer other j)) (call_answer one i) (its_list one i) e
        ∙ sym (one_settled (ground_of (call_answer other j)) (call_answer other j) (its_list other j) (λ X Y p q. refl)),
  );
  counted = λ k. (agreed one k).count;
  least = λ k tiles v e. count k tiles (settled_is_least max_zoom (tiles_of (call_answer one k)) tiles (its_list one k) v e);
}
  where
    count : (k : ℕ) (tiles : List Tile) → length (tiles_of (call_answer one k)) ≤ length tiles → (returned one k).value ≤ length tiles
    count k tiles h = rw ((agreed one k).count, ← length-map (call_answer one k) entry_tile) h

pub every_set_has_one_settled_list : (G : ℕ → ℕ → Bool) → OneSettledList G
every_set_has_one_settled_list G =
    let t = settled_entries_settled G in
    record {
      settled = (settled_test (settled_entries G)).0 (rw (t.0, t.1));
      its_ground = settled_ground G;
      only = one_settled G;
      not_7 = t.0;
      not_11 = t.1;
    }

-- "they are those of the one settled list whose ground is that set": what the account asks for in the place of an answer is the answer
pub an_answer_is_the_list_asked_for : (build : Build) (k : ℕ) → call_answer build k ≡ settled_entries (kept build k).set
an_answer_is_the_list_asked_for build k = (agreed build k).answer

-- the refusals' words and the record's: a list passes the tests of 7 and 11 exactly where its tiles are settled
pub refusals_7_and_11_ask_for_settled : (list : List ℕ) → (all_of is_entry list && is_settled list ≡ true) ↔ Settled max_zoom (tiles_of list)
refusals_7_and_11_ask_for_settled = settled_test
