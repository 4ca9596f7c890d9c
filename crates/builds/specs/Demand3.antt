-- Demand 3, as one claim about whole builds, which `demand_3` of proofs/Demand3.antt proves. What a build is and what comes back of it
-- stands in `Build`, the plain account in `Account`, what the refusals mean in `Refusals`; ground and settled in the crate `ground`, over
-- any deepest zoom.
-- Document 02, K11: "Ground is counted in zoom-30 tiles", and "Uniqueness and least length are claimed over zooms 0 to 30". So where
-- the paper's words below have 29, the statement has `max_zoom`, which is 30.
use Rattle.std.specs.Prelude.{◌≡◌, ◌↔◌, Bool, true, cond, not, ◌&&◌, ◌||◌, ℕ, ◌≤◌, ◌<◌, ltb, length, get_or}
use mathlib.Core.List.{List, [], ◌++◌, map, Memᴰ}
use Rattle.area.specs.Area.{tiles_of, ground_of, settled_entries}
use Rattle.bits.specs.Tests.{all_of}
use Rattle.builds.specs.Account.{Kept, nothing, nothing_kept, told}
use Rattle.builds.specs.Account.{kept_of, account}
use Rattle.builds.specs.Build.{Operand, own, earlier, Operation, settling, union, common_part, difference, Call, Build}
use Rattle.builds.specs.Build.{nothing_back, performed, run}
use Rattle.builds.specs.Refusals.{Refuses}
use Rattle.constants.specs.Limits.{max_zoom}
use Rattle.errors.specs.Answer.{Lent}
use Rattle.errors.specs.Gives.{answer_of}
use Rattle.ground.specs.Ground.{ground, Same, Settled}
use Rattle.ids.specs.Entry.{is_entry}
use Rattle.settled.specs.Settled.{is_settled}
use Rattle.tile.specs.declared.Tile.{Tile}
use Rattle.tile_set.specs.Holds.{Valid}

-- Call i of a build, what came back of it, its answer, and what the account keeps of it. The answer of a refused call is the empty list,
-- and so is that of a call that was not made.
abbrev pub no_call : Call
no_call = record { asked = settling (own []); memory = [] }

abbrev pub call_at : Build → ℕ → Call
call_at build i = get_or build i no_call

abbrev pub returned : Build → ℕ → Lent ℕ
returned build i = get_or (run [] build) i nothing_back

abbrev pub call_answer : Build → ℕ → List ℕ
call_answer build i = answer_of (returned build i)

abbrev pub kept : Build → ℕ → Kept
kept build i = get_or (account [] (map told build)) i nothing_kept

-- call i gave an answer
pub record Answered (build : Build) (i : ℕ) : Type 0 where
  pub made : i < length build
  pub accepted : (returned build i).number ≡ 0

-- call i gave an answer to this
pub record AnsweredTo (build : Build) (i : ℕ) (asked : Operation) : Type 0 where
  pub answered : Answered build i
  pub to : (call_at build i).asked ≡ asked

-- The list that an operand of call k names: the caller's own, or the answer of call i as the whole build returns it, if i comes before k.
-- No other call can be named: that is no build, and is read as the empty list.
abbrev pub list_named : Build → ℕ → Operand → List ℕ
list_named build k (own list) = list
list_named build k (earlier i) = cond (ltb i k) (call_answer build i) []

-- the same for the account: "A list of the caller's own stands for its ground, an answer for the set kept with it"
abbrev pub set_named : Build → ℕ → Operand → ℕ → ℕ → Bool
set_named build k (own list) = ground_of list
set_named build k (earlier i) = cond (ltb i k) (kept build i).set nothing

-- "Where a refusal below asks for the entries or the count of an answer, they are those of the one settled list whose ground is that set"
abbrev pub entries_named : Build → ℕ → Operand → List ℕ
entries_named build k (own list) = list
entries_named build k (earlier i) = settled_entries (set_named build k (earlier i))

-- the number that came back of call k is the first that applies to the lists named and to the memory lent
abbrev pub RefusedByWords : Build → ℕ → Type 0
RefusedByWords build k =
    let c = call_at build k in
    Refuses (λ a. ground_of (list_named build k a)) (list_named build k) c.asked (length c.memory) (returned build k).number

-- The clauses on answers hold of refused calls too: their answer is read as the empty list, and the account keeps the empty set for them.
-- Clauses that need a call to be made, or accepted, say so.
pub record Demand3 (one other : Build) : Type 0 where
  -- "each fed lists of the caller's own or answers given earlier in the build": what comes back of a call is what its operation gives for
  -- the lists that its operands name
  pub fed : (k : ℕ) → k < length one → returned one k ≡ performed (list_named one k) (call_at one k).asked (call_at one k).memory
  -- "with its entries as they were returned": calls that are made later change nothing of it, nor of what is kept
  pub stays : (later : Build) (k : ℕ) → k < length one
      → (returned (one ++ later) k ≡ returned one k) × (kept (one ++ later) k ≡ kept one k)
  -- "fed with the calls alone": what the account keeps of a call is made of what it is told of it and of the sets named
  pub fed_alone : (k : ℕ) → k < length one → kept one k ≡ kept_of (set_named one k) (entries_named one k) (told (call_at one k))
  -- "Just those calls are refused that the paper refuses", each with the account's number; and by what the numbers mean, of the lists named
  pub refusals : (k : ℕ) → (returned one k).number ≡ (kept one k).refusal
  pub refused_by_words : (k : ℕ) → k < length one → RefusedByWords one k
  -- "each answer is settled"
  pub settled : (k : ℕ) → Settled max_zoom (tiles_of (call_answer one k))
  -- "and covers exactly the zoom-29 tiles that the paper's plain account, fed with the calls alone, keeps for it"
  pub ground_kept : (k : ℕ) → Same max_zoom (ground_of (call_answer one k)) (kept one k).set
  -- "for settling those of the list handed in, for the others those in either list, in both, or in the first only"
  pub of_the_list : (k : ℕ) (a : Operand) → AnsweredTo one k (settling a)
      → Same max_zoom (ground_of (call_answer one k)) (ground_of (list_named one k a))
  pub in_either : (k : ℕ) (a b : Operand) → AnsweredTo one k (union a b)
      → Same max_zoom (ground_of (call_answer one k)) (λ X Y. ground_of (list_named one k a) X Y || ground_of (list_named one k b) X Y)
  pub in_both : (k : ℕ) (a b : Operand) → AnsweredTo one k (common_part a b)
      → Same max_zoom (ground_of (call_answer one k)) (λ X Y. ground_of (list_named one k a) X Y && ground_of (list_named one k b) X Y)
  pub in_first_only : (k : ℕ) (a b : Operand) → AnsweredTo one k (difference a b)
      → Same max_zoom (ground_of (call_answer one k)) (λ X Y. ground_of (list_named one k a) X Y && not (ground_of (list_named one k b) X Y))
  -- "Two answers, from one build or from two, are the same list exactly when they cover the same ground"
  pub same_ground : (i j : ℕ) → (call_answer one i ≡ call_answer other j)
      ↔ Same max_zoom (ground_of (call_answer one i)) (ground_of (call_answer other j))
  -- "Answers are the same list if their counts and entries are": the count is the answer's length
  pub counted : (k : ℕ) → (returned one k).value ≡ length (call_answer one k)
  -- "Every list of tiles of zoom 0 to 29 that covers just an answer's ground, repeats and overlaps allowed, has at least as many entries as
  -- the count returned with the answer"
  pub least : (k : ℕ) (tiles : List Tile) → ((t : Tile) → Memᴰ t tiles → Valid max_zoom t)
      → Same max_zoom (ground max_zoom tiles) (ground_of (call_answer one k)) → (returned one k).value ≤ length tiles

-- The account's own notions are not empty. Each set has a settled list, and only one; refusals 7 and 11 never apply to it.
pub record OneSettledList (G : ℕ → ℕ → Bool) : Type 0 where
  pub settled : Settled max_zoom (tiles_of (settled_entries G))
  pub its_ground : Same max_zoom (ground_of (settled_entries G)) G
  pub only : (list : List ℕ) → Settled max_zoom (tiles_of list) → Same max_zoom (ground_of list) G → list ≡ settled_entries G
  pub not_7 : all_of is_entry (settled_entries G) ≡ true
  pub not_11 : is_settled (settled_entries G) ≡ true
