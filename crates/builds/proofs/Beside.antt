-- What comes back of a build beside what the account keeps: call by call the same refusal, and the answer is the settled list of the set.
use Rattle.std.specs.Prelude.{◌≡◌, refl, Bool, List, [], ◌∷◌, ◌++◌, map, ℕ, zero, suc, length, get_or}
use Rattle.std.proofs.Common.{sym, ◌∙◌}
use Rattle.std.proofs.Math.Path.{ap₂}
use Rattle.std.proofs.Math.Bool.{not, ◌&&◌, ◌||◌}
use Rattle.area.specs.Area.{ground_of, settled_entries, pair_places_refusal, union_entries, common_entries, difference_entries}
use Rattle.area.proofs.Grounds.{settled_ground, settled_none, simplify_entries, settled_same}
use Rattle.builds.specs.Account.{told, Kept, nothing_kept, set_at, set_for, entries_for, set_kept, refusal_of, keep, kept_next, account}
use Rattle.builds.specs.Build.{Operand, own, earlier, Operation, settling, union, common_part, difference, Build}
use Rattle.builds.specs.Build.{nothing_back, handed_in, performed, comes_back, run}
use Rattle.builds.specs.InTurn.{in_turn}
use Rattle.constants.specs.Limits.{max_zoom}
use Rattle.errors.specs.Answer.{Lent}
use Rattle.errors.specs.Gives.{answer_of, Gives}
use Rattle.errors.proofs.GivesLemmas.{lent_gives}
use Rattle.errors.specs.Laws.{else_zero}
use Rattle.ground.specs.Ground.{Same}
use Rattle.tile_list.specs.Gives.{listed_gives}
use Rattle.tile_list.specs.Laws.{accepted_entries}
use Rattle.tile_list.specs.List.{listed, entries_in_order, places_refusal, list_answer}
use Rattle.tile_set.specs.Set.{simplified}

-- what came back of a call, and what is kept of it
pub record Agree (r : Lent ℕ) (k : Kept) : Type 0 where
  pub refusal : r.number ≡ k.refusal
  pub answer : answer_of r ≡ settled_entries k.set
  pub count : r.value ≡ length (answer_of r)

abbrev pub AllAgree : List (Lent ℕ) → List Kept → Type 0
AllAgree [] [] = Unit {0}
AllAgree [] (k ∷ ks) = ⊥
AllAgree (r ∷ rs) [] = ⊥
AllAgree (r ∷ rs) (k ∷ ks) = Agree r k × AllAgree rs ks

beside_more : (rs : List (Lent ℕ)) (ks : List Kept) {r : Lent ℕ} {k : Kept} → AllAgree rs ks → Agree r k
    → AllAgree (rs ++ (r ∷ [])) (ks ++ (k ∷ []))
beside_more [] [] b a = (a, tt)
beside_more [] (k ∷ ks) b a = absurd b
beside_more (r ∷ rs) [] b a = absurd b
beside_more (r ∷ rs) (k ∷ ks) b a = (b.0, beside_more rs ks b.1 a)

-- of each call, also of none
pub agree_at : (rs : List (Lent ℕ)) (ks : List Kept) → AllAgree rs ks → (i : ℕ) → Agree (get_or rs i nothing_back) (get_or ks i nothing_kept)
agree_at [] [] b i = record { refusal = refl; answer = sym settled_none; count = refl }
agree_at [] (k ∷ ks) b i = absurd b
agree_at (r ∷ rs) [] b i = absurd b
agree_at (r ∷ rs) (k ∷ ks) b zero = b.0
agree_at (r ∷ rs) (k ∷ ks) b (suc i) = agree_at rs ks b.1 i

-- the lists that go in are those that the account asks of, and stand for its sets
module _ (rs : List (Lent ℕ)) (ks : List Kept) (b : AllAgree rs ks) where
  same_entries : (a : Operand) → handed_in rs a ≡ entries_for ks a
  same_entries (own list) = refl
  same_entries (earlier i) = (agree_at rs ks b i).answer

  same_set : (a : Operand) → Same max_zoom (ground_of (entries_for ks a)) (set_for ks a)
  same_set (own list) X Y p q = refl
  same_set (earlier i) X Y p q = settled_ground (set_at ks i) X Y p q

-- what a call gives, accepted and refused, beside what is kept
agree_given : (r : Lent ℕ) (n : ℕ) (items : List ℕ) (G : ℕ → ℕ → Bool) → Gives r n items → (n ≡ 0 → items ≡ settled_entries G)
    → Agree r (keep n G)
agree_given r zero items G g e = record { refusal = g.number; answer = g.front ∙ e refl; count = g.count }
agree_given r (suc n) items G g e = record { refusal = g.number; answer = g.front ∙ sym settled_none; count = g.count }

agree_listed : (n : ℕ) (list items memory : List ℕ) (G : ℕ → ℕ → Bool) → (n ≡ 0 → items ≡ settled_entries G)
    → Agree (list_answer n 0 (length items) list items memory) (keep n G)
agree_listed n list items memory G e = agree_given _ n items G (listed_gives n list items memory) e

-- one call more
module _ (rs : List (Lent ℕ)) (ks : List Kept) (b : AllAgree rs ks) where
  abbrev set : Operand → ℕ → ℕ → Bool
  set = set_for ks

  abbrev list : Operand → List ℕ
  list = entries_for ks

  -- the refusal of a call on memory of this length
  abbrev refused : Operation → List ℕ → ℕ
  refused asked memory = refusal_of set list (record { asked = asked; places = length memory })

  agree : (asked : Operation) (memory : List ℕ)
      → Agree (performed (handed_in rs) asked memory) (keep (refused asked memory) (set_kept set asked))
  unfolding places_refusal pair_places_refusal
  agree (settling a) memory =
      rw (same_entries rs ks b a)
      (agree_listed (refused (settling a) memory) (list a) (entries_in_order (simplified max_zoom 0 (listed (list a)))) memory (set a)
      (λ e. simplify_entries (list a) (accepted_entries (list a) (else_zero _ _ e).0)
      ∙ settled_same (ground_of (list a)) (set a) (same_set rs ks b a)))
  agree (union p q) memory =
      rw (same_entries rs ks b p, same_entries rs ks b q)
      (agree_listed (refused (union p q) memory) (list p ++ list q) (union_entries (list p) (list q)) memory (set_kept set (union p q))
      (λ e. settled_same (λ X Y. ground_of (list p) X Y || ground_of (list q) X Y) (set_kept set (union p q))
      (λ X Y i j. ap₂ ◌||◌ (same_set rs ks b p X Y i j) (same_set rs ks b q X Y i j))))
  agree (common_part p q) memory =
      rw (same_entries rs ks b p, same_entries rs ks b q)
      (agree_listed (refused (common_part p q) memory) (list p ++ list q) (common_entries (list p) (list q)) memory
      (set_kept set (common_part p q))
      (λ e. settled_same (λ X Y. ground_of (list p) X Y && ground_of (list q) X Y) (set_kept set (common_part p q))
      (λ X Y i j. ap₂ ◌&&◌ (same_set rs ks b p X Y i j) (same_set rs ks b q X Y i j))))
  agree (difference p q) memory =
      rw (same_entries rs ks b p, same_entries rs ks b q, left)
      (agree_given _ (refused (difference p q) memory) (settled_entries (set_kept set (difference p q))) (set_kept set (difference p q))
      (lent_gives (refused (difference p q) memory) (settled_entries (set_kept set (difference p q))) memory) (λ e. refl))
    where
      left : difference_entries (list p) (list q) ≡ settled_entries (set_kept set (difference p q))
      left =
          settled_same (λ X Y. ground_of (list p) X Y && not (ground_of (list q) X Y)) (set_kept set (difference p q))
          (λ X Y i j. ap₂ (λ (u v : Bool). u && not v) (same_set rs ks b p X Y i j) (same_set rs ks b q X Y i j))

-- the whole build
pub beside : (rs : List (Lent ℕ)) (ks : List Kept) → AllAgree rs ks → (build : Build)
    → AllAgree (run rs build) (account ks (map told build))
unfolding in_turn
beside rs ks b [] = b
beside rs ks b (c ∷ build) =
    beside (rs ++ (comes_back rs c ∷ [])) (ks ++ (kept_next ks (told c) ∷ []))
    (beside_more rs ks b (agree rs ks b c.asked c.memory)) build
