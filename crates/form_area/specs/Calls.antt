-- What a call on lists answers does not lean on what the lent memory held before, only on its length.
use Rattle.errors.specs.declared.Refusal.{Refusal}
use Rattle.std.specs.Prelude.{◌≡◌, refl, List, [], ◌++◌, ℕ, zero, suc, ◌≤◌, length, take, Result}
use Rattle.std.proofs.Common.{sym, ap, ap₂, ◌∙◌, subst}
use Rattle.area.specs.Area.{pair_refusal, pair_places_refusal, union_entries, common_entries, difference_entries}
use Rattle.errors.specs.Answer.{Answer, answer, Lent, short, ◌else◌}
use Rattle.errors.specs.Cases.{number_case, left}
use Rattle.errors.specs.Gives.{answer_of, Gives}
use Rattle.errors.proofs.GivesLemmas.{lent_gives}
use Rattle.form.specs.declared.Verb.{Verb}
use Rattle.form.specs.declared.Verb.TheVariants.{Plus, Both, Minus}
use Rattle.form_area.specs.Area.{operated, area_given}
use Rattle.merge.specs.Gives.{simplify_gives}
use Rattle.merge.specs.Merge.{simplify_of}
use Rattle.tile_list.specs.Gives.{listed_gives}
use Rattle.tile_list.specs.List.{listed, entries_in_order, places_refusal}
use Rattle.tile_set.specs.Set.{simplified}
use Rattle.constants.specs.Limits.{max_zoom}

-- the list that a call left at the front of its memory
abbrev pub valued : Result ℕ Refusal → List ℕ → Answer (List ℕ)
valued r memory = record { number = (number_case r).number; value = take (number_case r).value memory }

abbrev pub CountFits : Result ℕ Refusal → List ℕ → Type 0
CountFits r memory = (number_case r).value ≤ length memory

-- two calls that give the same, after the same refusals before them
same_given : (refusal : ℕ) (r s : Lent ℕ) (n : ℕ) (items : List ℕ) → Gives r n items → Gives s n items
    → area_given refusal r ≡ area_given refusal s
same_given refusal r s n items a b =
    ap₂ (λ (k : ℕ) (l : List ℕ). answer (refusal else k) [] l) (a.number ∙ sym b.number) (a.front ∙ sym b.front)

pub given_items : (r : Lent ℕ) (n : ℕ) (items : List ℕ) → Gives r n items → area_given 0 r ≡ answer n [] items
given_items r n items a = ap₂ (λ (k : ℕ) (l : List ℕ). answer k [] l) a.number a.front ∙ twice n items
  where
    twice : (n : ℕ) (items : List ℕ) → answer n [] (answer n [] items).value ≡ answer n [] items
    twice zero items = refl
    twice (suc n) items = refl

-- a call's answer as the code has it
module _ (r : Result ℕ Refusal) (exit : List ℕ) (c : Lent ℕ) (e : left r exit ≡ c) (n : ℕ) (items : List ℕ) (a : Gives c n items) where
  pub call_within : CountFits r exit
  call_within = rw (ap (λ (l : Lent ℕ). l.value) e, ap (λ (l : Lent ℕ). l.memory) e) a.within

  pub call_valued : valued r exit ≡ area_given 0 c
  call_valued =
      ap₂ (λ (k : ℕ) (l : List ℕ). record { number = k; value = l }) (ap (λ (l : Lent ℕ). l.number) e ∙ a.number)
      (ap answer_of e ∙ a.front)
      ∙ (parts n items ∙ sym (given_items c n items a))
    where
      parts : (n : ℕ) (items : List ℕ) → record { number = n; value = (answer n [] items).value } ≡ answer n [] items
      parts zero items = refl
      parts (suc n) items = refl

-- the refusals and the entries of each operation
abbrev pub operated_refusal : Verb → List ℕ → List ℕ → List ℕ → ℕ
operated_refusal Plus a b memory = pair_places_refusal a b memory
operated_refusal Both a b memory = pair_places_refusal a b memory
operated_refusal Minus a b memory = pair_refusal a b else short (difference_entries a b) memory

abbrev pub operated_entries : Verb → List ℕ → List ℕ → List ℕ
operated_entries Plus a b = union_entries a b
operated_entries Both a b = common_entries a b
operated_entries Minus a b = difference_entries a b

pub operated_gives : (verb : Verb) (a b memory : List ℕ)
    → Gives (operated verb a b memory) (operated_refusal verb a b memory) (operated_entries verb a b)
operated_gives Plus a b memory = listed_gives (pair_places_refusal a b memory) (a ++ b) (union_entries a b) memory
operated_gives Both a b memory = listed_gives (pair_places_refusal a b memory) (a ++ b) (common_entries a b) memory
operated_gives Minus a b memory = lent_gives (pair_refusal a b else short (difference_entries a b) memory) (difference_entries a b) memory

-- memory of the same length is refused alike
pub simplify_alike : (list m k : List ℕ) → length m ≡ length k → area_given 0 (simplify_of list 0 m) ≡ area_given 0 (simplify_of list 0 k)
unfolding places_refusal
simplify_alike list m k e =
    let f : places_refusal list m ≡ places_refusal list k = rw e in
    same_given 0 (simplify_of list 0 m) (simplify_of list 0 k) (places_refusal list k) _
    (subst (λ (n : ℕ). Gives (simplify_of list 0 m) n (entries_in_order (simplified max_zoom 0 (listed list)))) f (simplify_gives 0 list m))
    (simplify_gives 0 list k)

refused_alike : (verb : Verb) (a b m k : List ℕ) → length m ≡ length k → operated_refusal verb a b m ≡ operated_refusal verb a b k
unfolding pair_places_refusal
refused_alike Plus a b m k e = rw e
refused_alike Both a b m k e = rw e
refused_alike Minus a b m k e = rw e

pub operated_alike : (verb : Verb) (a b m k : List ℕ) → length m ≡ length k
    → area_given 0 (operated verb a b m) ≡ area_given 0 (operated verb a b k)
operated_alike verb a b m k e =
    same_given 0 (operated verb a b m) (operated verb a b k) (operated_refusal verb a b k) (operated_entries verb a b)
    (subst (λ (n : ℕ). Gives (operated verb a b m) n (operated_entries verb a b)) (refused_alike verb a b m k e)
    (operated_gives verb a b m)) (operated_gives verb a b k)
