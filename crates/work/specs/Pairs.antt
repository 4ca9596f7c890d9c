-- The tests of two lists: refusals 7 and 11, and the locations of both where they are passed.
use Rattle.std.specs.Prelude.{◌≡◌, refl, Bool, true, false, not, List, ◌++◌, map, ℕ, ◌+◌, ◌-◌, length, take, drop}
use Rattle.std.proofs.Common.{sym, ap, ap₂, ◌∙◌, arith, length-append, take_at, drop_at}
use Rattle.std.proofs.lemmas.Bool.{false≢true}
use borrow.Rule.Slice.PartMut.{put_mid}
use Rattle.std.proofs.lemmas.List.{length-map}
use Rattle.bits.specs.Tests.{and_parts, not_true, not_false, all_of}
use Rattle.exchange.specs.Laws.{both_parts}
use Rattle.ids.specs.Entry.{is_entry}
use Rattle.overlay.specs.Overlay.{TwoSets}
use Rattle.quadtree.specs.Lists.{entry_key, Keyed, keys_refused, keys_fine}
use Rattle.quadtree.specs.declared.Key.TheVariants.{Location}
use Rattle.settled.specs.Answers.{Tested}
use Rattle.sort.specs.Sorted.{sort_length}
use Rattle.work.specs.Steps.{KeyedBoth, InRuns, SettledBoth, Located}
use Rattle.work.specs.Work.{locations_of}

-- the keys of both lists, one list's behind the other's

abbrev keys_of : List ℕ → List ℕ
keys_of list = map (entry_key Location) list

module _ {a b keys : List ℕ} (k : KeyedBoth a b keys true) where
  pub both_entries : (all_of is_entry a ≡ true) × (all_of is_entry b ≡ true)
  both_entries = and_parts (all_of is_entry a) (all_of is_entry b) (sym k.answer)

  pub first_keys : take (length a) keys ≡ keys_of a
  first_keys = ap (take (length a)) (k.both refl) ∙ take_at (keys_of a) (keys_of b) (length a) (length-map a (entry_key Location))

  pub second_keys : drop (length a) keys ≡ keys_of b
  second_keys = ap (drop (length a)) (k.both refl) ∙ drop_at (keys_of a) (keys_of b) (length a) (length-map a (entry_key Location))

-- each list is tested in its part: what is told of the first is told of both, or the second is tested

pub first_no_tile : {a b keys part : List ℕ} {fine : Bool} → Keyed Location a part fine → not fine ≡ true → KeyedBoth a b keys false
first_no_tile {a} {part = part} {fine} k e =
    record { answer = rw (← keys_refused Location fine a part k e); both = λ f. absurd (false≢true f) }

pub first_not_settled : {a b keys part : List ℕ} {r : Bool} → Tested a part r → not r ≡ true → SettledBoth a b keys false
first_not_settled {r = r} k e = record { answer = rw (← (sym (not_true r e) ∙ k.answer)); in_runs = λ f. absurd (false≢true f) }

-- the first part of the keys was lent and has come back as `first`, and then the rest as `second`
abbrev refilled : List ℕ → List ℕ → List ℕ → List ℕ → List ℕ
refilled a keys first second =
    put_mid (length a) (length (first ++ drop (length a) keys) - length a) (first ++ drop (length a) keys) second

module _ (a b keys first : List ℕ) (e : length a + length b ≡ length keys) (l : length first ≡ length (take (length a) keys)) where
  refilled_both : (second : List ℕ) → refilled a keys first second ≡ first ++ second
  refilled_both second = both_parts keys first (length a) (omega (arith, e)) l second

  pub keyed_both : {second : List ℕ} {fine r : Bool} → Keyed Location a first fine → not fine ≡ false → Keyed Location b second r
      → KeyedBoth a b (refilled a keys first second) r
  keyed_both {second} {fine} k f m = record {
    answer = rw (← keys_fine Location fine a first k f) m.answer;
    both = λ g. refilled_both second ∙ ap₂ ◌++◌ (k.keys (not_false fine f)) (m.keys g);
  }

  pub settled_both : {second : List ℕ} {fine r : Bool} → Tested a first fine → not fine ≡ false → Tested b second r
      → SettledBoth a b (refilled a keys first second) r
  settled_both {second} {fine} {r} k f m = record { answer = rw (← (sym passed ∙ k.answer)) m.answer; in_runs = in_runs }
    where
      passed : fine ≡ true
      passed = not_false fine f

      in_runs : r ≡ true → InRuns a b (refilled a keys first second)
      in_runs g = record {
        locations = refilled_both second ∙ ap₂ ◌++◌ (k.in_order passed) (m.in_order g);
        first = rw (← k.in_order passed) (k.runs passed);
        second = rw (← m.in_order g) (m.runs g);
      }

-- the refusal of the two

module _ {a b keys : List ℕ} {fine : Bool} (k : KeyedBoth a b keys fine) where
  pub located_no_tile : {after : List ℕ} {n : ℕ} → not fine ≡ true → n ≡ 7 → Located a b after n
  located_no_tile e f = record { refusal = f ∙ rw (← (sym (not_true fine e) ∙ k.answer)); in_runs = λ z. absurd (omega (arith, f, z)) }

  module _ {after : List ℕ} {r : Bool} (e : not fine ≡ false) (m : SettledBoth a b after r) where
    pub located_not_settled : {n : ℕ} → not r ≡ true → n ≡ 11 → Located a b after n
    located_not_settled f g = record {
      refusal = g ∙ rw (← (sym (not_false fine e) ∙ k.answer), ← (sym (not_true r f) ∙ m.answer));
      in_runs = λ z. absurd (omega (arith, g, z));
    }

    pub located_fine : not r ≡ false → Located a b after 0
    located_fine f = record {
      refusal = rw (← (sym (not_false fine e) ∙ k.answer), ← (sym (not_false r f) ∙ m.answer));
      in_runs = λ z. m.in_runs (not_false r f);
    }

-- the locations of both as two settled sets
module _ {a b keys : List ℕ} (r : InRuns a b keys) where
  locations_length : length (locations_of a) ≡ length a
  locations_length = sort_length (keys_of a) ∙ length-map a (entry_key Location)

  pub first_locations : take (length a) keys ≡ locations_of a
  first_locations = ap (take (length a)) r.locations ∙ take_at (locations_of a) (locations_of b) (length a) locations_length

  pub second_locations : drop (length a) keys ≡ locations_of b
  second_locations = ap (drop (length a)) r.locations ∙ drop_at (locations_of a) (locations_of b) (length a) locations_length

  pub runs_parted : TwoSets keys (length a)
  runs_parted = record {
    within = rw r.locations (omega (arith, length-append (locations_of a) (locations_of b), locations_length));
    first = rw first_locations r.first;
    second = rw second_locations r.second;
  }
