-- Bytes stored one after the other, from a place of the memory on.
use Rattle.std.specs.Prelude.{◌≡◌, refl, Bool, true, false, List, [], ◌∷◌, ◌++◌, ℕ, suc, ◌+◌, ◌-◌, ◌≤◌, ◌<◌, ltb, length, take, drop, set, Ok, Err}
use Rattle.std.proofs.Common.{sym, ap, ◌∙◌, append_assoc, append-nil, zero-add, arith, length-append, length-drop, drop_of_length-le, drop-drop, ltb-true}
use Rattle.std.proofs.lemmas.List.Edits.{sets, sets-eq}
use Rattle.std.proofs.Math.Seq.{length-sets}
use Rattle.errors.specs.Answer.{Lent, lent, written, ◌when◌}
use Rattle.errors.specs.Cases.{left}
use Rattle.errors.specs.Laws.{never_zero}
use Rattle.errors.specs.Memory.{written_done}
use Rattle.errors.specs.declared.Refusal.{Refusal}
use Rattle.form.specs.Ends.{rest_part}

-- `text` stands from `at` on, and the place behind it is `end`
pub record Stored (text : List ℕ) (at end : ℕ) (before after : List ℕ) : Type 0 where
  pub behind : end ≡ at + length text
  pub memory : after ≡ sets before at text

sets_append : (a b memory : List ℕ) (at : ℕ) → sets (sets memory at a) (at + length a) b ≡ sets memory at (a ++ b)
sets_append [] b memory at = let e : at + 0 ≡ at = omega arith in rw e
sets_append (x ∷ a) b memory at =
    let e : at + suc (length a) ≡ suc at + length a = omega arith in
    rw e (sets_append a b (set memory at x) (suc at))

pub stored_length : {text : List ℕ} {at end : ℕ} {before after : List ℕ} → Stored text at end before after → length after ≡ length before
stored_length {text} {at} {end} {before} s = ap length s.memory ∙ length-sets before at text

pub nothing_stored : (at : ℕ) (memory : List ℕ) → Stored [] at at memory memory
nothing_stored at memory = record { behind = omega arith; memory = refl }

pub one_stored : (b at : ℕ) (memory : List ℕ) → Stored (b ∷ []) at (at + 1) memory (set memory at b)
one_stored b at memory = record { behind = refl; memory = refl }

pub stored_behind : {a b : List ℕ} {at mid end : ℕ} {before between after : List ℕ} → Stored a at mid before between
    → Stored b mid end between after
    → Stored (a ++ b) at end before after
stored_behind {a} {b} {at} {mid} {end} {before} {between} {after} s t = record {
  behind = omega (arith, s.behind, t.behind, length-append a b);
  memory = t.memory ∙ rw (s.memory, s.behind) (sets_append a b before at);
}

-- another text that is the same
pub stored_same : {a b : List ℕ} {at end : ℕ} {before after : List ℕ} → a ≡ b → Stored a at end before after → Stored b at end before after
stored_same {a} {b} {at} {end} {before} {after} e s = rw e at s

-- the memory from a place on, as it is lent and comes back
abbrev pub part_from : ℕ → List ℕ → List ℕ
part_from at memory = take (length memory - at) (drop at memory)

abbrev pub with_part : ℕ → List ℕ → List ℕ → List ℕ
with_part at memory part = take at memory ++ (part ++ drop (length memory - at) (drop at memory))

pub part_length : (at : ℕ) (memory : List ℕ) → length (part_from at memory) ≡ length memory - at
part_length at memory = rw (rest_part memory at) (length-drop at memory)

-- what a call wrote to the front of that part
pub part_stored : (text memory part : List ℕ) {at end : ℕ} → at + length text ≤ length memory
    → part ≡ text ++ drop (length text) (part_from at memory)
    → end ≡ at + length text → Stored text at end memory (with_part at memory part)
part_stored text memory part {at} {end} h e k =
    let past : length (drop at memory) ≤ length memory - at = omega (arith, length-drop at memory) in
    let none : drop (length memory - at) (drop at memory) ≡ [] = drop_of_length-le (drop at memory) past in
    record {
      behind = k;
      memory = rw (e, rest_part memory at, none, append-nil, drop-drop (length text) at memory, ← append_assoc)
          (sym (sets-eq text memory at h));
    }

-- all that was stored, from the front on
pub stored_front : {text : List ℕ} {end : ℕ} {before after : List ℕ} → Stored text 0 end before after → length text ≤ length before
    → after ≡ text ++ drop (length text) before
stored_front {text} {end} {before} {after} s h = s.memory ∙ (sets-eq text before 0 (omega arith) ∙ rw (zero-add (length text)))

-- a call that stored its text from the front on, where the memory came `back` as it was left
pub stored_written : {text : List ℕ} {end k : ℕ} {before after back : List ℕ} → Stored text 0 end before after → k ≡ length text
    → length text ≤ length before
    → back ≡ after
    → left (Ok k) back ≡ written 0 text before
stored_written {text} {end} {k} {before} {after} {back} s e h b = written_done text before back refl h e (b ∙ stored_front s h)

-- what a call that writes a list says, where nothing but its memory can refuse it
module _ {k : ℕ} (items memory after : List ℕ) (fine : k ≡ 0) where
  pub written_counted : {n : ℕ} → left (Ok n) after ≡ written k items memory
      → (n ≡ length items) × (after ≡ items ++ drop (length items) memory)
  written_counted {n} e = pick (ltb (length memory) (length items)) (rw fine at e)
    where
      pick : (b : Bool) → left (Ok n) after ≡ lent (12 when b) items memory
          → (n ≡ length items) × (after ≡ items ++ drop (length items) memory)
      pick true q = let z : ◌≡◌ {A = ℕ} 0 12 = ap (λ (l : Lent ℕ). l.number) q in absurd (omega arith)
      pick false q = (ap (λ (l : Lent ℕ). l.value) q, ap (λ (l : Lent ℕ). l.memory) q)

  pub written_within : {n : ℕ} → left (Ok n) after ≡ written k items memory → n ≤ length after
  written_within e = let w = written_counted e in omega (arith, w.0, ap length w.1 ∙ length-append items (drop (length items) memory))

  pub written_not : (why : Refusal) → left (Err why) after ≡ written k items memory → length memory < length items
  written_not why e = pick (ltb (length memory) (length items)) refl (rw fine at e)
    where
      pick : (b : Bool) → ltb (length memory) (length items) ≡ b → left (Err why) after ≡ lent (12 when b) items memory
          → length memory < length items
      pick true p q = ltb-true _ _ p
      pick false p q = absurd (never_zero why (ap (λ (l : Lent ℕ). l.number) q))

  pub refused_kept : (why : Refusal) → left (Err why) after ≡ written k items memory → after ≡ memory
  refused_kept why e = pick (ltb (length memory) (length items)) (rw fine at e)
    where
      pick : (b : Bool) → left (Err why) after ≡ lent (12 when b) items memory → after ≡ memory
      pick true q = ap (λ (l : Lent ℕ). l.memory) q
      pick false q = absurd (never_zero why (ap (λ (l : Lent ℕ). l.number) q))
