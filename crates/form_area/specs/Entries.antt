-- The keys of `tiles`, one after the other: refused by the first bad one, else entries in the order of the keys.
use Rattle.std.specs.Prelude.{◌≡◌, refl, true, List, [], ◌∷◌, ◌++◌, ℕ, zero, suc, ◌+◌, ◌-◌, ◌≤◌, ◌<◌, length, take, drop, set, Some, None, Result, Ok, Err, ⊤}
use Rattle.std.proofs.Common.{sym, ap, subst, ◌∙◌, append_assoc, append-nil, add-one, arith, length-append, length-drop, length-set, take-suc-set, drop-drop}
use Rattle.std.proofs.lemmas.List.{map-append}
use Rattle.errors.specs.Answer.{number_of, ◌else◌}
use Rattle.errors.specs.declared.Refusal.{Refusal}
use Rattle.errors.specs.Laws.{stands, answer_found}
use Rattle.bits.specs.Tests.{and_parts}
use Rattle.form.specs.Form.{closing, spaced, is_run, all_runs}
use Rattle.form.specs.Front.{KeysFirst}
use Rattle.form.proofs.Keys.{keys_first_key, first_key, key_first, one_key, only_closing}
use Rattle.form.proofs.OnceLemmas.{one_keys}
use Rattle.form.specs.Words.{key_length}
use Rattle.form_area.specs.Area.{key_of_run, keys_refusal, key_entry, run_entries}
use Rattle.ids.specs.Entry.{entry_of}
use Rattle.quadkey.specs.Key.{key_refusal, key_tile}
use Rattle.quadkey.specs.Theorems.{key_to_tile_to_key}
use Rattle.tile.specs.OnMap.{OnMap, no_tile_of}
use Rattle.tile.specs.declared.Tile.{Tile}

-- what is known of the keys when all are entered: none is bad, their count, and the entries if there were places for all
abbrev pub Entered : Result ℕ Refusal → List (List ℕ) → List ℕ → Type 0
Entered (Ok n) runs entries =
    (keys_refusal runs ≡ 0) × (n ≡ length runs) × (n ≤ length entries → take n entries ≡ run_entries runs)
Entered (Err why) runs entries = number_of why ≡ keys_refusal runs

-- one key more: bad, or its entry in place n if there is one
abbrev pub OneEntered : Result ⊤ Refusal → List ℕ → ℕ → List ℕ → List ℕ → Type 0
OneEntered (Ok tt) run n before after = (key_refusal (key_of_run run) ≡ 0) × (after ≡ set before n (key_entry (key_of_run run)))
OneEntered (Err why) run n before after = number_of why ≡ key_refusal (key_of_run run)

-- no bad key among the first ones
pub keys_refusal_append : (done runs : List (List ℕ)) → keys_refusal done ≡ 0 → keys_refusal (done ++ runs) ≡ keys_refusal runs
unfolding keys_refusal
keys_refusal_append [] runs e = refl
keys_refusal_append (run ∷ done) runs e = go (key_refusal (key_of_run run)) e (keys_refusal_append done runs)
  where
    go : (n : ℕ) → n else keys_refusal done ≡ 0 → (keys_refusal done ≡ 0 → keys_refusal (done ++ runs) ≡ keys_refusal runs)
        → n else keys_refusal (done ++ runs) ≡ keys_refusal runs
    go zero e below = below e
    go (suc n) e below = absurd (omega (arith, e))

-- what the tile of a key says of its entry
pub key_kept : (run : List ℕ) (t : Tile) → record { number = 0; value = t } ≡ key_tile (key_of_run run)
    → (key_refusal (key_of_run run) ≡ 0) × OnMap t.x t.y t.z × (entry_of t.x t.y t.z ≡ key_entry (key_of_run run))
key_kept run t e =
    let a = answer_found (key_refusal (key_of_run run)) no_tile_of _ t e in
    (a.0, rw a.1 (key_to_tile_to_key (key_of_run run) a.0).1, ap (λ (t : Tile). entry_of t.x t.y t.z) a.1)

-- how far the keys have been entered: these are done, those are left
pub record Entering (at n : ℕ) (entries body : List ℕ) (runs : List (List ℕ)) : Type 0 where
  pub done : List (List ℕ)
  pub rest : List (List ℕ)
  pub all : done ++ rest ≡ runs
  pub left : KeysFirst rest [] (drop at body)
  pub within : at ≤ length body
  pub few : n ≤ at
  pub fine : keys_refusal done ≡ 0
  pub counted : n ≡ length done
  pub entered : n ≤ length entries → take n entries ≡ run_entries done

pub none_entered : (entries body : List ℕ) (runs : List (List ℕ)) → KeysFirst runs [] body → Entering 0 0 entries body runs
unfolding keys_refusal
none_entered entries body runs k = record {
  done = [];
  rest = runs;
  all = refl;
  left = k;
  within = omega arith;
  few = omega arith;
  fine = refl;
  counted = refl;
  entered = λ h. refl;
}

-- the key that comes next
pub record NextKey (at : ℕ) (body : List ℕ) (rest : List (List ℕ)) : Type 0 where
  pub run : List ℕ
  pub more : List (List ℕ)
  pub split : rest ≡ run ∷ more
  pub long : key_length (drop at body) ≡ Some (suc (length run))
  pub part : take (length run) (drop (at + 1) body) ≡ run
  pub within : at + suc (length run) < length body
  pub left : KeysFirst more [] (drop (at + suc (length run)) body)

keys_long : (runs : List (List ℕ)) (bytes : List ℕ) → KeysFirst runs [] bytes → length (spaced runs) + 1 ≡ length bytes
keys_long runs bytes k = sym (length-append (spaced runs) (closing ∷ [])) ∙ ap length k.spelled

spaced_long : (run : List ℕ) (runs : List (List ℕ)) → length (spaced (run ∷ runs)) ≡ suc (length run + length (spaced runs))
unfolding spaced
spaced_long run runs = ap suc (length-append run (spaced runs))

tail_runs : (run : List ℕ) (runs : List (List ℕ)) → all_runs (run ∷ runs) ≡ true → all_runs runs ≡ true
unfolding all_runs
tail_runs run runs e = (and_parts (is_run run) (all_runs runs) e).1

none_is_some : {n : ℕ} → None ≡ Some n → ⊥
none_is_some e = cc

same_length : (n m : ℕ) → Some n ≡ Some m → n ≡ m
same_length n m e = cc

module _ (at : ℕ) (body : List ℕ) where
  no_key_at_end : KeysFirst [] [] (drop at body) → key_length (drop at body) ≡ None
  unfolding key_length
  no_key_at_end k = rw (← only_closing [] (drop at body) k)

  pub next_key : (n : ℕ) (rest : List (List ℕ)) → KeysFirst rest [] (drop at body) → key_length (drop at body) ≡ Some n → NextKey at body rest
  next_key n [] k e = absurd (none_is_some (sym (no_key_at_end k) ∙ e))
  next_key n (run ∷ more) k h =
      let first = keys_first_key run more [] (drop at body) k in
      let long = first_key run (spaced more ++ closing ∷ []) (drop at body) first in
      let here = one_key run (take (length run) (drop 1 (drop at body))) (spaced more ++ closing ∷ [])
      (drop (suc (length run)) (drop at body)) (drop at body)
      first (key_first (drop at body) (length run) long) in
      let e : drop 1 (drop at body) ≡ drop (at + 1) body = drop-drop 1 at body in
      let f : drop (suc (length run)) (drop at body) ≡ drop (at + suc (length run)) body = drop-drop (suc (length run)) at body in
      record {
        run = run;
        more = more;
        split = refl;
        long = long;
        part = ap (λ (l : List ℕ). take (length run) l) (sym e) ∙ sym here.0;
        within = omega (arith, keys_long (run ∷ more) (drop at body) k, spaced_long run more, length-drop at body);
        left = record { runs = tail_runs run more k.runs; spelled = here.1 ∙ f };
      }

  no_next_key : (rest : List (List ℕ)) → KeysFirst rest [] (drop at body) → key_length (drop at body) ≡ None → rest ≡ []
  no_next_key [] k h = refl
  no_next_key (run ∷ more) k h =
      let first = keys_first_key run more [] (drop at body) k in
      absurd (none_is_some (sym h ∙ first_key run (spaced more ++ closing ∷ []) (drop at body) first))

one_fine : (run : List ℕ) → key_refusal (key_of_run run) ≡ 0 → keys_refusal (run ∷ []) ≡ 0
unfolding keys_refusal
one_fine run f = rw f

one_bad : (why : Refusal) (run : List ℕ) (runs : List (List ℕ)) → number_of why ≡ key_refusal (key_of_run run)
    → keys_refusal (run ∷ runs) ≡ number_of why
unfolding keys_refusal
one_bad why run runs f = stands why (keys_refusal runs) f

one_more_entry : (done : List (List ℕ)) (run : List ℕ) (n : ℕ) (entries after : List ℕ) → after ≡ set entries n (key_entry (key_of_run run))
    → (n ≤ length entries → take n entries ≡ run_entries done) → n + 1 ≤ length after → take (n + 1) after ≡ run_entries (done ++ (run ∷ []))
one_more_entry done run n entries after g before h =
    let l : length after ≡ length entries = ap length g ∙ length-set entries n _ in
    rw (g, add-one n, take-suc-set entries n (key_entry (key_of_run run)) (omega (arith, h, l)), before (omega (arith, h, l)))
    (sym (map-append (λ (r : List ℕ). key_entry (key_of_run r)) done (run ∷ [])))

module _ (at n : ℕ) (entries body : List ℕ) (runs : List (List ℕ)) (e : Entering at n entries body runs) where
  all_again : (k : NextKey at body e.rest) → e.done ++ k.run ∷ k.more ≡ runs
  all_again k = ap (λ (l : List (List ℕ)). e.done ++ l) (sym k.split) ∙ e.all

  pub one_entered : (k : NextKey at body e.rest) (after : List ℕ) → OneEntered (Ok tt) k.run n entries after
      → Entering (at + suc (length k.run)) (n + 1) after body runs
  one_entered k after (f, g) = record {
    done = e.done ++ (k.run ∷ []);
    rest = k.more;
    all = append_assoc e.done (k.run ∷ []) k.more ∙ all_again k;
    left = k.left;
    within = omega (arith, k.within);
    few = omega (arith, e.few);
    fine = keys_refusal_append e.done (k.run ∷ []) e.fine ∙ one_fine k.run f;
    counted = omega (arith, e.counted, length-append e.done (k.run ∷ []));
    entered = λ h. one_more_entry e.done k.run n entries after g e.entered h;
  }

  pub bad_entered : (k : NextKey at body e.rest) (why : Refusal) (after : List ℕ)
      → OneEntered (Err why) k.run n entries after
      → Entered (Err why) runs after
  bad_entered k why after f =
      sym (sym (ap keys_refusal (all_again k))
      ∙ (keys_refusal_append e.done (k.run ∷ k.more) e.fine ∙ one_bad why k.run k.more f))

  pub all_entered : key_length (drop at body) ≡ None → Entered (Ok n) runs entries
  all_entered h =
      let none = no_next_key at body e.rest e.left h in
      let same : e.done ≡ runs = sym (append-nil e.done) ∙ (ap (λ (l : List (List ℕ)). e.done ++ l) (sym none) ∙ e.all) in
      (ap keys_refusal (sym same) ∙ e.fine, e.counted ∙ ap length same, λ k. e.entered k ∙ ap run_entries same)

-- the keys that the body spells, and how far they have been entered
abbrev pub Begun : ℕ → ℕ → List ℕ → List ℕ → Type 0
Begun at n entries body = (runs : List (List ℕ)) × (KeysFirst runs [] body) × Entering at n entries body runs

pub whichever : (r : Result ℕ Refusal) (entries body : List ℕ) (runs : List (List ℕ)) → KeysFirst runs [] body → Entered r runs entries
    → (others : List (List ℕ)) → KeysFirst others [] body → Entered r others entries
whichever r entries body runs k e others l = subst (λ (x : List (List ℕ)). Entered r x entries) (one_keys runs others [] [] body k l).0 e

module _ (at n : ℕ) (entries body : List ℕ) (b : Begun at n entries body) (r : ℕ) (e : key_length (drop at body) ≡ Some r) where
  pub coming : NextKey at body b.2.rest
  coming = next_key at body r b.2.rest b.2.left e

  pub coming_length : r ≡ suc (length coming.run)
  coming_length = same_length _ _ (sym e ∙ coming.long)

  coming_part : take (at + r - (at + 1)) (drop (at + 1) body) ≡ coming.run
  coming_part = let f : at + r - (at + 1) ≡ length coming.run = omega (arith, coming_length) in rw f coming.part

  pub key_begun : (c : Result ⊤ Refusal) (after : List ℕ) → OneEntered c (take (at + r - (at + 1)) (drop (at + 1) body)) n entries after
      → c ≡ (Ok tt)
      → Begun (at + r) (n + 1) after body
  key_begun c after k f =
      let l = subst (λ (x : Result ⊤ Refusal). OneEntered x coming.run n entries after) f
      (subst (λ (x : List ℕ). OneEntered c x n entries after) coming_part k) in (
        b.0,
        b.1,
        subst (λ (x : ℕ). Entering (at + x) (n + 1) after body b.0) (sym coming_length)
            (one_entered at n entries body b.0 b.2 coming after l),
      )

  pub key_refused : (c : Result ⊤ Refusal) (why : Refusal) (after : List ℕ)
      → OneEntered c (take (at + r - (at + 1)) (drop (at + 1) body)) n entries after → c ≡ Err why
      → (others : List (List ℕ)) → KeysFirst others [] body → Entered (Err why) others after
  key_refused c why after k f =
      let l = subst (λ (x : Result ⊤ Refusal). OneEntered x coming.run n entries after) f
      (subst (λ (x : List ℕ). OneEntered c x n entries after) coming_part k) in
      whichever (Err why) after body b.0 b.1 (bad_entered at n entries body b.0 b.2 coming why after l)
