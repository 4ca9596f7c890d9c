-- What the code has worked out of a form's parts is the form's area.
use Rattle.std.specs.Prelude.{◌≡◌, refl, true, false, ℕ, ◌+◌, ◌-◌, ◌≤◌, ◌<◌, eqb, length, take, drop, get_or, Result, Ok, Err, Option, Some, None, unwrap_or}
use Rattle.std.proofs.Math.Path.{sym, ap}
use Rattle.std.proofs.Common.{◌∙◌, arith, length-drop, length-append, take_at, drop_at, drop-drop, lt-ltb, le-ltb, eq-eqb}
use mathlib.Core.List.{List, [], ◌∷◌, ◌++◌}
use Rattle.std.proofs.Math.ListN.{length-map, length-replicate}
use Rattle.bits.specs.Tests.{all_of}
use Rattle.constants.specs.Limits.{max_entries, form_places}
use Rattle.errors.specs.Answer.{Answer, answer, number_of, ◌else◌}
use Rattle.errors.specs.Cases.{left}
use Rattle.errors.specs.Laws.{positive, else_zero}
use Rattle.errors.specs.declared.Refusal.{Refusal}
use Rattle.errors.specs.declared.Refusal.TheVariants.{Memory}
use Rattle.form.specs.Form.{space, closing, Form, tiles, pair, spaced, text}
use Rattle.form.specs.Ends.{FormEnds}
use Rattle.form.specs.Front.{FormFirst, KeysFirst, PairFirst}
use Rattle.form.proofs.OnceLemmas.{one_form}
use Rattle.form.specs.declared.Verb.{Verb}
use Rattle.form_area.specs.Area.{is_dash, key_of_run, keys_refusal, key_entry, run_entries, places, operated, area_given, form_area}
use Rattle.form_area.specs.Calls.{valued, simplify_alike, call_valued, operated_gives, operated_alike}
use Rattle.ids.specs.Entry.{is_entry}
use Rattle.ids.proofs.EntryLemmas.{entry_accepted, entry_tile_again}
use Rattle.merge.specs.Gives.{simplify_gives}
use Rattle.merge.specs.Merge.{simplify_of}
use Rattle.quadkey.specs.Key.{key_refusal}
use Rattle.quadkey.specs.Theorems.{key_to_tile_to_key}
use Rattle.tile_list.specs.List.{list_refusal, places_refusal}

-- a refused call has no list
refused_given : (why : Refusal) (exit : List ℕ) (n : ℕ) (items : List ℕ) → number_of why ≡ n
    → valued (Err why) exit ≡ answer n [] items
refused_given why exit n items e = let p = positive why in rw (← e, p.1)

refused_first : (why : Refusal) (n m : ℕ) → number_of why ≡ n → number_of why ≡ n else m
refused_first why n m e = let p = positive why in rw (← e, p.1)

-- the entries of keys that are not refused are tiles' numbers
key_is_entry : (key : List ℕ) → key_refusal key ≡ 0 → is_entry (key_entry key) ≡ true
key_is_entry key e =
    let m = (key_to_tile_to_key key e).1 in
    eq-eqb _ 0 (entry_accepted (key_entry key) (rw (entry_tile_again _ _ _ m) m))

runs_are_entries : (runs : List (List ℕ)) → keys_refusal runs ≡ 0 → all_of is_entry (run_entries runs) ≡ true
unfolding keys_refusal all_of
runs_are_entries [] e = refl
runs_are_entries (run ∷ runs) e =
    let p = else_zero (key_refusal (key_of_run run)) (keys_refusal runs) e in
    rw (key_is_entry (key_of_run run) p.0) (runs_are_entries runs p.1)

too_many : (list memory : List ℕ) → all_of is_entry list ≡ true → length list ≤ max_entries → length memory < length list
    → places_refusal list memory ≡ 12
unfolding places_refusal list_refusal
too_many list memory e h k = rw (le-ltb _ _ h, e, lt-ltb _ _ k)

-- a key takes at least a byte
keys_few : (runs : List (List ℕ)) → length runs ≤ length (spaced runs)
unfolding spaced
keys_few [] = omega arith
keys_few (run ∷ runs) = omega (arith, keys_few runs, length-append run (spaced runs))

pub keys_fit : (runs : List (List ℕ)) (bytes : List ℕ) → KeysFirst runs [] bytes → length runs ≤ length bytes
keys_fit runs bytes k = omega (arith, keys_few runs, sym (length-append (spaced runs) (closing ∷ [])) ∙ ap length k.spelled)

module _ (runs : List (List ℕ)) where
  pub bad_key_area : (why : Refusal) (exit : List ℕ) → number_of why ≡ keys_refusal runs
      → valued (Err why) exit ≡ form_area (tiles runs)
  unfolding form_area
  bad_key_area why exit e = refused_given why exit _ _ (refused_first why _ _ e)

  module _ (fine : keys_refusal runs ≡ 0) where
    tiles_area : form_area (tiles runs) ≡ area_given 0 (simplify_of (run_entries runs) 0 places)
    unfolding form_area
    tiles_area = ap (λ (n : ℕ). area_given n (simplify_of (run_entries runs) 0 places)) fine

    pub settled_area : (r : Result ℕ Refusal) (exit memory : List ℕ) → left r exit ≡ simplify_of (run_entries runs) 0 memory → length memory ≡ form_places
        → valued r exit ≡ form_area (tiles runs)
    settled_area r exit memory e h =
        call_valued r exit _ e _ _ (simplify_gives 0 (run_entries runs) memory)
        ∙ (simplify_alike (run_entries runs) memory places (h ∙ sym (length-replicate {A = ℕ} form_places 0)) ∙ sym tiles_area)

    pub many_keys_area : (exit : List ℕ) → form_places < length runs → length runs ≤ max_entries
        → valued (Err Memory) exit ≡ form_area (tiles runs)
    unfolding form_area
    many_keys_area exit h k =
        let l = length-map runs (λ (r : List ℕ). key_entry (key_of_run r)) in
        let m = length-replicate {A = ℕ} form_places 0 in
        let e = too_many (run_entries runs) places (runs_are_entries runs fine) (omega (arith, l, k)) (omega (arith, l, m, h)) in
        let n : 12 ≡ keys_refusal runs else (simplify_of (run_entries runs) 0 places).number =
        rw fine (sym ((simplify_gives 0 (run_entries runs) places).number ∙ e)) in
        refused_given Memory exit _ _ n

-- the operands, the left one before the right one
module _ (verb : Verb) (f g : Form) where
  pub left_refused_area : (why : Refusal) (a exit : List ℕ) → valued (Err why) a ≡ form_area f
      → valued (Err why) exit ≡ form_area (pair verb f g)
  unfolding form_area
  left_refused_area why a exit e =
      let n = ap (λ (r : Answer (List ℕ)). r.number) e in
      refused_given why exit _ _ (refused_first why _ _ (refused_first why _ _ n))

  pub right_refused_area : (i : ℕ) (why : Refusal) (a b exit : List ℕ) → valued (Ok i) a ≡ form_area f
      → valued (Err why) b ≡ form_area g
      → valued (Err why) exit ≡ form_area (pair verb f g)
  unfolding form_area
  right_refused_area i why a b exit e h =
      let n = ap (λ (r : Answer (List ℕ)). r.number) e in
      let m = ap (λ (r : Answer (List ℕ)). r.number) h in
      let l : (form_area f).number else (form_area g).number ≡ number_of why = rw (← n) (sym m) in
      refused_given why exit _ _ (refused_first why _ _ (sym l))

  pub operated_area : (i j : ℕ) (a b : List ℕ) → valued (Ok i) a ≡ form_area f → valued (Ok j) b ≡ form_area g
      → (r : Result ℕ Refusal) (exit memory : List ℕ) → left r exit ≡ operated verb (take i a) (take j b) memory → length memory ≡ form_places
      → valued r exit ≡ form_area (pair verb f g)
  unfolding form_area
  operated_area i j a b e h r exit memory l k =
      call_valued r exit _ l _ _ (operated_gives verb (take i a) (take j b) memory)
      ∙ (operated_alike verb (take i a) (take j b) memory places (k ∙ sym (length-replicate {A = ℕ} form_places 0))
      ∙ (rw (← e, ← h)))

-- where the two forms of a pair stand
module _ (f g : Form) (body : List ℕ) (p : PairFirst f g [] body) where
  abbrev n : ℕ
  n = length (text f)

  pub pair_long : length body ≡ n + 1 + length (text g) + 1
  pair_long = ap length (sym p.spelled)
      ∙ (length-append (text f) (space ∷ (text g ++ closing ∷ [])) ∙ omega (arith, length-append (text g) (closing ∷ [])))

  pub left_part : take n body ≡ text f
  left_part = ap (λ (l : List ℕ). take n l) (sym p.spelled) ∙ take_at (text f) (space ∷ (text g ++ closing ∷ [])) n refl

  right_behind : drop (n + 1) body ≡ text g ++ closing ∷ []
  right_behind =
      sym (drop-drop 1 n body)
      ∙ ap (λ (l : List ℕ). drop 1 l)
      (ap (λ (l : List ℕ). drop n l) (sym p.spelled) ∙ drop_at (text f) (space ∷ (text g ++ closing ∷ [])) n refl)

  pub right_part : take (length body - 1 - (n + 1)) (drop (n + 1) body) ≡ text g
  right_part =
      let e : length (text g) ≡ length body - 1 - (n + 1) = omega (arith, pair_long) in
      rw right_behind (take_at (text g) (closing ∷ []) (length body - 1 - (n + 1)) e)

-- the form at the front of a pair is its left one
pub left_length : (n : ℕ) (body : List ℕ) → FormEnds (Some n) body → (f g : Form) → PairFirst f g [] body → n ≡ length (text f)
left_length n body e f g p =
    let first : FormFirst f (space ∷ (text g ++ closing ∷ [])) body = record { formed = p.formed_left; spelled = p.spelled } in
    let rest = ap length (one_form f e.1.0 _ (drop n body) body first e.1.1).1 in
    omega (arith, e.0, rest, length-drop n body, ap length (sym p.spelled) ∙ length-append (text f) (space ∷ (text g ++ closing ∷ [])))

pub left_there : (body : List ℕ) → FormEnds None body → (f g : Form) → PairFirst f g [] body → ⊥
left_there body never f g p = never f (space ∷ (text g ++ closing ∷ [])) (record { formed = p.formed_left; spelled = p.spelled })

pub left_taken : (end : Option ℕ) (n : ℕ) (body : List ℕ) → FormEnds end body → n ≡ unwrap_or end 0 → (f g : Form) → PairFirst f g [] body
    → n ≡ length (text f)
left_taken (Some m) n body e u f g p = u ∙ left_length m body e f g p
left_taken None n body e u f g p = absurd (left_there body e f g p)

pub no_dash : (run : List ℕ) → (length run ≡ 1 → ⊥) → is_dash run ≡ false
no_dash [] d = refl
no_dash (b ∷ []) d = absurd (d refl)
no_dash (b ∷ (c ∷ run)) d = refl

pub one_byte_dash : (run : List ℕ) → length run ≡ 1 → eqb (get_or run 0 0) 45 ≡ is_dash run
one_byte_dash [] e = absurd (omega (arith, e))
one_byte_dash (b ∷ []) e = refl
one_byte_dash (b ∷ (c ∷ run)) e = absurd (omega (arith, e))
