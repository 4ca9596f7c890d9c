-- What comes back of a form's build: behind the calls made before stand the form's own, the last of which answers the form's area.
use Rattle.std.specs.Prelude.{◌≡◌, refl, List, [], ◌∷◌, ◌++◌, ℕ, zero, suc, ◌+◌, ◌<◌, length, get_or}
use Rattle.std.proofs.Common.{sym, ap, ap₂, ◌∙◌, subst, arith, length-append}
use Rattle.std.proofs.Math.Seq.{get_or-append_seam}
use Rattle.builds.specs.Build.{earlier, nothing_back, answer_at, handed_in, performed, comes_back, run}
use Rattle.builds.specs.InTurn.{in_turn}
use Rattle.builds.proofs.InTurnLemmas.{turns_length, turns_append, turns_keep}
use Rattle.errors.specs.Answer.{answer, Lent, ◌else◌}
use Rattle.errors.specs.Gives.{answer_of}
use Rattle.errors.specs.Laws.{else_zero}
use Rattle.form.specs.Form.{Form, tiles, pair}
use Rattle.form.specs.declared.Verb.{Verb}
use Rattle.form.specs.declared.Verb.TheVariants.{Plus, Both, Minus}
use Rattle.form_area.specs.Area.{keys_refusal, run_entries, places, operated, area_given, form_area}
use Rattle.form_builds.specs.Calls.{operation, call, size, last, calls}
use Rattle.merge.specs.Merge.{simplify_of}

-- what came back of call i
abbrev pub back : List (Lent ℕ) → ℕ → Lent ℕ
back rs i = get_or rs i nothing_back

calls_count : (n : ℕ) (f : Form) → length (calls n f) ≡ size f
unfolding calls size
calls_count n (tiles runs) = refl
calls_count n (pair verb f g) =
    let c = call (operation verb (earlier (last n f)) (earlier (last (n + size f) g))) in
    omega (
      arith,
      length-append (calls n f) (calls (n + size f) g ++ (c ∷ [])),
      length-append (calls (n + size f) g) (c ∷ []),
      calls_count n f,
      calls_count (n + size f) g,
    )

last_within : (n : ℕ) (f : Form) → last n f < n + size f
unfolding last size
last_within n (tiles runs) = omega arith
last_within n (pair verb f g) = omega arith

-- call i was accepted and gave the list
pub record Gave (rs : List (Lent ℕ)) (i : ℕ) (list : List ℕ) : Type 0 where
  pub number : (back rs i).number ≡ 0
  pub list_given : answer_of (back rs i) ≡ list

pub given_zero : (n : ℕ) (r : Lent ℕ) → (area_given n r).number ≡ 0 → (n ≡ 0) × (r.number ≡ 0) × ((area_given n r).value ≡ answer_of r)
given_zero n r e = go n r.number (answer_of r) e
  where
    go : (n m : ℕ) (items : List ℕ) → (answer (n else m) [] items).number ≡ 0
        → (n ≡ 0) × (m ≡ 0) × ((answer (n else m) [] items).value ≡ items)
    go zero zero items e = (refl, refl, refl)
    go zero (suc m) items e = absurd (omega (arith, e))
    go (suc n) m items e = absurd (omega (arith, e))

-- one call more, and what it gave
one_more : (rs : List (Lent ℕ)) (r : Lent ℕ) (i : ℕ) → i ≡ length rs → back (rs ++ (r ∷ [])) i ≡ r
one_more rs r i e = rw e (get_or-append_seam rs r [] nothing_back)

operated_performed : (verb : Verb) (rs : List (Lent ℕ)) (i j : ℕ)
    → performed (handed_in rs) (operation verb (earlier i) (earlier j)) places ≡ operated verb (answer_at rs i) (answer_at rs j) places
operated_performed Plus rs i j = refl
operated_performed Both rs i j = refl
operated_performed Minus rs i j = refl

pub form_gave : (f : Form) (rs : List (Lent ℕ)) → (form_area f).number ≡ 0
    → Gave (run rs (calls (length rs) f)) (last (length rs) f) (form_area f).value
unfolding form_area calls last in_turn
form_gave (tiles runs) rs e =
    let r = simplify_of (run_entries runs) 0 places in
    let g = given_zero (keys_refusal runs) r e in
    let o = one_more rs r (length rs) refl in
    record { number = ap (λ (l : Lent ℕ). l.number) o ∙ g.1; list_given = ap answer_of o ∙ sym g.2 }
form_gave (pair verb f g) rs e =
    let n = length rs in
    let i = last n f in
    let j = last (n + size f) g in
    let c = call (operation verb (earlier i) (earlier j)) in
    let rs₁ = run rs (calls n f) in
    let rs₂ = run rs₁ (calls (n + size f) g) in
    let l₁ : length rs₁ ≡ n + size f = turns_length comes_back rs (calls n f) ∙ ap (λ (m : ℕ). n + m) (calls_count n f) in
    let l₂ : length rs₂ ≡ n + size f + size g =
    turns_length comes_back rs₁ (calls (n + size f) g) ∙ ap₂ (λ (a b : ℕ). a + b) l₁ (calls_count (n + size f) g) in
    let r = operated verb (form_area f).value (form_area g).value places in
    let z = given_zero ((form_area f).number else (form_area g).number) r e in
    let y = else_zero (form_area f).number (form_area g).number z.0 in
    let left = form_gave f rs y.0 in
    let right : Gave rs₂ j (form_area g).value =
    subst (λ (m : ℕ). Gave (run rs₁ (calls m g)) (last m g) (form_area g).value) l₁ (form_gave g rs₁ y.1) in
    let a : answer_at rs₂ i ≡ (form_area f).value =
    ap answer_of (turns_keep comes_back rs₁ (calls (n + size f) g) nothing_back i (omega (arith, l₁, last_within n f))) ∙ left.list_given in
    let b : answer_at rs₂ j ≡ (form_area g).value = right.list_given in
    let p : comes_back rs₂ c ≡ r = operated_performed verb rs₂ i j ∙ ap₂ (λ (x y : List ℕ). operated verb x y places) a b in
    let whole : run rs (calls n f ++ (calls (n + size f) g ++ (c ∷ []))) ≡ rs₂ ++ (comes_back rs₂ c ∷ []) =
    turns_append comes_back rs (calls n f) (calls (n + size f) g ++ (c ∷ [])) ∙ turns_append comes_back rs₁ (calls (n + size f) g) (c ∷ []) in
    let o : back (run rs (calls n f ++ (calls (n + size f) g ++ (c ∷ [])))) (n + size f + size g) ≡ r =
    ap (λ (l : List (Lent ℕ)). back l (n + size f + size g)) whole
    ∙ (one_more rs₂ (comes_back rs₂ c) (n + size f + size g) (sym l₂) ∙ p) in
    record { number = ap (λ (l : Lent ℕ). l.number) o ∙ z.1; list_given = ap answer_of o ∙ sym z.2 }

-- the last call of a form's build is one of its calls
pub calls_within : (f : Form) → last 0 f < length (calls 0 f)
calls_within f = omega (arith, last_within 0 f, calls_count 0 f)
