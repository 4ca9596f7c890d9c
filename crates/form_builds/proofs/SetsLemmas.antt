-- An accepted form's area is the settled list of the set that its words say.
use Rattle.std.specs.Prelude.{◌≡◌, refl, Bool, List, ℕ}
use Rattle.std.proofs.Common.{sym, ap₂, ◌∙◌}
use Rattle.area.specs.Area.{ground_of, settled_entries}
use Rattle.area.proofs.Grounds.{settled_ground, settled_same, simplify_entries}
use Rattle.errors.specs.Answer.{◌else◌}
use Rattle.errors.proofs.GivesLemmas.{accepted_items}
use Rattle.errors.specs.Laws.{else_zero}
use Rattle.form.specs.Form.{Form, tiles, pair}
use Rattle.form.specs.declared.Verb.{Verb}
use Rattle.form.specs.declared.Verb.TheVariants.{Plus, Both, Minus}
use Rattle.form_area.specs.Area.{keys_refusal, run_entries, places, operated, form_area}
use Rattle.form_area.specs.Calls.{operated_entries, operated_gives}
use Rattle.form_builds.proofs.Run.{given_zero}
use Rattle.merge.specs.Gives.{simplify_gives}
use Rattle.merge.specs.Merge.{simplify_of}
use Rattle.tile_list.specs.Laws.{accepted_entries}
use Rattle.tile_list.specs.List.{list_refusal, places_refusal}
use Rattle.form_builds.specs.Sets.{form_set, kept_by}

operated_set : (verb : Verb) (a b : List ℕ)
    → operated_entries verb a b ≡ settled_entries (λ X Y. kept_by verb (ground_of a X Y) (ground_of b X Y))
operated_set Plus a b = refl
operated_set Both a b = refl
operated_set Minus a b = refl

settled_pair : (verb : Verb) (S T : ℕ → ℕ → Bool)
    → settled_entries (λ X Y. kept_by verb (ground_of (settled_entries S) X Y) (ground_of (settled_entries T) X Y))
    ≡ settled_entries (λ X Y. kept_by verb (S X Y) (T X Y))
settled_pair verb S T = settled_same _ _ (λ X Y i j. ap₂ (kept_by verb) (settled_ground S X Y i j) (settled_ground T X Y i j))

placed : (list memory : List ℕ) → places_refusal list memory ≡ 0 → list_refusal list ≡ 0
unfolding places_refusal
placed list memory e = (else_zero (list_refusal list) _ e).0

pub area_of_set : (f : Form) → (form_area f).number ≡ 0 → (form_area f).value ≡ settled_entries (form_set f)
unfolding form_area form_set
area_of_set (tiles runs) e =
    let list = run_entries runs in
    let r = simplify_of list 0 places in
    let z = given_zero (keys_refusal runs) r e in
    let n = (simplify_gives 0 list places).number in
    let fine = accepted_entries list (placed list places (sym n ∙ z.1)) in
    z.2 ∙ (accepted_items r _ _ (simplify_gives 0 list places) z.1 ∙ simplify_entries list fine)
area_of_set (pair verb f g) e =
    let r = operated verb (form_area f).value (form_area g).value places in
    let z = given_zero ((form_area f).number else (form_area g).number) r e in
    let y = else_zero (form_area f).number (form_area g).number z.0 in
    z.2 ∙ (accepted_items r _ _ (operated_gives verb (form_area f).value (form_area g).value places) z.1
    ∙ (operated_set verb (form_area f).value (form_area g).value
    ∙ (ap₂ (λ (a b : List ℕ). settled_entries (λ X Y. kept_by verb (ground_of a X Y) (ground_of b X Y))) (area_of_set f y.0)
    (area_of_set g y.1)
    ∙ settled_pair verb (form_set f) (form_set g))))
