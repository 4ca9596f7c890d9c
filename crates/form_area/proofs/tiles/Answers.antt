-- `tiles` meets its contract: the first bad key, then more keys than places, then the settled list.
use Rattle.errors.specs.declared.Refusal.{Refusal}
use Rattle.std.specs.Prelude.{Result, Ok, Err}
use mathlib.Core.Path.{sym, ap, subst, ◌∙◌}
use mathlib.Core.List.{List}
use Prim.Native.Nat.{ℕ, ◌≤◌}
use native.Mathlib.Omega.{arith}
use lib.ListN.{length, take, length-replicate}
use lib.Seq.{length-take-le}
use Rattle.constants.specs.Limits.{form_places, lines_in_entries}
use Rattle.form_area.specs.Areas.{bad_key_area, settled_area, many_keys_area, keys_fit}
use Rattle.form_area.specs.Calls.{call_within}
use Rattle.form_area.specs.Promised.{AllEntered, OfKeys}
use Rattle.std.proofs.lemmas.Result.{err_from_is_err_and}
use Rattle.merge.specs.Gives.{simplify_gives}
use Rattle.merge.specs.Merge.{simplify_of}
use Rattle.form_area.proofs.tiles.Goals as goal
use Rattle.form_area.proofs.tiles.Goals.{Else-n-gt-FORM_PLACES, In_ok-n}

counted : (c : In_ok-n) → AllEntered c.args.body.now (Ok c.in_ok-n.n) c.enter.new.entries
counted c = subst (λ (r : Result ℕ Refusal). AllEntered c.args.body.now r
    c.enter.new.entries) c.in_ok-n.was c.enter.ensures

places_for : (c : Else-n-gt-FORM_PLACES) → c.in_ok-n.n ≤ length c.enter.new.entries
places_for c = omega (arith, c.if-n-gt-FORM_PLACES.false, c.enter.auto.entries, length-replicate {A = ℕ} 256 0)

pub returns-then-n-gt-FORM_PLACES : goal.returns-then-n-gt-FORM_PLACES
unfolding form_places
returns-then-n-gt-FORM_PLACES c = record {
  within = omega arith;
  area = λ runs k.
      let e = counted (goal.at.returns-then-n-gt-FORM_PLACES c).In_ok-n runs k in
      many_keys_area runs e.0 c.args.list.now (omega (arith, e.1, c.if-n-gt-FORM_PLACES.true)) (omega (arith, keys_fit runs c.args.body.now k, c.requires.body_len_bound, lines_in_entries));
}

pub slice_bounds-simplify-end : goal.slice_bounds-simplify-end
slice_bounds-simplify-end c = sym (length-take-le c.in_ok-n.n c.enter.new.entries (places_for (goal.at.slice_bounds-simplify-end c).Else-n-gt-FORM_PLACES))

pub returns : goal.returns
returns c = let s = c.simplify in
    let entries = c.enter.new.entries in
    let n = c.in_ok-n.n in
    record {
      within = call_within s.result s.new.out _ s.ensures _ _ (simplify_gives 0 (take n entries) c.args.list.now);
      area = λ runs k.
          let e = counted (goal.at.returns c).In_ok-n runs k in
          settled_area runs e.0 s.result s.new.out c.args.list.now
          (s.ensures ∙ ap (λ (l : List ℕ). simplify_of l 0 c.args.list.now) (e.2 (places_for (goal.at.returns c).Else-n-gt-FORM_PLACES))) c.requires.list_len;
    }

pub returns-in_err-n : goal.returns-in_err-n
returns-in_err-n c =
    let p = err_from_is_err_and c.from_residual.result c.from_residual.ensures.1 in
    subst (λ r. OfKeys c.args.body.now r c.args.list.now) (sym (p.1 ∙ ap (λ w. Err w) p.2))
    (record {
      within = omega arith;
      area = λ runs k. bad_key_area runs c.in_err-n.field-0.0 c.args.list.now
          (subst (λ (r : Result ℕ Refusal). AllEntered c.args.body.now r c.enter.new.entries) c.in_err-n.was c.enter.ensures runs k);
    })
