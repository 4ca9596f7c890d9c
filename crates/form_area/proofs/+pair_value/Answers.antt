-- `value` and `pair` call each other: the two forms of a pair are shorter than the pair, and a pair is shorter than its form.
use Rattle.errors.specs.declared.Refusal.{Refusal}
use Rattle.std.specs.Prelude.{Result, Ok, Err, Some}
use mathlib.Core.Path.{◌≡◌, sym, ap, subst, ◌∙◌}
use mathlib.Core.List.{List, []}
use native.Mathlib.Omega.{arith}
use lib.ListN.{length, take, drop, length-drop, length-replicate}
use lib.Seq.{length-take-le}
use Rattle.constants.specs.Limits.{form_places}
use Rattle.form.specs.Ends.{Opened, opened, front_within, rest_part}
use Rattle.form.specs.Form.{Form}
use Rattle.form.specs.Front.{PairFirst}
use Rattle.form.specs.Words.{tiles_front, pair_front, word_at}
use Rattle.form.specs.declared.Word.TheVariants as word
use Rattle.form_area.specs.Area.{operated, form_area}
use Rattle.std.proofs.lemmas.Result.{err_from_is_err_and}
use Rattle.form_area.specs.Areas.{left_refused_area, right_refused_area, operated_area}
use Rattle.form_area.specs.Calls.{valued, CountFits, call_within, operated_gives}
use Rattle.form_area.specs.Promised.{PairSpelled, KeysSpelled, OfPair, OfKeys, spelled_keys, form_of_keys, spelled_pair, form_of_pair, some_word, left_reads, right_reads, pair_room}
use Prim.Native.Nat.{ℕ, ◌+◌, ◌-◌, ◌≤◌}
use Rattle.form_area.proofs.+pair_value.Goals as goal
use Rattle.form_area.proofs.+pair_value.Goals.{pair-After-left_length-n, pair-In_ok-i, pair-In_ok-j, value-After-pair_front, value-In-Some-Pair, value-In-Some-Tiles}

pub pair-left_length-n-requires : goal.pair-left_length-n-requires
pair-left_length-n-requires t c = c.requires.pair_spelled

room : (t : ℕ) (c : pair-After-left_length-n t) → c.left_length-n.result + 2 ≤ length c.args.body.now
room t c = let p = c.requires.pair_spelled in pair_room c.args.body.now c.left_length-n.result c.left_length-n.ensures p.0.0 p.0.1 p.1

pub pair-slice_bounds-value-end : goal.pair-slice_bounds-value-end
pair-slice_bounds-value-end t c = sym (length-take-le c.left_length-n.result c.args.body.now (omega (arith, room t (goal.at.pair-slice_bounds-value-end t c).After-left_length-n)))

pub pair-slice_bounds-value-end-2 : goal.pair-slice_bounds-value-end-2
pair-slice_bounds-value-end-2 t c = sym (length-replicate {A = ℕ} 256 0)

pub pair-value-requires : goal.pair-value-requires
unfolding form_places
pair-value-requires t c = let b = c.args.body.now in
    let n = c.left_length-n.result in
    let l = length-take-le n b (omega (arith, room t (goal.at.pair-value-requires t c).After-left_length-n)) in
    let p = c.requires.pair_spelled in (
      omega (arith, l, room t (goal.at.pair-value-requires t c).After-left_length-n, c.decreases),
      (
        omega (arith, l, room t (goal.at.pair-value-requires t c).After-left_length-n, c.requires.body_len_bound),
        ((p.0.0, left_reads b n c.left_length-n.ensures p.0.0 p.0.1 p.1), length-replicate {A = ℕ} 256 0),
      ),
    )

pub pair-overflow_add-n : goal.pair-overflow_add-n
pair-overflow_add-n t c = omega (arith, room t (goal.at.pair-overflow_add-n t c).After-left_length-n, c.well_formed)

pub pair-overflow_sub-body : goal.pair-overflow_sub-body
pair-overflow_sub-body t c = omega (arith, room t (goal.at.pair-overflow_sub-body t c).After-left_length-n)

pub pair-slice_bounds-value-count : goal.pair-slice_bounds-value-count
pair-slice_bounds-value-count t c = omega (arith, room t (goal.at.pair-slice_bounds-value-count t c).After-left_length-n)

pub pair-slice_bounds-value-start : goal.pair-slice_bounds-value-start
pair-slice_bounds-value-start t c = omega (arith, room t (goal.at.pair-slice_bounds-value-start t c).After-left_length-n)

pub pair-slice_bounds-value-end-3 : goal.pair-slice_bounds-value-end-3
pair-slice_bounds-value-end-3 t c = omega arith

pub pair-slice_bounds-value-end-4 : goal.pair-slice_bounds-value-end-4
pair-slice_bounds-value-end-4 t c = sym (length-replicate {A = ℕ} 256 0)

pub pair-value-requires-2 : goal.pair-value-requires-2
unfolding form_places
pair-value-requires-2 t c = let b = c.args.body.now in
    let n = c.left_length-n.result in
    let m = length b - 1 - (n + 1) in
    let l = length-take-le m (drop (n + 1) b) (omega (arith, length-drop (n + 1) b)) in
    let p = c.requires.pair_spelled in (
      omega (arith, l, room t (goal.at.pair-value-requires-2 t c).After-left_length-n, c.decreases),
      (
        omega (arith, l, room t (goal.at.pair-value-requires-2 t c).After-left_length-n, c.requires.body_len_bound),
        ((p.0.1, right_reads b n c.left_length-n.ensures p.0.0 p.0.1 p.1), length-replicate {A = ℕ} 256 0),
      ),
    )

left_count : (t : ℕ) (c : pair-In_ok-i t) → c.in_ok-i.i ≤ length c.value.new.list
left_count t c = subst (λ (r : Result ℕ Refusal). CountFits r c.value.new.list) c.in_ok-i.was c.value.ensures.within

right_count : (t : ℕ) (c : pair-In_ok-j t) → c.in_ok-j.j ≤ length c.value-2.new.list
right_count t c = subst (λ (r : Result ℕ Refusal). CountFits r c.value-2.new.list) c.in_ok-j.was c.value-2.ensures.within

left_area : (t : ℕ) (c : pair-In_ok-i t) (f g : Form)
    → PairFirst f g [] c.args.body.now
    → valued (Ok c.in_ok-i.i) c.value.new.list ≡ form_area f
left_area t c f g p =
    subst (λ (r : Result ℕ Refusal). valued r c.value.new.list ≡ form_area f) c.in_ok-i.was
    (c.value.ensures.area f
    (left_reads c.args.body.now
    c.left_length-n.result c.left_length-n.ensures f g p))

right_area : (t : ℕ) (c : pair-In_ok-j t) (f g : Form)
    → PairFirst f g [] c.args.body.now
    → valued (Ok c.in_ok-j.j) c.value-2.new.list ≡ form_area g
right_area t c f g p =
    subst (λ (r : Result ℕ Refusal). valued r c.value-2.new.list ≡ form_area g) c.in_ok-j.was
    (c.value-2.ensures.area g
    (right_reads c.args.body.now c.left_length-n.result c.left_length-n.ensures f g p))

pub pair-slice_bounds-a-end : goal.pair-slice_bounds-a-end
pair-slice_bounds-a-end t c = left_count t (goal.at.pair-slice_bounds-a-end t c).In_ok-i

pub pair-slice_bounds-operate-end : goal.pair-slice_bounds-operate-end
pair-slice_bounds-operate-end t c = sym (length-take-le c.in_ok-i.i
    c.value.new.list
    (left_count t (goal.at.pair-slice_bounds-operate-end t c).In_ok-i))

pub pair-slice_bounds-b-end : goal.pair-slice_bounds-b-end
pair-slice_bounds-b-end t c = right_count t (goal.at.pair-slice_bounds-b-end t c).In_ok-j

pub pair-slice_bounds-operate-end-2 : goal.pair-slice_bounds-operate-end-2
pair-slice_bounds-operate-end-2 t c = sym (length-take-le c.in_ok-j.j c.value-2.new.list
    (right_count t (goal.at.pair-slice_bounds-operate-end-2 t c).In_ok-j))

pub pair-shape_of-list : goal.pair-shape_of-list
pair-shape_of-list t c = c.operate.auto.list

pub pair-returns : goal.pair-returns
pair-returns t c = let o = c.operate in
    let a = c.value.new.list in
    let b = c.value-2.new.list in
    let i = c.in_ok-i.i in
    let j = c.in_ok-j.j in
    record {
      within = call_within o.result o.new.list (operated c.args.verb (take i a) (take j b) c.args.list.now) o.ensures _ _
          (operated_gives c.args.verb (take i a) (take j b) c.args.list.now);
      area = λ f g p. operated_area c.args.verb f g i j a b
          (left_area t (goal.at.pair-returns t c).In_ok-i f g p)
          (right_area t (goal.at.pair-returns t c).In_ok-j f g p) o.result o.new.list
          c.args.list.now o.ensures c.requires.list_len;
    }

pub pair-returns-in_err-j : goal.pair-returns-in_err-j
pair-returns-in_err-j t c =
    let q = err_from_is_err_and c.from_residual-in_err-j.result c.from_residual-in_err-j.ensures.1 in
    subst (λ r. OfPair c.args.verb c.args.body.now r c.args.list.now) (sym (q.1 ∙ ap (λ w. Err w) q.2))
    (record {
      within = omega arith;
      area = λ f g p. right_refused_area c.args.verb f g c.in_ok-i.i c.in_err-j.field-0.0 c.value.new.list c.value-2.new.list c.args.list.now
          (left_area t (goal.at.pair-returns-in_err-j t c).In_ok-i f g p)
          (subst (λ (r : Result ℕ Refusal). valued r c.value-2.new.list ≡ form_area g) c.in_err-j.was
          (c.value-2.ensures.area g (right_reads c.args.body.now c.left_length-n.result c.left_length-n.ensures f g p)));
    })

pub pair-returns-in_err-i : goal.pair-returns-in_err-i
pair-returns-in_err-i t c =
    let q = err_from_is_err_and c.from_residual.result c.from_residual.ensures.1 in
    subst (λ r. OfPair c.args.verb c.args.body.now r c.args.list.now) (sym (q.1 ∙ ap (λ w. Err w) q.2))
    (record {
      within = omega arith;
      area = λ f g p. left_refused_area c.args.verb f g c.in_err-i.field-0.0 c.value.new.list c.args.list.now
          (subst (λ (r : Result ℕ Refusal). valued r c.value.new.list ≡ form_area f) c.in_err-i.was
          (c.value.ensures.area f (left_reads c.args.body.now c.left_length-n.result c.left_length-n.ensures f g p)));
    })

tiles_opened : (t : ℕ) (c : value-In-Some-Tiles t) → Opened (Some word.Tiles) c.args.line.now
tiles_opened t c = let e : word_at c.args.line.now ≡ Some word.Tiles = cc in subst (λ w. Opened w c.args.line.now) e (opened _)

pub value-slice_bounds-tiles-count : goal.value-slice_bounds-tiles-count
value-slice_bounds-tiles-count t c = front_within tiles_front _ (tiles_opened t (goal.at.value-slice_bounds-tiles-count t c).In-Some-Tiles)

pub value-slice_bounds-tiles-start : goal.value-slice_bounds-tiles-start
value-slice_bounds-tiles-start t c = front_within tiles_front _ (tiles_opened t (goal.at.value-slice_bounds-tiles-start t c).In-Some-Tiles)

pub value-tiles-requires : goal.value-tiles-requires
value-tiles-requires t c = let l = c.args.line.now in
    let e = rest_part l (length tiles_front) in
    record {
      body_len_bound = omega (arith, ap length e, length-drop (length tiles_front) l, c.requires.line_len_bound);
      keys_spelled = subst KeysSpelled (sym e) (spelled_keys l (tiles_opened t (goal.at.value-tiles-requires t c).In-Some-Tiles) c.requires.spelled);
      list_len = c.requires.list_len;
    }

pair_opened : (t : ℕ) (c : value-In-Some-Pair t) → Opened (Some (word.Pair c.in-Some-Pair.verb)) c.args.line.now
pair_opened t c = let e : word_at c.args.line.now ≡ Some (word.Pair c.in-Some-Pair.verb) = cc in subst (λ w. Opened w c.args.line.now) e (opened _)

pair_within : (t : ℕ) (c : value-After-pair_front t) → Opened (Some (word.Pair c.in-Some-Pair.verb)) c.args.line.now
    → c.pair_front.result ≤ length c.args.line.now
pair_within t c o = omega (arith, c.pair_front.ensures, front_within (pair_front c.in-Some-Pair.verb) _ o)

pub value-slice_bounds-pair-count : goal.value-slice_bounds-pair-count
value-slice_bounds-pair-count t c = let at = goal.at.value-slice_bounds-pair-count t c in
    pair_within t at.After-pair_front (pair_opened t at.In-Some-Pair)

pub value-slice_bounds-pair-start : goal.value-slice_bounds-pair-start
value-slice_bounds-pair-start t c = let at = goal.at.value-slice_bounds-pair-start t c in
    pair_within t at.After-pair_front (pair_opened t at.In-Some-Pair)

pub value-pair-requires : goal.value-pair-requires
value-pair-requires t c = let l = c.args.line.now in
    let n = c.pair_front.result in
    let e = rest_part l n in
    let at = goal.at.value-pair-requires t c in
    let o = pair_opened t at.In-Some-Pair in
    let k = spelled_pair c.in-Some-Pair.verb l o c.requires.spelled in (
      omega (arith, ap length e, length-drop n l, pair_within t at.After-pair_front o, c.pair_front.ensures, c.decreases),
      (
        omega (arith, ap length e, length-drop n l, c.requires.line_len_bound),
        (subst PairSpelled (sym e) (subst (λ (m : ℕ). PairSpelled (drop m l)) (sym c.pair_front.ensures) k), c.requires.list_len),
      ),
    )

pub value-returns-in-Some-Tiles : goal.value-returns-in-Some-Tiles
value-returns-in-Some-Tiles t c = let l = c.args.line.now in
    let r = c.tiles in
    form_of_keys l (tiles_opened t (goal.at.value-returns-in-Some-Tiles t c).In-Some-Tiles) r.result r.new.list
    (subst (λ (x : List ℕ). OfKeys x r.result r.new.list) (rest_part l (length tiles_front)) r.ensures)

pub value-returns-in-Some-Pair : goal.value-returns-in-Some-Pair
value-returns-in-Some-Pair t c = let l = c.args.line.now in
    let r = c.pair in
    let v = c.in-Some-Pair.verb in
    let n = c.pair_front.result in
    form_of_pair v l (pair_opened t (goal.at.value-returns-in-Some-Pair t c).In-Some-Pair) r.result r.new.list
    (subst (λ (m : ℕ). OfPair v (drop m l) r.result r.new.list) c.pair_front.ensures
    (subst (λ (x : List ℕ). OfPair v x r.result r.new.list) (rest_part l n) r.ensures))

pub value-returns-in-None : goal.value-returns-in-None
value-returns-in-None t c = let l = c.args.line.now in
    absurd (some_word l (subst (λ w. Opened w l) (sym c.word_at.ensures ∙ c.in-None.is) (opened l)) c.requires.spelled)
