-- `join`: what stands at the front, and what is left of the numbers from i on, are what the pass leaves.
use mathlib.Core.Path.{◌≡◌, refl, sym, ◌∙◌}
use mathlib.Core.Bool.{true, false}
use mathlib.Core.List.{List, [], ◌∷◌, append_assoc, append-nil}
use Prim.Native.Nat.{ℕ, ◌+◌, ◌-◌, ◌/◌, ◌≤◌, ◌<◌}
use native.Mathlib.Omega.{arith}
use native.Mathlib.Numerals.{add-one}
use lib.ListN.{length, take, drop, get_or, set, length-set, length-drop, drop_of_length-le}
use lib.Seq.{take_all, get_or-drop, take-suc-set, drop-set-lt, get_or-set_other}
use Rattle.quadtree.specs.Lists.{number_at}
use Rattle.families.specs.Join.{four_from, join_after, join_of}
use Rattle.families.specs.Laws.{four_true, join_alone, join_family}
use Rattle.families.proofs.join.Invariants.{Mid}
use Rattle.families.proofs.join.Goals as goal
use Rattle.families.proofs.join.Goals.{else-starts_with_family, then-starts_with_family}

-- a number is written behind those that stand at the front, and the numbers up to j are done
moved : (from : ℕ) (s₀ s : List ℕ) (count i j v : ℕ) → Mid from s₀ s count i → i < length s → i < j → j ≤ length s
    → join_of from (drop i s) ≡ v ∷ join_of from (drop j s) → Mid from s₀ (set s count v) (count + 1) j
moved from s₀ s count i j v M lt h l e = record {
  order = omega (arith, M.order);
  within = rw (length-set s count v) l;
  long = length-set s count v ∙ M.long;
  done = rw (add-one count, take-suc-set s count v (omega (arith, M.order)), drop-set-lt j s count v (omega (arith, M.order)), append_assoc (take count s) (v ∷ []) (join_of from (drop j s)))
      (rw e at M.done);
  rest = λ k g. get_or-set_other s count k v 0 (λ u. omega (arith, M.order)) ∙ M.rest k (omega arith);
}

module _ (from : ℕ) (s₀ s : List ℕ) (count i : ℕ) (M : Mid from s₀ s count i) (lt : i < length s) where
  joined : four_from from (drop i s) ≡ true → Mid from s₀ (set s count (get_or s i 0 / 4)) (count + 1) (i + 4)
  joined e =
      let l : 4 ≤ length s - i = rw length-drop at (four_true from (drop i s) e).long in
      moved from s₀ s count i (i + 4) (get_or s i 0 / 4) M lt (omega arith) (omega arith) (join_family from s i lt e)

  kept : four_from from (drop i s) ≡ false → Mid from s₀ (set s count (get_or s i 0)) (count + 1) (i + 1)
  kept e =
      moved from s₀ s count i (i + 1) (get_or s i 0) M lt (omega arith) (omega arith) (rw (add-one i) (join_alone from s i lt e))

ended : (from : ℕ) (s₀ s : List ℕ) (count i : ℕ) → Mid from s₀ s count i → length s ≤ i → take count s ≡ join_of from s₀
unfolding join_after
ended from s₀ s count i M h = rw (drop_of_length-le s h, append-nil (take count s)) at M.done

whole : (l : List ℕ) (i : ℕ) → take (length l - i) (drop i l) ≡ drop i l
whole l i = take_all (length l - i) (drop i l) (omega (arith, length-drop i l))

pub loop-i-init : goal.loop-i-init
loop-i-init c = record { order = omega arith; within = omega arith; long = refl; done = refl; rest = λ j h. refl }

pub starts_with_family-requires : goal.starts_with_family-requires
starts_with_family-requires c = let L = c.loop-i in
    let lt = c.loop-i-test.true in
    let zero : L.i + 0 ≡ L.i = omega arith in
    (rw (whole L.codes L.i, get_or-drop L.i L.codes 0 0, zero) (rw (L.invariant.rest L.i (omega arith)) (number_at c.args.codes.now L.i c.requires.0 (omega (arith, L.invariant.long)))), c.requires.1)

pub loop-i-smaller : goal.loop-i-smaller
loop-i-smaller c = let L = c.loop-i in
    let lt = c.loop-i-test.true in
    let M = L.invariant in
    elim c.if-starts_with_family.branch [
      | then-starts_with_family w ↦ let e = w.i-is in omega (arith, lt, M.long)
      | else-starts_with_family w ↦ let e = w.i-is in omega (arith, lt, M.long)
    ]

pub loop-i-preserved : goal.loop-i-preserved
loop-i-preserved c = let L = c.loop-i in
    let lt = c.loop-i-test.true in
    let f = rw (whole L.codes L.i) at c.starts_with_family.ensures in
    let s₀ : List ℕ = c.args.codes.now in
    let one = joined c.args.from s₀ L.codes L.count L.i L.invariant lt in
    let two = kept c.args.from s₀ L.codes L.count L.i L.invariant lt in
    elim c.if-starts_with_family.branch [
      | then-starts_with_family w ↦ rw (w.codes-is, w.i-is) (one (sym f ∙ w.if-starts_with_family.true))
      | else-starts_with_family w ↦ rw (w.codes-is, w.i-is) (two (sym f ∙ w.if-starts_with_family.false))
    ]

pub returns : goal.returns
returns c = let L = c.loop-i in
    let a = c.args in
    let M = L.invariant in
    (omega (arith, M.order, M.within), ended a.from a.codes.now L.codes L.count L.i M c.loop-i-test.false)
