-- Laws of the pass, one number or one family at a time.
use Rattle.std.specs.Prelude.{◌≡◌, refl, true, false, cond, List, [], ◌∷◌, ℕ, zero, suc, ◌+◌, ◌/◌, ◌%◌, ◌≤◌, ◌<◌, leb, ltb, eqb, length, get_or, drop}
use Rattle.std.proofs.Common.{sym, ap, ◌∙◌, arith, drop-cons, drop-drop, leb-true, eqb-true, le-leb, eq-eqb, ne_eqb}
use Rattle.std.proofs.lemmas.Bool.{lt-leb}
use Rattle.bits.specs.Tests.{and_parts}
use Rattle.constants.specs.Limits.{max_zoom}
use Rattle.quadtree.specs.Tree.{four_mono}
use Rattle.families.specs.Join.{four_from, join_after, join_of, first_morton}

-- the numbers that are skipped do not matter
pub join_skips : (from k : ℕ) (l : List ℕ) → join_after from k l ≡ join_of from (drop k l)
unfolding join_after
join_skips from zero [] = refl
join_skips from zero (q ∷ l) = refl
join_skips from (suc k) [] = refl
join_skips from (suc k) (q ∷ l) = join_skips from k l

-- what the test says
pub record Four (from : ℕ) (l : List ℕ) : Type 0 where
  pub long : 4 ≤ length l
  pub above : from ≤ get_or l 0 0
  pub first : get_or l 0 0 % 4 ≡ 0
  pub last : get_or l 0 0 + 3 ≡ get_or l 3 0

pub four_true : (from : ℕ) (l : List ℕ) → four_from from l ≡ true → Four from l
unfolding four_from
four_true from l e =
    let a = and_parts (leb 4 (length l)) _ e in
    let b = and_parts (leb from (get_or l 0 0)) _ a.1 in
    let c = and_parts (eqb (get_or l 0 0 % 4) 0) _ b.1 in
    record { long = leb-true _ _ a.0; above = leb-true _ _ b.0; first = eqb-true _ _ c.0; last = eqb-true _ _ c.1 }

pub true_four : {from : ℕ} {l : List ℕ} → Four from l → four_from from l ≡ true
unfolding four_from
true_four f = rw (le-leb _ _ f.long, le-leb _ _ f.above, eq-eqb _ _ f.first, eq-eqb _ _ f.last)

-- the ways in which the test fails, in the order of the code
pub four_short : (from : ℕ) (l : List ℕ) → length l < 4 → false ≡ four_from from l
unfolding four_from
four_short from l h = rw (lt-leb _ _ h)

pub four_low : (from : ℕ) (l : List ℕ) → 4 ≤ length l → get_or l 0 0 < from → false ≡ four_from from l
unfolding four_from
four_low from l h k = rw (le-leb _ _ h, lt-leb _ _ k)

pub four_inner : (from : ℕ) (l : List ℕ) → 4 ≤ length l → from ≤ get_or l 0 0 → (get_or l 0 0 % 4 ≡ 0 → ⊥) → false ≡ four_from from l
unfolding four_from
four_inner from l h k n = rw (le-leb _ _ h, le-leb _ _ k, ne_eqb _ _ n)

pub four_last : (from : ℕ) (l : List ℕ) → 4 ≤ length l → from ≤ get_or l 0 0 → get_or l 0 0 % 4 ≡ 0
    → eqb (get_or l 0 0 + 3) (get_or l 3 0) ≡ four_from from l
unfolding four_from
four_last from l h k e = rw (le-leb _ _ h, le-leb _ _ k, eq-eqb _ _ e)

-- the codes from `first_morton` on are not the root's
pub first_not_root : (m : ℕ) → 1 < first_morton m
unfolding first_morton
first_not_root m = let n = cond (ltb m max_zoom) m max_zoom in let e = four_mono {i = 1} {j = n + 1} (omega arith) in omega arith

-- one number, or one family, of a list
pub join_cons : (from q : ℕ) (l : List ℕ) → four_from from (q ∷ l) ≡ false → join_of from (q ∷ l) ≡ q ∷ join_of from l
unfolding join_after
join_cons from q l e = rw e

pub join_four : (from q : ℕ) (l : List ℕ) → four_from from (q ∷ l) ≡ true → join_of from (q ∷ l) ≡ q / 4 ∷ join_of from (drop 3 l)
unfolding join_after
join_four from q l e = rw (e, join_skips from 3 l)

module _ (from : ℕ) (l : List ℕ) (i : ℕ) (h : i < length l) where
  pub join_alone : four_from from (drop i l) ≡ false → join_of from (drop i l) ≡ get_or l i 0 ∷ join_of from (drop (suc i) l)
  join_alone e =
      ap (join_of from) (drop-cons l i 0 h) ∙ join_cons from (get_or l i 0) (drop (suc i) l) (ap (four_from from) (sym (drop-cons l i 0 h)) ∙ e)

  pub join_family : four_from from (drop i l) ≡ true → join_of from (drop i l) ≡ get_or l i 0 / 4 ∷ join_of from (drop (i + 4) l)
  join_family e =
      let f : suc i + 3 ≡ i + 4 = omega arith in
      ap (join_of from) (drop-cons l i 0 h)
      ∙ (join_four from (get_or l i 0) (drop (suc i) l) (ap (four_from from) (sym (drop-cons l i 0 h)) ∙ e)
      ∙ ap (λ (k : List ℕ). get_or l i 0 / 4 ∷ join_of from k) (drop-drop 3 (suc i) l ∙ ap (λ (k : ℕ). drop k l) f))
