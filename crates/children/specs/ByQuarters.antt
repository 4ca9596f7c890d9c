-- How a list of descendants fills up quarter by quarter.
use Rattle.std.specs.Prelude.{◌≡◌, refl, Bool, List, [], ◌∷◌, ◌++◌, ℕ, zero, suc, ◌+◌, ◌-◌, ◌*◌, ◌/◌, ◌^◌, ◌≤◌, ◌<◌}
use Rattle.std.specs.Prelude.{length, take, drop, get_or, set}
use Rattle.std.proofs.Common.{sym, ap, ◌∙◌, append_assoc, append-nil, pow-suc, mul-le-mul_right, add-one, arith, length-append, length-drop, take-suc, take_at, drop_at, drop-drop, length-take-le}
use Rattle.std.proofs.Math.Seq.{take-length, drop-length}
use borrow.Rule.Slice.PartMut.{put_mid}
use Rattle.children.specs.Children.{family_of, gather, descendants}
use Rattle.children.specs.Family.{family_four, child_entries, child_length, children_gathered}
use Rattle.children.specs.Gathered.{gather_append, gather_one, gather_length}
use Rattle.ids.specs.Entry.{entries_of}

-- the first k quarters are written
abbrev pub quarters : (ℕ → List ℕ) → List ℕ → ℕ → ℕ → List ℕ → List ℕ
quarters g family q k memory = gather g (take k family) ++ drop (k * q) memory

-- one quarter more
module _ (g : ℕ → List ℕ) (family : List ℕ) (q : ℕ) (each : (i : ℕ) → length (g i) ≡ q) (k : ℕ) (fits : k < length family)
    (memory : List ℕ) where
  gathered_length : length (gather g (take k family)) ≡ k * q
  gathered_length = gather_length g q (take k family) each ∙ ap (λ (n : ℕ). n * q) (length-take-le k family (omega arith))

  pub quarter_more : take (k * q) (quarters g family q k memory)
      ++ (g (get_or family k 0) ++ drop q (drop (k * q) (quarters g family q k memory)))
      ≡ quarters g family q (k + 1) memory
  quarter_more =
      rw (
        take_at (gather g (take k family)) (drop (k * q) memory) (k * q) gathered_length,
        drop_at (gather g (take k family)) (drop (k * q) memory) (k * q) gathered_length,
        drop-drop q (k * q) memory,
        add-one k,
        take-suc family k 0 fits,
        gather_append g (take k family) (get_or family k 0 ∷ []),
        gather_one g (get_or family k 0),
        append_assoc,
        next,
      )
    where
      next : suc k * q ≡ k * q + q
      next = omega arith

-- a list of 4 ^ depth places in four quarters
pub record Quarter (depth size : ℕ) : Type 0 where
  pub quarter : size / 4 ≡ 4 ^ (depth - 1)
  pub whole : 4 * (size / 4) ≡ size
  pub within : {k : ℕ} → k < 4 → k * (size / 4) + size / 4 ≤ size

pub in_quarters : (depth : ℕ) {size : ℕ} → 0 < depth → size ≡ 4 ^ depth → Quarter depth size
in_quarters zero h e = absurd (omega arith)
in_quarters (suc d) {size} h e =
    let f : suc d - 1 ≡ d = omega arith in
    let g : 4 ^ suc d ≡ 4 ^ d * 4 = pow-suc 4 d in
    let w : 4 * (size / 4) ≡ size = omega arith in
    record { quarter = rw f (omega arith); whole = w; within = λ l. omega (arith, mul-le-mul_right (size / 4) l) }

-- the part of the list from the start of a quarter to its end
pub quarter_part : (out : List ℕ) (start q : ℕ) → start + q ≤ length out → length (take (start + q - start) (drop start out)) ≡ q
quarter_part out start q h =
    let e : start + q - start ≡ q = omega arith in
    rw e (length-take-le q (drop start out) (rw length-drop (omega arith)))

-- the list with a quarter given back
pub quarter_back : (start q : ℕ) (out part : List ℕ)
    → put_mid start (start + q - start) out part ≡ take start out ++ (part ++ drop q (drop start out))
quarter_back start q out part = let e : start + q - start ≡ q = omega arith in rw e

pub quarters_length : (g : ℕ → List ℕ) (family : List ℕ) (q : ℕ) → ((i : ℕ) → length (g i) ≡ q)
    → (k : ℕ) → k ≤ length family → (memory : List ℕ) → k * q ≤ length memory → length (quarters g family q k memory) ≡ length memory
quarters_length g family q each k h memory l =
    rw (length-append, gather_length g q (take k family) each, length-take-le k family h, length-drop) (omega arith)

pub quarters_all : (g : ℕ → List ℕ) (family : List ℕ) (q : ℕ) (memory : List ℕ) → length family * q ≡ length memory
    → quarters g family q (length family) memory ≡ gather g family
quarters_all g family q memory e = rw (take-length, e, drop-length, append-nil)

pub quarters_none : (g : ℕ → List ℕ) (family : List ℕ) (q : ℕ) (memory : List ℕ) → quarters g family q 0 memory ≡ memory
unfolding gather
quarters_none g family q memory = let e : 0 * q ≡ 0 = omega arith in rw e

pub one_place : (out : List ℕ) (v : ℕ) → length out ≡ 1 → set out 0 v ≡ v ∷ []
one_place [] v e = absurd (omega arith)
one_place (a ∷ []) v e = refl
one_place (a ∷ (b ∷ out)) v e = absurd (omega arith)

-- the loop of `fill`, in one place: the first k quarters of a list stand written
module _ (order : Bool) (d x y z : ℕ) (memory : List ℕ) {q k : ℕ} {out : List ℕ}
    (size : q ≡ 4 ^ d) (whole : 4 * q ≡ length memory) (most : k ≤ 4)
    (held : out ≡ quarters (child_entries order d x y z) (family_of order) q k memory) where
  each : (i : ℕ) → length (child_entries order d x y z i) ≡ q
  each i = child_length order d x y z i ∙ sym size

  pub quarters_kept : length out ≡ length memory
  quarters_kept =
      let within : k * q ≤ length memory = omega (arith, mul-le-mul_right q most) in
      ap length held ∙ quarters_length (child_entries order d x y z) (family_of order) q each k (rw (family_four order) most) memory within

  pub quarter_written : (part : List ℕ) → k < 4 → part ≡ child_entries order d x y z (get_or (family_of order) k 0)
      → put_mid (k * q) (k * q + q - k * q) out part ≡ quarters (child_entries order d x y z) (family_of order) q (k + 1) memory
  quarter_written part h e =
      quarter_back (k * q) q out part
      ∙ rw (held, e) (quarter_more (child_entries order d x y z) (family_of order) q each k (rw (family_four order) h) memory)

  pub quarters_done : k ≡ 4 → out ≡ entries_of (descendants (family_of order) (suc d) x y z)
  quarters_done e =
      held ∙ (ap (λ (n : ℕ). quarters (child_entries order d x y z) (family_of order) q n memory) (e ∙ sym (family_four order))
      ∙ (quarters_all (child_entries order d x y z) (family_of order) q memory (rw (family_four order) whole)
      ∙ sym (children_gathered order d x y z)))
