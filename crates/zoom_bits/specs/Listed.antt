-- Laws of zoom lists: a list's set one zoom after the other, and whether a zoom of the list is too deep.
use Rattle.std.specs.Prelude.{◌≡◌, refl, Bool, true, false, ◌||◌, List, [], ◌∷◌, ◌++◌, ℕ, zero, suc, ◌^◌, ◌≤◌, ◌<◌, eqb, ltb, length, get_or, take}
use Rattle.std.proofs.Common.{sym, ap, ◌∙◌, arith, take-suc, ltb-false}
use Rattle.std.proofs.Math.Bool.{or_assoc, or-false}
use Rattle.std.specs.Int.Bits.{bit_or}
use Rattle.zoom_bits.specs.Bits.{last_zoom, zooms_in, any_deeper, set_of_zooms}
use Rattle.zoom_bits.specs.Sets.{set_with, set_same}

pub listed_append : (l m : List ℕ) (z : ℕ) → zooms_in (l ++ m) z ≡ zooms_in l z || zooms_in m z
unfolding zooms_in
listed_append [] m z = refl
listed_append (a ∷ l) m z = rw (listed_append l m z) (sym (or_assoc (eqb z a) (zooms_in l z) (zooms_in m z)))

listed_snoc : (l : List ℕ) (a z : ℕ) → zooms_in (l ++ (a ∷ [])) z ≡ zooms_in l z || eqb z a
unfolding zooms_in
listed_snoc l a z = listed_append l (a ∷ []) z ∙ ap (λ (b : Bool). zooms_in l z || b) (or-false (eqb z a))

pub or_none : (a b : Bool) → (a || b) ≡ false → (a ≡ false) × (b ≡ false)
or_none false b e = (refl, e)
or_none true b e = (e, cc)

pub none_deeper : (l : List ℕ) (i : ℕ) → any_deeper l ≡ false → i < length l → get_or l i 0 ≤ last_zoom
unfolding any_deeper
none_deeper [] i e h = absurd (omega arith)
none_deeper (a ∷ l) zero e h = ltb-false last_zoom a (or_none (ltb last_zoom a) (any_deeper l) e).0
none_deeper (a ∷ l) (suc i) e h = none_deeper l i (or_none (ltb last_zoom a) (any_deeper l) e).1 (omega arith)

-- one listed zoom more
pub set_of_next : (l : List ℕ) (i : ℕ) → any_deeper l ≡ false → i < length l
    → bit_or (set_of_zooms (take i l)) (2 ^ get_or l i 0) ≡ set_of_zooms (take (suc i) l)
set_of_next l i e h =
    set_with (zooms_in (take i l)) (get_or l i 0) (suc last_zoom) (omega (arith, none_deeper l i e h))
    ∙ set_same (λ z. zooms_in (take i l) z || eqb z (get_or l i 0)) (zooms_in (take (suc i) l)) (suc last_zoom)
    (λ z k. rw (take-suc l i 0 h) (sym (listed_snoc (take i l) (get_or l i 0) z)))
