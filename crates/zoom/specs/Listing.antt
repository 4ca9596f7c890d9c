-- What the list of the numbers that pass a test holds; sets and lists of zooms there and back.
use Rattle.std.specs.Prelude.{◌≡◌, refl, Bool, true, false, cond, ◌&&◌, ◌||◌, List, [], ◌∷◌, ℕ, zero, suc, ◌-◌, ◌^◌, ◌≤◌, ◌<◌, eqb, ltb}
use Rattle.std.proofs.Common.{sym, ap, ◌∙◌, mod-eq_of_lt, arith, lt-ltb, le-ltb, eq-eqb, ne_eqb}
use Rattle.std.proofs.Math.Bool.{and-true, and-false, or-false}
use Rattle.std.proofs.Math.Decide.{dec_lt}
use Rattle.zoom_bits.specs.Bits.{has_bit, those, last_zoom, turn_bit, down_from, zooms_in, any_deeper, set_of_zooms}
use Rattle.zoom_bits.specs.Bitwise.{bit_past}
use Rattle.zoom_bits.specs.Listed.{listed_append}
use Rattle.zoom_bits.specs.Passing.{those_of_set}
use Rattle.zoom_bits.specs.Sets.{set_below, set_of_bits, set_same, bit_of_set}
use Rattle.zoom.specs.Lists.{zooms_straight, listed_shallow}
use Rattle.zoom.specs.Zooms.{zooms_of, zooms_of_rev, set_of_zooms_rev}

listed_one : (b : Bool) (n z : ℕ) → zooms_in (cond b (n ∷ []) []) z ≡ b && eqb z n
unfolding zooms_in
listed_one true n z = or-false (eqb z n)
listed_one false n z = refl

-- just the numbers below n that pass
pub listed_those : (has : ℕ → Bool) (n z : ℕ) → zooms_in (those has n) z ≡ ltb z n && has z
unfolding those zooms_in
listed_those has zero z = rw (le-ltb z 0 (omega arith))
listed_those has (suc n) z =
    listed_append (those has n) (cond (has n) (n ∷ []) []) z
    ∙ (rw (listed_those has n z, listed_one (has n) n z) (place (dec_lt z n) (dec_lt n z)))
  where
    place : Dec (z < n) → Dec (n < z) → ((ltb z n && has z) || (has n && eqb z n)) ≡ (ltb z (suc n) && has z)
    place (yes l) g = rw (lt-ltb z n l, lt-ltb z (suc n) (omega arith), ne_eqb z n (λ e. omega arith), and-false (has n)) (or-false (has z))
    place (no l) (yes g) = rw (le-ltb z n (omega arith), le-ltb z (suc n) (omega arith), ne_eqb z n (λ e. omega arith)) (and-false (has n))
    place (no l) (no g) = let e : z ≡ n = omega arith in
        rw (e, le-ltb n n (omega arith), lt-ltb n (suc n) (omega arith), eq-eqb n n refl) (and-true (has n))

-- ---- there and back

-- a set of zooms is a number of 31 bits and so never turned round
straight_zooms : (zset : ℕ) → zset < 2 ^ turn_bit → zooms_of zset ≡ those (has_bit zset) (suc last_zoom)
straight_zooms zset h = zooms_straight zset (bit_past zset turn_bit turn_bit h (omega arith))

pub set_back : (zset : ℕ) → zset < 2 ^ turn_bit → set_of_zooms (zooms_of zset) ≡ zset
set_back zset h =
    rw (straight_zooms zset h)
    (set_same (zooms_in (those (has_bit zset) (suc last_zoom))) (has_bit zset) (suc last_zoom)
    (λ i l. listed_those (has_bit zset) (suc last_zoom) i ∙ rw (lt-ltb i (suc last_zoom) l))
    ∙ (set_of_bits zset (suc last_zoom) ∙ mod-eq_of_lt h))

pub list_back : (zvec : List ℕ) → any_deeper zvec ≡ false → (z : ℕ) → zooms_in (zooms_of (set_of_zooms zvec)) z ≡ zooms_in zvec z
list_back zvec e z =
    rw (straight_zooms (set_of_zooms zvec) (set_below (zooms_in zvec) (suc last_zoom)), those_of_set (zooms_in zvec) (suc last_zoom))
    (listed_those (zooms_in zvec) (suc last_zoom) z ∙ pick (dec_lt z (suc last_zoom)))
  where
    pick : Dec (z < suc last_zoom) → (ltb z (suc last_zoom) && zooms_in zvec z) ≡ zooms_in zvec z
    pick (yes l) = rw (lt-ltb z (suc last_zoom) l)
    pick (no l) = rw (le-ltb z (suc last_zoom) (omega arith)) (sym (listed_shallow zvec z e (omega arith)))

-- the two turned readings count from different bits: a zoom comes back one lower
pub rev_lower : (zvec : List ℕ) → any_deeper zvec ≡ false → (z : ℕ) → z ≤ last_zoom
    → zooms_in (zooms_of_rev (set_of_zooms_rev zvec)) z ≡ zooms_in zvec (suc z)
rev_lower zvec e z h =
    let back : turn_bit - (last_zoom - z) ≡ suc z = omega arith in
    listed_those (down_from last_zoom (set_of_zooms_rev zvec)) (suc last_zoom) z
    ∙ (rw (lt-ltb z (suc last_zoom) (omega arith))
    (bit_of_set (λ i. zooms_in zvec (turn_bit - i)) (suc turn_bit) (last_zoom - z) (omega arith) ∙ ap (zooms_in zvec) back))
