-- Laws of zoom lists: the zooms of a set, and the set of a list, straight and turned round.
use Rattle.std.specs.Prelude.{◌≡◌, refl, Bool, true, false, List, [], ◌∷◌, ℕ, suc, ◌-◌, ◌<◌, ltb, length}
use Rattle.std.proofs.Common.{arith, ltb-false, ne_eqb}
use Rattle.constants.specs.Limits.{max_entries}
use Rattle.errors.specs.Answer.{◌when◌, ◌else◌}
use Rattle.zoom_bits.specs.Bits.{has_bit, those, set_of, last_zoom, turn_bit, down_from, set_of_zooms, zooms_in, any_deeper}
use Rattle.zoom_bits.specs.Listed.{or_none}
use Rattle.zoom_bits.specs.Passing.{those_same}
use Rattle.zoom_bits.specs.Sets.{set_same, bit_of_whole}
use Rattle.zoom.specs.Zooms.{in_set, zooms_of, zooms_of_rev, zooms_refusal, set_of_zooms_rev}

pub zooms_turned : (zset : ℕ) → has_bit zset turn_bit ≡ true → zooms_of zset ≡ zooms_of_rev zset
zooms_turned zset e = those_same (in_set zset) (down_from last_zoom zset) (suc last_zoom) (λ z l. rw e)

pub zooms_straight : (zset : ℕ) → has_bit zset turn_bit ≡ false → zooms_of zset ≡ those (has_bit zset) (suc last_zoom)
zooms_straight zset e = those_same (in_set zset) (has_bit zset) (suc last_zoom) (λ z l. rw e)

pub accepted_shallow : (l : List ℕ) → zooms_refusal l ≡ 0 → any_deeper l ≡ false
accepted_shallow l e = pick (any_deeper l) e
  where
    pick : (b : Bool) → 1 when b else 6 when ltb max_entries (length l) ≡ 0 → b ≡ false
    pick true e = absurd (omega arith)
    pick false e = refl

pub listed_shallow : (l : List ℕ) (z : ℕ) → any_deeper l ≡ false → last_zoom < z → zooms_in l z ≡ false
unfolding zooms_in any_deeper
listed_shallow [] z e h = refl
listed_shallow (a ∷ l) z e h =
    let n = or_none (ltb last_zoom a) (any_deeper l) e in
    rw (ne_eqb z a (λ d. omega (arith, ltb-false last_zoom a n.0))) (listed_shallow l z n.1 h)

pub set_turned : (l : List ℕ) → any_deeper l ≡ false → set_of (down_from turn_bit (set_of_zooms l)) (suc turn_bit) ≡ set_of_zooms_rev l
set_turned l e =
    set_same (down_from turn_bit (set_of_zooms l)) (λ i. zooms_in l (turn_bit - i)) (suc turn_bit)
    (λ i k. bit_of_whole (zooms_in l) (suc last_zoom) (λ z h. listed_shallow l z e h) (turn_bit - i))
