-- Document 01, "Zoom set": what a set and a list of zooms are, and what each call answers.
use Rattle.errors.specs.declared.Refusal.{Refusal}
use Rattle.std.specs.Prelude.{Bool, cond, ◌&&◌, List, ℕ, suc, ◌-◌, ◌^◌, leb, ltb, length, Result, Ok, Err}
use Rattle.std.specs.Int.Bits.{bit_and}
use Rattle.constants.specs.Limits.{max_zoom, max_entries}
use Rattle.errors.specs.Answer.{Answer, answer, ◌when◌, ◌else◌}
use Rattle.errors.specs.Cases.{refused_as}
use Rattle.zoom_bits.specs.Bits.{last_zoom, turn_bit, has_bit, those, set_of, between, down_from, zooms_in, any_deeper, set_of_zooms}
use Rattle.zoom_ranges.specs.declared.ZoomRange.{ZoomRange}
use Rattle.zoom.specs.declared.ZoomSet.{ZoomSet}

-- how many columns or rows a zoom has, less one
abbrev pub max_xY : ℕ → Answer ℕ
max_xY zoom = answer (1 when ltb max_zoom zoom) 0 (2 ^ zoom - 1)

-- ---- the zooms of a set

abbrev pub in_set : ℕ → ℕ → Bool
in_set zset z = cond (has_bit zset turn_bit) (down_from last_zoom zset z) (has_bit zset z)

abbrev pub zooms_of : ℕ → List ℕ
zooms_of zset = those (in_set zset) (suc last_zoom)

abbrev pub zooms_of_rev : ℕ → List ℕ
zooms_of_rev zset = those (down_from last_zoom zset) (suc last_zoom)

-- ---- the set of a list of zooms

abbrev pub zooms_refusal : List ℕ → ℕ
zooms_refusal zooms = 1 when any_deeper zooms else 6 when ltb max_entries (length zooms)

-- bit 31 - z is zoom z
abbrev pub set_of_zooms_rev : List ℕ → ℕ
set_of_zooms_rev zooms = set_of (λ i. zooms_in zooms (turn_bit - i)) (suc turn_bit)

abbrev pub zvec_set : List ℕ → Answer ℕ
zvec_set zooms = answer (zooms_refusal zooms) 0 (set_of_zooms zooms)

abbrev pub zvec_set_rev : List ℕ → Answer ℕ
zvec_set_rev zooms = answer (zooms_refusal zooms) 0 (set_of_zooms_rev zooms)

-- ---- a single zoom, and a range

abbrev pub zoom_bit : ℕ → Answer ℕ
zoom_bit zoom = answer (1 when ltb last_zoom zoom) 0 (2 ^ zoom)

abbrev pub zoom_bit_rev : ℕ → Answer ℕ
zoom_bit_rev zoom = answer (1 when ltb last_zoom zoom) 0 (2 ^ (turn_bit - zoom))

-- what a set has in common with the bit that `zoom_bit_rev` gives
abbrev pub and_zoom : ℕ → ℕ → Answer ℕ
and_zoom zset zoom = answer (1 when ltb last_zoom zoom) 0 (bit_and zset (2 ^ (turn_bit - zoom)))

-- all zooms from the lowest to the highest; none, and so none too deep, where the lowest is above the highest
abbrev pub range_set : ZoomRange → Answer ℕ
range_set r = answer (1 when (leb r.min r.max && ltb last_zoom r.max)) 0 (set_of (between r.min r.max) (suc last_zoom))

-- an answer that is a set, as document 01's number and value
abbrev pub zoom_set_case : Result ZoomSet Refusal → Answer ℕ
zoom_set_case (Ok s) = record { number = 0; value = s.0 }
zoom_set_case (Err why) = refused_as why 0
