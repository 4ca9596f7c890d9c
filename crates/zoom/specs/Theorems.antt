-- What is proved of the zoom sets beyond each function's promise: sets and lists undo each other, the Rust computes what document 01 says,
-- and the Rust's two turned readings do not undo each other. Zooms has the definitions, Rust the Rust's functions on values.
use Rattle.std.specs.Prelude.{◌≡◌, refl, false, ◌&&◌, ℕ, suc, ◌-◌, ◌^◌, ◌≤◌, ◌<◌, eqb, length, get_or}
use Rattle.std.proofs.Common.{sym, ◌∙◌, arith, le-ltb}
use Rattle.std.proofs.Math.Bool.{or-false}
use mathlib.Core.List.{List, [], ◌∷◌, Memᴰ}
use Rattle.std.specs.Int.Bits.{bit_and}
use Rattle.bits.specs.Powers.{pow_within}
use Rattle.zoom_bits.specs.Bits.{has_bit, those, set_of, between, from_to, last_zoom, turn_bit, zooms_in, any_deeper, set_of_zooms}
use Rattle.zoom_bits.specs.Bitwise.{bit_and_lem}
use Rattle.zoom_bits.specs.Masks.{mask}
use Rattle.zoom_bits.specs.Rising.{those_rising}
use Rattle.zoom_bits.specs.Sets.{set_of_one, set_of_span, set_same}
use Rattle.zoom.specs.AsRust.{mirror, zooms_as_rust, turned_zooms, none_too_deep, set_as_rust, set_rev_as_rust, range_as_rust}
use Rattle.zoom.specs.Listing.{set_back, list_back, rev_lower}
use Rattle.zoom.specs.Rust.{zoom_max_xY, zset2zvec, zset2zvec_rev, zvec2zset, zvec2zset_rev, bitand_zoom, all}
use Rattle.zoom.specs.Zooms.{zooms_of, zooms_of_rev, set_of_zooms_rev, zoom_bit, zoom_bit_rev, and_zoom}

-- ---- there and back

-- the set of the zooms of a set is the set, where bit 31 does not turn it round
pub set_of_zooms_of_set : (zset : ℕ) → zset < 2 ^ 31 → set_of_zooms (zooms_of zset) ≡ zset
set_of_zooms_of_set zset h = set_back zset h

-- a zoom is in the zooms of a list's set exactly if it is in the list
pub zooms_of_set_of_zooms : (zooms : List ℕ) → any_deeper zooms ≡ false → (z : ℕ) → zooms_in (zooms_of (set_of_zooms zooms)) z ≡ zooms_in zooms z
zooms_of_set_of_zooms zooms e z = list_back zooms e z

-- the zooms of a set rise strictly
pub zooms_rise : (zset j k : ℕ) → j < k → k < length (zooms_of zset) → get_or (zooms_of zset) j 0 < get_or (zooms_of zset) k 0
zooms_rise zset j k i h = those_rising _ (suc last_zoom) j k i h

-- ---- the Rust

-- it calls itself once at most: two calls or more give the same
pub rust_zset2zvec : (calls zset : ℕ) → zset2zvec (suc (suc calls)) zset ≡ zooms_of zset
rust_zset2zvec calls zset = zooms_as_rust calls zset

-- zoom i is bit 30 - i, and bit 31 is not looked at
pub rust_zset2zvec_rev : (calls zset : ℕ) → zset2zvec_rev (suc calls) zset ≡ zooms_of_rev zset
rust_zset2zvec_rev calls zset = turned_zooms calls zset

-- "`zvec2zset` takes zooms to 30"
pub rust_zvec2zset : (zooms : List ℕ) → ((z : ℕ) → Memᴰ z zooms → z ≤ 30) → zvec2zset zooms ≡ set_of_zooms zooms
rust_zvec2zset zooms h = set_as_rust zooms (none_too_deep zooms h)

pub rust_zvec2zset_rev : (zooms : List ℕ) → ((z : ℕ) → Memᴰ z zooms → z ≤ 30) → zvec2zset_rev zooms ≡ set_of_zooms_rev zooms
rust_zvec2zset_rev zooms h = set_rev_as_rust zooms (none_too_deep zooms h)

-- the set of a range is the set of the list from its lowest to its highest zoom
pub rust_zoom_set : (low high : ℕ) → high ≤ 30 → zvec2zset (from_to low high) ≡ set_of (between low high) (suc last_zoom)
rust_zoom_set low high h = range_as_rust low high h

-- a single zoom: its set, its number beside the lists of `zvec2zset_rev`, and a set `&` it
pub rust_from_zoom : (zoom : ℕ) → zoom ≤ 30 → zoom_bit zoom ≡ record { number = 0; value = mask zoom }
rust_from_zoom zoom h = rw (le-ltb last_zoom zoom h, pow_within zoom 32 (omega arith))

pub rust_zoom_bit_rev : (zoom : ℕ) → zoom ≤ 30 → zoom_bit_rev zoom ≡ record { number = 0; value = mask (31 - zoom) }
rust_zoom_bit_rev zoom h = rw (le-ltb last_zoom zoom h, pow_within (31 - zoom) 32 (omega arith))

pub rust_and_zoom : (zset zoom : ℕ) → zoom ≤ 30 → and_zoom zset zoom ≡ record { number = 0; value = bitand_zoom zset zoom }
rust_and_zoom zset zoom h = rw (le-ltb last_zoom zoom h, pow_within (31 - zoom) 32 (omega arith))

-- all zooms, and the ranges that have one end or none named
pub rust_all : all ≡ 2 ^ suc last_zoom - 1
rust_all = refl

-- the last column and row of a zoom of 0 to 29
pub rust_zoom_max_xy : (zoom : ℕ) → zoom ≤ 29 → zoom_max_xY zoom ≡ 2 ^ zoom - 1
rust_zoom_max_xy zoom h = rw (pow_within zoom 32 (omega arith))

-- ---- the turned readings do not undo each other

-- the smallest list and the smallest set that do not come back, after those that do
pub rev_not_undone : (zooms_of_rev (set_of_zooms_rev []) ≡ []) × ((set_of_zooms_rev (zooms_of_rev 0) ≡ 0)
    × ((zooms_of_rev (set_of_zooms_rev (0 ∷ [])) ≡ []) × (set_of_zooms_rev (zooms_of_rev 1) ≡ 2)))
unfolding has_bit those set_of zooms_in
rev_not_undone = (refl, (refl, (refl, refl)))

-- every zoom comes back one lower, and zoom 0 not at all
pub rev_one_lower : (zooms : List ℕ) → any_deeper zooms ≡ false → (z : ℕ) → z ≤ 30
    → zooms_in (zooms_of_rev (set_of_zooms_rev zooms)) z ≡ zooms_in zooms (suc z)
rev_one_lower zooms e z h = rev_lower zooms e z h

-- the bit that `and_zoom` looks for is not the zoom's own: the set of zoom 0 and zoom 0 have nothing in common
pub and_zoom_misses : bit_and (2 ^ 0) (2 ^ (31 - 0)) ≡ 0
and_zoom_misses = refl

-- ---- sets

-- a bit is in what two sets have in common exactly if it is in both
pub and_bit_by_bit : (a b i : ℕ) → has_bit (bit_and a b) i ≡ has_bit a i && has_bit b i
and_bit_by_bit a b i = bit_and_lem a b i

-- all zooms are those of the whole range
pub all_zooms : 2 ^ suc last_zoom - 1 ≡ set_of (between 0 last_zoom) (suc last_zoom)
all_zooms = omega (arith, set_of_span 0 last_zoom (suc last_zoom) (omega arith) (omega arith))

-- a single zoom's number is that of the list of it
pub set_of_one_zoom : (z : ℕ) → z ≤ last_zoom → set_of_zooms (z ∷ []) ≡ 2 ^ z
unfolding zooms_in
set_of_one_zoom z h = set_same (zooms_in (z ∷ [])) (λ i. eqb i z) (suc last_zoom) (λ i l. or-false (eqb i z))
    ∙ set_of_one z (suc last_zoom) (omega arith)

pub set_of_one_zoom_rev : (z : ℕ) → z ≤ last_zoom → set_of_zooms_rev (z ∷ []) ≡ 2 ^ (turn_bit - z)
unfolding zooms_in
set_of_one_zoom_rev z h =
    set_same (λ i. zooms_in (z ∷ []) (turn_bit - i)) (λ i. eqb i (turn_bit - z)) (suc turn_bit)
    (λ i l. or-false (eqb (turn_bit - i) z) ∙ sym (mirror i z (omega arith) (omega arith)))
    ∙ set_of_one (turn_bit - z) (suc turn_bit) (omega arith)
