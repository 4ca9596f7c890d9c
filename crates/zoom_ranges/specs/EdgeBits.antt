-- The code's operations on bits find where runs start and end.
use Rattle.std.specs.Prelude.{◌≡◌, refl, Bool, true, false, cond, not, ◌&&◌, ℕ, zero, suc, ◌*◌, ◌/◌, ◌%◌, ◌^◌, ◌<◌, leb}
use Rattle.std.proofs.Common.{sym, ◌∙◌, lt_of_le_of_lt, mod-eq_of_lt, arith, le-leb}
use Rattle.std.proofs.Math.Bool.{and_comm, and-true}
use Rattle.std.specs.Int.Bits.{bit_and, bit_xor}
use Rattle.std.proofs.lemmas.Nat.{and_le_l, and_le_r}
use Rattle.zoom_bits.specs.Bits.{has_bit, set_of, between, last_zoom}
use Rattle.zoom_bits.specs.Bitwise.{bit_and_lem, bit_xor_lem, bit_half, bit_double, bit_even}
use Rattle.zoom_bits.specs.Sets.{set_below, same_bits, bit_of_set, bit_of_whole}
use Rattle.zoom_ranges.specs.Edges.{run_starts, run_ends, start_first, start_next, past_last_zoom}
use Rattle.zoom_ranges.specs.Ranges.{holds_zoom}

-- the zooms of a set, as bits
abbrev pub run_bits : ℕ → ℕ
run_bits zset = set_of (holds_zoom zset) (suc last_zoom)

pub run_bits_are : (zset : ℕ) → bit_and zset (set_of (between 0 last_zoom) (suc last_zoom)) ≡ run_bits zset
unfolding holds_zoom
run_bits_are zset =
    same_bits (bit_and zset span) (run_bits zset) (suc last_zoom)
    (lt_of_le_of_lt (and_le_r zset span) (set_below (between 0 last_zoom) (suc last_zoom)))
    (set_below (holds_zoom zset) (suc last_zoom))
    (λ i l.
    bit_and_lem zset span i
    ∙ (rw (bit_of_set (between 0 last_zoom) (suc last_zoom) i l, le-leb 0 i (omega arith)) (and_comm (has_bit zset i) (leb i last_zoom))
    ∙ sym (bit_of_set (holds_zoom zset) (suc last_zoom) i l)))
  where
    span : ℕ
    span = set_of (between 0 last_zoom) (suc last_zoom)

-- a bit and what differs from its neighbour
and_xor : (x y : Bool) → (x && cond x (not y) y) ≡ (x && not y)
and_xor false y = refl
and_xor true y = refl

run_bit : (zset i : ℕ) → has_bit (run_bits zset) i ≡ holds_zoom zset i
run_bit zset = bit_of_whole (holds_zoom zset) (suc last_zoom) (λ z h. past_last_zoom zset z (omega arith))

-- the bits of a set beside which another number has none
beside : (zset : ℕ) (edge : ℕ → Bool) (x : ℕ) → ((i : ℕ) → (holds_zoom zset i && not (has_bit x i)) ≡ edge i)
    → bit_and (run_bits zset) (bit_xor (run_bits zset) x) ≡ set_of edge (suc last_zoom)
beside zset edge x h =
    same_bits (bit_and (run_bits zset) (bit_xor (run_bits zset) x)) (set_of edge (suc last_zoom)) (suc last_zoom)
    (lt_of_le_of_lt (and_le_l (run_bits zset) (bit_xor (run_bits zset) x)) (set_below (holds_zoom zset) (suc last_zoom)))
    (set_below edge (suc last_zoom))
    (λ i l.
    bit_and_lem (run_bits zset) (bit_xor (run_bits zset) x) i
    ∙ (rw (bit_xor_lem (run_bits zset) x i, run_bit zset i) (and_xor (holds_zoom zset i) (has_bit x i))
    ∙ (h i ∙ sym (bit_of_set edge (suc last_zoom) i l))))

pub run_ends_are : (zset : ℕ)
    → bit_and (run_bits zset) (bit_xor (run_bits zset) (run_bits zset / 2)) ≡ set_of (run_ends (holds_zoom zset)) (suc last_zoom)
unfolding run_ends
run_ends_are zset =
    beside zset (run_ends (holds_zoom zset)) (run_bits zset / 2) (λ i. rw (bit_half (run_bits zset) i, run_bit zset (suc i)) refl)

start_at : (zset i : ℕ) → (holds_zoom zset i && not (has_bit (run_bits zset * 2) i)) ≡ run_starts (holds_zoom zset) i
start_at zset zero = rw (bit_even (run_bits zset)) (and-true (holds_zoom zset 0) ∙ sym (start_first (holds_zoom zset)))
start_at zset (suc i) = rw (bit_double (run_bits zset) i, run_bit zset i) (sym (start_next (holds_zoom zset) i))

pub run_starts_are : (zset : ℕ)
    → bit_and (run_bits zset) (bit_xor (run_bits zset) (run_bits zset * 2 % 2 ^ 32)) ≡ set_of (run_starts (holds_zoom zset)) (suc last_zoom)
run_starts_are zset =
    let small : run_bits zset * 2 < 2 ^ 32 = omega (arith, set_below (holds_zoom zset) (suc last_zoom)) in
    rw (mod-eq_of_lt small) (beside zset (run_starts (holds_zoom zset)) (run_bits zset * 2) (start_at zset))
