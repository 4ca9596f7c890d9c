-- What the Rust computes, on values: its loops and bit operations in its own order and in 32 bits. Theorems says that each is document 01's
-- reading.
use Rattle.std.specs.Prelude.{Bool, cond, List, [], ◌∷◌, ◌++◌, ℕ, zero, suc, ◌-◌, ◌/◌, ◌%◌, ◌^◌}
use Rattle.std.specs.Int.Bits.{bit_and, bit_or}
use Rattle.zoom_bits.specs.Bits.{has_bit, set_of}
use Rattle.zoom_bits.specs.Masks.{mask, masked}

-- 2_u32.pow(zoom) - 1
abbrev pub zoom_max_xY : ℕ → ℕ
zoom_max_xY zoom = 2 ^ zoom % 2 ^ 32 - 1

-- 0..n
unfoldable pub range : ℕ → List ℕ
range zero = []
range (suc n) = range n ++ (n ∷ [])

unfoldable pub filter : (ℕ → Bool) → List ℕ → List ℕ
filter test [] = []
filter test (a ∷ l) = cond (test a) (a ∷ filter test l) (filter test l)

-- zset.reverse_bits() of 32 bits
abbrev pub reverse_bits : ℕ → ℕ
reverse_bits zset = set_of (λ i. has_bit zset (31 - i)) 32

-- zset2zvec, with at most so many calls of itself
unfoldable pub zset2zvec : ℕ → ℕ → List ℕ
zset2zvec zero zset = []
zset2zvec (suc calls) zset = cond (masked zset 31) (zset2zvec calls (reverse_bits zset / 2)) (filter (masked zset) (range 31))

abbrev pub zset2zvec_rev : ℕ → ℕ → List ℕ
zset2zvec_rev calls zset = zset2zvec calls (reverse_bits zset / 2)

-- zvec.iter().fold(acc, |acc, &z| acc | (1 << place(z)))
unfoldable pub fold : (ℕ → ℕ) → ℕ → List ℕ → ℕ
fold place acc [] = acc
fold place acc (z ∷ l) = fold place (bit_or acc (mask (place z))) l

abbrev pub zvec2zset : List ℕ → ℕ
zvec2zset zvec = fold (λ z. z) 0 zvec

abbrev pub zvec2zset_rev : List ℕ → ℕ
zvec2zset_rev zvec = fold (λ z. 31 - z) 0 zvec

-- self.0 & (1 << (31 - rhs))
abbrev pub bitand_zoom : ℕ → ℕ → ℕ
bitand_zoom zset zoom = bit_and zset (mask (31 - zoom))

-- ZoomSet::all
abbrev pub all : ℕ
all = 2147483647
