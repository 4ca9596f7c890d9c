-- Quadkeys, by the Bing Maps rule: digit 2·(bit of y) + (bit of x), top bit first, as the bytes 48 to 51.
use Rattle.std.specs.Prelude.{Bool, true, cond, not, ◌&&◌, List, [], ◌∷◌, map, ℕ, zero, suc, ◌+◌, ◌-◌, ◌*◌, ◌^◌, leb, ltb, eqb, length}
use Rattle.bits.specs.Bits.{bit}
use Rattle.constants.specs.Limits.{max_zoom}
use Rattle.errors.specs.Answer.{Answer, Lent, answer, written, ◌when◌, ◌else◌}
use Rattle.tile.specs.OnMap.{tile_at, no_tile_of, tile_refusal}
use Rattle.tile.specs.declared.Tile.{Tile}

-- the digit of a tile's key that stands for bit i of its column and row
abbrev pub digit_at : ℕ → ℕ → ℕ → ℕ
digit_at x y i = 2 * bit y i + bit x i

-- the digits of the z low bits, the top bit first, each added to `base`
unfoldable pub key_from : ℕ → ℕ → ℕ → ℕ → List ℕ
key_from base x y zero = []
key_from base x y (suc i) = (base + digit_at x y i) ∷ key_from base x y i

-- the key of a tile: the bytes of the digits
abbrev pub key_of : ℕ → ℕ → ℕ → List ℕ
key_of x y z = key_from 48 x y z

abbrev pub is_digit : ℕ → Bool
is_digit b = leb 48 b && leb b 51

unfoldable pub all_digits_of : List ℕ → Bool
all_digits_of [] = true
all_digits_of (b ∷ bs) = is_digit b && all_digits_of bs

-- of a key: 4 for more bytes than the deepest zoom has digits, then 5 for a byte that is no digit
unfoldable pub key_refusal : List ℕ → ℕ
key_refusal key = 4 when ltb max_zoom (length key) else 5 when not (all_digits_of key)

-- the number that bit i of each digit spells, the first digit on top: the column for i = 0, the row for i = 1
unfoldable pub spelled : ℕ → List ℕ → ℕ
spelled i [] = 0
spelled i (b ∷ bs) = bit (b - 48) i * 2 ^ length bs + spelled i bs

abbrev pub column_of : List ℕ → ℕ
column_of = spelled 0

abbrev pub row_of : List ℕ → ℕ
row_of = spelled 1

-- the tile that a key spells
abbrev pub tile_of : List ℕ → Tile
tile_of key = tile_at (column_of key) (row_of key) (length key)

-- the promises

abbrev pub key_written : ℕ → ℕ → ℕ → ℕ → List ℕ → Lent ℕ
key_written base x y z memory = written (tile_refusal x y z) (key_from base x y z) memory

abbrev pub key_tile : List ℕ → Answer Tile
key_tile key = answer (key_refusal key) no_tile_of (tile_at (column_of key) (row_of key) (length key))

abbrev pub is_key : List ℕ → Bool
is_key key = eqb (key_refusal key) 0

-- 0 and 2 change places, 1 and 3
abbrev pub flip_digit : ℕ → ℕ
flip_digit b = cond (ltb b 50) (b + 2) (b - 2)

abbrev pub flip_written : List ℕ → List ℕ → Lent ℕ
flip_written key memory = written (key_refusal key) (map flip_digit key) memory
