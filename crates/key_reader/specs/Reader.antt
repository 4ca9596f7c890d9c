-- The reader of keys, from document 02's request K4: what it is after some bytes, and what it tells, by document 01's definition of a key.
--   reader_after bytes   the reader that these bytes leave
--   left_by r            bytes that leave the reader r, if any do
--   is_reader r          whether some do
--   fed_of r b           what a feed answers
--   told_of r            what the reader tells
use Rattle.std.specs.Prelude.{Bool, true, false, cond, not, ◌&&◌, List, [], ◌∷◌, ◌++◌, ℕ, suc, ltb, eqb, length, replicate, Result, ⊤}
use Rattle.constants.specs.Limits.{max_zoom}
use Rattle.errors.specs.Answer.{Answer, answer, ◌when◌, ◌else◌}
use Rattle.errors.specs.declared.Refusal.{Refusal}
use Rattle.errors.specs.Cases.{check_number}
use Rattle.quadkey.specs.Key.{all_digits_of, column_of, key_of, key_refusal, row_of, tile_of}
use Rattle.tile.specs.OnMap.{no_tile_of}
use Rattle.tile.specs.declared.Tile.{Tile}
use Rattle.key_reader.specs.declared.KeyReader.{KeyReader}

abbrev pub reader_at : ℕ → ℕ → ℕ → Bool → KeyReader
reader_at x y count bad = record { x = x; y = y; count = count; bad = bad }

-- of a key its tile's column and row, and its length; of bytes with a bad one among them how many they are; of too many that they are, by
-- one count for all of them
unfoldable pub reader_after : List ℕ → KeyReader
reader_after bytes =
    cond (ltb max_zoom (length bytes)) (reader_at 0 0 (suc max_zoom) false)
    (cond (all_digits_of bytes) (reader_at (column_of bytes) (row_of bytes) (length bytes) false) (reader_at 0 0 (length bytes) true))

-- "its start"
abbrev pub start : KeyReader
start = reader_after []

-- bytes that leave a reader, if any do: the key of its tile, or as many bytes 0, which is no digit
unfoldable pub left_by : KeyReader → List ℕ
left_by r = cond r.bad (replicate r.count 0) (key_of r.x r.y r.count)

abbrev pub same_reader : KeyReader → KeyReader → Bool
same_reader r s =
    eqb r.x s.x && (eqb r.y s.y && (eqb r.count s.count && cond r.bad s.bad (not s.bad)))

-- not so of "a reader that no feeding from its start leaves": where any bytes leave it, those named for it do (`exactly_the_readers`)
unfoldable pub is_reader : KeyReader → Bool
is_reader r = same_reader r (reader_after (left_by r))

-- the promises

-- "Errors: 16 .. for a reader that no feeding from its start leaves, handed back as it was": the one refusal whose value is not zero
abbrev pub fed_of : KeyReader → ℕ → Answer KeyReader
fed_of r b = answer (16 when not (is_reader r)) r (reader_after (left_by r ++ (b ∷ [])))

-- the refusal's number, beside the reader as the feed left it
abbrev pub feed_case : Result ⊤ Refusal → KeyReader → Answer KeyReader
feed_case r after = record { number = check_number r; value = after }

-- "just what a caller is promised for the bytes so far as a whole key"; "16, tested before 4"
abbrev pub told_of : KeyReader → Answer Tile
told_of r = answer (16 when not (is_reader r) else key_refusal (left_by r)) no_tile_of (tile_of (left_by r))
