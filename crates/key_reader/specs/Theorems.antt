-- Document 02's request K4, sentence by sentence, over what `feed` and `tile` of a reader promise. Nothing is assumed.
--   fed_all r bytes   the reader that is left where r is fed these bytes, one after the other
use Rattle.std.specs.Prelude.{◌≡◌, refl, true, false, List, [], ◌∷◌, ◌++◌, ◌↔◌, ℕ, ◌≤◌, ◌<◌, length}
use Rattle.std.proofs.Common.{◌∙◌, append_assoc, append-nil, arith, length-append}
use Rattle.std.proofs.Math.Pow.{are_bytes}
use Rattle.constants.specs.Limits.{max_zoom}
use Rattle.quadkey.specs.Key.{all_digits_of, key_tile, spelled}
use Rattle.quadkey.specs.Refusals.{key_bad_byte, key_too_long}
use Rattle.tile.specs.OnMap.{no_tile_of}
use Rattle.key_reader.specs.Left.{ReaderKind, after_many, bad_append, goes_on, left_after, left_by_these, left_bytes}
use Rattle.key_reader.specs.Left.{left_passes, passes_left}
use Rattle.key_reader.specs.Reader.{fed_of, is_reader, left_by, reader_after, reader_at, start, told_of}
use Rattle.key_reader.specs.Steps.{told_again}
use Rattle.key_reader.specs.declared.KeyReader.{KeyReader}

-- "Fed byte by byte": each feed is given the reader that the one before handed back
unfoldable pub fed_all : KeyReader → List ℕ → KeyReader
fed_all r [] = r
fed_all r (b ∷ bytes) = fed_all (fed_of r b).value bytes

passes : (bytes : List ℕ) → is_reader (reader_after bytes) ≡ true
passes bytes = left_passes (left_after bytes)

-- the reader after some bytes is what feeding them leaves
fed_behind : (bytes more : List ℕ) → fed_all (reader_after bytes) more ≡ reader_after (bytes ++ more)
unfolding fed_all
fed_behind bytes [] = rw (append-nil bytes)
fed_behind bytes (b ∷ more) =
    let e : (fed_of (reader_after bytes) b).value ≡ reader_after (bytes ++ (b ∷ [])) = rw (passes bytes) (goes_on bytes (b ∷ [])) in
    rw (e, fed_behind (bytes ++ (b ∷ [])) more, append_assoc bytes (b ∷ []) more)

pub fed_from_the_start : (bytes : List ℕ) → fed_all start bytes ≡ reader_after bytes
fed_from_the_start bytes = fed_behind [] bytes

-- "the reader tells before the first byte and after each one just what a caller is promised for the bytes so far as a whole key": for every
-- list of bytes, also none, and no feed of them is refused
pub the_reader_tells : (bytes : List ℕ)
    → (told_of (fed_all start bytes) ≡ key_tile bytes) × ((b : ℕ) → (fed_of (fed_all start bytes) b).number ≡ 0)
the_reader_tells bytes = (
  rw (fed_from_the_start bytes, passes bytes) (told_again bytes),
  λ b. rw (fed_from_the_start bytes, passes bytes),
)

-- however many bytes came, and however wrong they were: 4 for ever after more than the longest key has, and one reader for all of them
pub four_for_ever : (bytes more : List ℕ) → max_zoom < length bytes
    → (told_of (fed_all start (bytes ++ more)) ≡ record { number = 4; value = no_tile_of }) × (fed_all start (bytes ++ more) ≡ fed_all start bytes)
four_for_ever bytes more h =
    let l : max_zoom < length (bytes ++ more) = rw (length-append bytes more) (omega arith) in (
      (the_reader_tells (bytes ++ more)).0 ∙ rw (key_too_long (bytes ++ more) l),
      rw (fed_from_the_start (bytes ++ more), fed_from_the_start bytes, after_many bytes h, after_many (bytes ++ more) l),
    )

-- until then a bad byte is told for ever, whatever follows it
pub five_until_then : (bytes more : List ℕ) → all_digits_of bytes ≡ false → length (bytes ++ more) ≤ max_zoom
    → told_of (fed_all start (bytes ++ more)) ≡ record { number = 5; value = no_tile_of }
five_until_then bytes more e h = (the_reader_tells (bytes ++ more)).0 ∙ rw (key_bad_byte (bytes ++ more) h (bad_append bytes more e))

-- feeding two parts one after the other is feeding the whole, whatever the reader
pub in_two_parts : (r : KeyReader) (bytes more : List ℕ) → fed_all (fed_all r bytes) more ≡ fed_all r (bytes ++ more)
unfolding fed_all
in_two_parts r [] more = refl
in_two_parts r (b ∷ bytes) more = in_two_parts (fed_of r b).value bytes more

-- "16 .. for a reader that no feeding from its start leaves": what passes is exactly what some bytes leave
pub exactly_the_readers : (r : KeyReader) → is_reader r ≡ true ↔ ((bytes : List ℕ) × (are_bytes bytes ≡ true) × (fed_all start bytes ≡ r))
exactly_the_readers r = (
  λ e. (left_by r, left_bytes r, fed_from_the_start (left_by r) ∙ left_by_these (passes_left r e)),
  λ w. rw (← w.2, fed_from_the_start w.0) (passes w.0),
)

-- and these are of three kinds
pub the_three_kinds : (r : KeyReader) → is_reader r ≡ true ↔ ReaderKind r
the_three_kinds r = (passes_left r, λ l. left_passes l)

-- "16, tested before 4, .. handed back as it was": any other reader is refused by 16, whatever its numbers say, and stays as it was however
-- many bytes it is fed
pub refused_as_it_was : (r : KeyReader) → is_reader r ≡ false
    → (told_of r ≡ record { number = 16; value = no_tile_of }) × ((b : ℕ) → fed_of r b ≡ record { number = 16; value = r })
    × ((bytes : List ℕ) → fed_all r bytes ≡ r)
unfolding fed_all
refused_as_it_was r e = (rw e, λ b. rw e, stays)
  where
    stays : (bytes : List ℕ) → fed_all r bytes ≡ r
    stays [] = refl
    stays (b ∷ bytes) = rw (e, stays bytes)

-- the start is all zeros
pub the_start_is_zeros : start ≡ reader_at 0 0 0 false
unfolding reader_after max_zoom all_digits_of spelled
the_start_is_zeros = refl
