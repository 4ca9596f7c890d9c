-- Bytes read one after the other behind those that left a reader: what column and row spell then, and which reader comes of it.
use Rattle.std.specs.Prelude.{◌≡◌, true, false, List, [], ◌∷◌, ◌++◌, ℕ, suc, ◌+◌, ◌-◌, ◌*◌, ◌^◌, ◌≤◌, ◌<◌, length, take, get_or}
use Rattle.std.proofs.Common.{sym, ◌∙◌, append_assoc, append-nil, lt_of_lt_of_le, mod-eq_of_lt, add-one, arith, length-append, pow_mono, take-suc, length-take-le}
use Rattle.bits.specs.Bits.{bit}
use Rattle.constants.specs.Limits.{max_zoom, max_zoom_small}
use Rattle.quadkey.specs.Bytes.{digits_append}
use Rattle.quadkey.specs.Key.{all_digits_of, column_of, key_of, key_refusal, key_tile, row_of, spelled}
use Rattle.quadkey.specs.Refusals.{key_too_long, key_bad_byte}
use Rattle.quadkey.specs.Spelling.{key_again, key_digits, spelled_column, spelled_row, spelled_small, spelled_snoc}
use Rattle.quadkey.specs.Theorems.{tile_answer, tile_to_key_to_tile}
use Rattle.tile.specs.OnMap.{OnMap, tile_at}
use Rattle.key_reader.specs.Left.{Kind, is_key, has_bad, is_long, kind_of, after_bad, after_key, after_many, bad_append}
use Rattle.key_reader.specs.Left.{ReaderKind, left_after, left_bad, left_by_length, passes_on_map}
use Rattle.key_reader.specs.Reader.{left_by, reader_after, reader_at}
use Rattle.key_reader.specs.declared.KeyReader.{KeyReader}

-- before the first byte
pub spelled_first : {x y n : ℕ} → OnMap x y n → (x ≡ spelled 0 (key_of x y n ++ [])) × (y ≡ spelled 1 (key_of x y n ++ []))
spelled_first {x} {y} {n} m = (
  rw (append-nil (key_of x y n), spelled_column x y n) (sym (mod-eq_of_lt m.column)),
  rw (append-nil (key_of x y n), spelled_row x y n) (sym (mod-eq_of_lt m.row)),
)

-- one byte more
pub spelled_next : (j : ℕ) (key bytes : List ℕ) (i : ℕ) → i < length bytes
    → spelled j (key ++ take (i + 1) bytes) ≡ 2 * spelled j (key ++ take i bytes) + bit (get_or bytes i 0 - 48) j
spelled_next j key bytes i h =
    rw (add-one i, take-suc bytes i 0 h, ← append_assoc key (take i bytes) (get_or bytes i 0 ∷ []))
    (spelled_snoc j (key ++ take i bytes) (get_or bytes i 0))

pub spelled_within : (j : ℕ) (key bytes : List ℕ) (i : ℕ) → i ≤ length bytes → length key + i ≤ max_zoom
    → spelled j (key ++ take i bytes) < 2 ^ 30
spelled_within j key bytes i h k =
    let l : length (key ++ take i bytes) ≤ 30 =
    rw (length-append key (take i bytes), length-take-le i bytes h) (omega (arith, max_zoom_small)) in
    lt_of_lt_of_le (spelled_small j (key ++ take i bytes)) (pow_mono l)

-- the reader after all of them: digits behind a key, a bad byte behind a key or before, too many
left_and_more : (r : KeyReader) (bytes : List ℕ) → length (left_by r ++ bytes) ≡ r.count + length bytes
left_and_more r bytes = rw (length-append (left_by r) bytes, left_by_length r)

digits_of_more : (r : KeyReader) (bytes : List ℕ) → r.bad ≡ false → all_digits_of (left_by r ++ bytes) ≡ all_digits_of bytes
unfolding left_by
digits_of_more r bytes e = rw (e, digits_append (key_of r.x r.y r.count) bytes, key_digits r.x r.y r.count)

pub after_digits : (r : KeyReader) (bytes : List ℕ) → r.bad ≡ false → r.count + length bytes ≤ max_zoom → all_digits_of bytes ≡ true
    → reader_after (left_by r ++ bytes)
    ≡ reader_at (column_of (key_of r.x r.y r.count ++ bytes)) (row_of (key_of r.x r.y r.count ++ bytes))
    (r.count + length bytes) false
unfolding left_by
after_digits r bytes e h d =
    after_key (left_by r ++ bytes) (rw (left_and_more r bytes) h) (digits_of_more r bytes e ∙ d) ∙ rw (left_and_more r bytes, e)

pub after_no_digit : (r : KeyReader) (bytes : List ℕ) → r.bad ≡ false → r.count + length bytes ≤ max_zoom → all_digits_of bytes ≡ false
    → reader_after (left_by r ++ bytes) ≡ reader_at 0 0 (r.count + length bytes) true
after_no_digit r bytes e h d =
    after_bad (left_by r ++ bytes) (rw (left_and_more r bytes) h) (digits_of_more r bytes e ∙ d) ∙ rw (left_and_more r bytes)

pub after_left_bad : {r : KeyReader} (bytes : List ℕ) → ReaderKind r → r.bad ≡ true → r.count + length bytes ≤ max_zoom
    → reader_after (left_by r ++ bytes) ≡ reader_at 0 0 (r.count + length bytes) true
after_left_bad {r} bytes left e h =
    after_bad (left_by r ++ bytes) (rw (left_and_more r bytes) h) (bad_append (left_by r) bytes (left_bad left e))
    ∙ rw (left_and_more r bytes)

pub after_left_many : (r : KeyReader) (bytes : List ℕ) → max_zoom < r.count + length bytes
    → reader_after (left_by r ++ bytes) ≡ reader_at 0 0 (suc max_zoom) false
after_left_many r bytes h = after_many (left_by r ++ bytes) (rw (left_and_more r bytes) h)

-- what is told of the bytes that left a reader
pub told_many : (r : KeyReader) → max_zoom < r.count → key_refusal (left_by r) ≡ 4
told_many r h = key_too_long (left_by r) (rw (left_by_length r) h)

pub told_bad : {r : KeyReader} → ReaderKind r → r.bad ≡ true → r.count ≤ max_zoom → key_refusal (left_by r) ≡ 5
told_bad {r} left e h = key_bad_byte (left_by r) (rw (left_by_length r) h) (left_bad left e)

pub told_tile : {r : KeyReader} → ReaderKind r → r.bad ≡ false → r.count ≤ max_zoom
    → key_tile (left_by r) ≡ tile_answer (tile_at r.x r.y r.count)
unfolding left_by
told_tile {r} left e h = rw e (tile_to_key_to_tile r.x r.y r.count (passes_on_map left e h))

-- whichever bytes left a reader, it tells of them
pub told_again : (bytes : List ℕ) → key_tile (left_by (reader_after bytes)) ≡ key_tile bytes
unfolding left_by
told_again bytes = pick (kind_of bytes)
  where
    pick : Kind bytes → key_tile (left_by (reader_after bytes)) ≡ key_tile bytes
    pick (is_key h e) = rw (after_key bytes h e, key_again bytes e)
    pick (has_bad h e) =
        let f : key_refusal (left_by (reader_after bytes)) ≡ 5 =
        told_bad (left_after bytes) (rw (after_bad bytes h e)) (rw (after_bad bytes h e) h) in
        rw (f, key_bad_byte bytes h e)
    pick (is_long h) =
        let f : key_refusal (left_by (reader_after bytes)) ≡ 4 = told_many (reader_after bytes) (rw (after_many bytes h) (omega arith)) in
        rw (f, key_too_long bytes h)
