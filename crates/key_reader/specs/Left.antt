-- Which readers bytes leave, by their three kinds, and that a reader stands for all the bytes that leave it.
--   Kind bytes     a key, bytes with a bad one among them, or too many
--   ReaderKind r   what some bytes leave, of each kind
use Rattle.std.specs.Prelude.{◌≡◌, refl, Bool, true, false, cond, not, ◌&&◌, List, [], ◌∷◌, ◌++◌, ℕ, zero, suc, ◌+◌, ◌≤◌, ◌<◌, ltb, eqb, length, replicate}
use Rattle.std.proofs.Common.{sym, ◌∙◌, mod-eq_of_lt, arith, length-append, ltb-true, ltb-false, lt-ltb, le-ltb, eqb-true, eq-eqb}
use Rattle.std.proofs.lemmas.List.{length-replicate}
use Rattle.std.proofs.Math.Pow.{are_bytes}
use Rattle.bits.specs.Tests.{and_parts}
use Rattle.constants.specs.Limits.{max_zoom}
use Rattle.quadkey.specs.Bytes.{digits_append}
use Rattle.quadkey.specs.Key.{all_digits_of, column_of, digit_at, key_from, key_of, row_of, spelled}
use Rattle.quadkey.specs.Spelling.{key_again, key_digits, key_length_lem, spelled_column, spelled_row, spelled_small}
use Rattle.tile.specs.OnMap.{OnMap}
use Rattle.key_reader.specs.Reader.{is_reader, left_by, reader_after, reader_at, same_reader}
use Rattle.key_reader.specs.declared.KeyReader.{KeyReader}

-- the three kinds of bytes

pub data Kind (bytes : List ℕ) : Type 0 where
  is_key : length bytes ≤ max_zoom → all_digits_of bytes ≡ true → Kind bytes
  has_bad : length bytes ≤ max_zoom → all_digits_of bytes ≡ false → Kind bytes
  is_long : max_zoom < length bytes → Kind bytes

pub kind_of : (bytes : List ℕ) → Kind bytes
kind_of bytes = pick (ltb max_zoom (length bytes)) refl (all_digits_of bytes) refl
  where
    pick : (a : Bool) → ltb max_zoom (length bytes) ≡ a → (b : Bool) → all_digits_of bytes ≡ b → Kind bytes
    pick true p b q = is_long (ltb-true _ _ p)
    pick false p true q = is_key (ltb-false _ _ p) q
    pick false p false q = has_bad (ltb-false _ _ p) q

pub after_key : (bytes : List ℕ) → length bytes ≤ max_zoom → all_digits_of bytes ≡ true
    → reader_after bytes ≡ reader_at (column_of bytes) (row_of bytes) (length bytes) false
unfolding reader_after
after_key bytes h e = rw (le-ltb _ _ h, e)

pub after_bad : (bytes : List ℕ) → length bytes ≤ max_zoom → all_digits_of bytes ≡ false → reader_after bytes ≡ reader_at 0 0 (length bytes) true
unfolding reader_after
after_bad bytes h e = rw (le-ltb _ _ h, e)

pub after_many : (bytes : List ℕ) → max_zoom < length bytes → reader_after bytes ≡ reader_at 0 0 (suc max_zoom) false
unfolding reader_after
after_many bytes h = rw (lt-ltb _ _ h)

-- a bad byte stays one, whatever follows
pub bad_append : (front back : List ℕ) → all_digits_of front ≡ false → all_digits_of (front ++ back) ≡ false
bad_append front back e = rw (digits_append front back, e)

-- 0 is no digit
zeros_bad : (n : ℕ) → 0 < n → all_digits_of (replicate n 0) ≡ false
unfolding all_digits_of
zeros_bad zero h = absurd (omega arith)
zeros_bad (suc n) h = refl

bad_not_empty : (bytes : List ℕ) → all_digits_of bytes ≡ false → 0 < length bytes
unfolding all_digits_of
bad_not_empty [] e = let z : ◌≡◌ {A = ℕ} 0 1 = cc in absurd (omega arith)
bad_not_empty (b ∷ bs) e = omega arith

-- the three kinds of readers

pub data ReaderKind : KeyReader → Type 0 where
  spelling : {x y count : ℕ} → OnMap x y count → ReaderKind (reader_at x y count false)
  with_bad : {count : ℕ} → 0 < count → count ≤ max_zoom → ReaderKind (reader_at 0 0 count true)
  too_many : ReaderKind (reader_at 0 0 (suc max_zoom) false)

pub left_after : (bytes : List ℕ) → ReaderKind (reader_after bytes)
left_after bytes = pick (kind_of bytes)
  where
    pick : Kind bytes → ReaderKind (reader_after bytes)
    pick (is_key h e) =
        rw (after_key bytes h e) (spelling (record { zoom = h; column = spelled_small 0 bytes; row = spelled_small 1 bytes }))
    pick (has_bad h e) = rw (after_bad bytes h e) (with_bad (bad_not_empty bytes e) h)
    pick (is_long h) = rw (after_many bytes h) too_many

-- as many bytes as the reader counts
pub left_by_length : (r : KeyReader) → length (left_by r) ≡ r.count
unfolding left_by
left_by_length r = pick r.bad
  where
    pick : (b : Bool) → length (cond b (replicate r.count 0) (key_of r.x r.y r.count)) ≡ r.count
    pick true = length-replicate {A = ℕ} r.count 0
    pick false = key_length_lem 48 r.x r.y r.count

-- the bytes named for a reader are bytes
pub left_bytes : (r : KeyReader) → are_bytes (left_by r) ≡ true
unfolding left_by key_from
left_bytes r = pick r.bad
  where
    zeros : (n : ℕ) → are_bytes (replicate n 0) ≡ true
    zeros zero = refl
    zeros (suc n) = zeros n

    keys : (x y z : ℕ) → are_bytes (key_of x y z) ≡ true
    keys x y zero = refl
    keys x y (suc z) =
        let h : 48 + digit_at x y z < 256 = omega arith in
        rw (lt-ltb _ _ h, keys x y z)

    pick : (b : Bool) → are_bytes (cond b (replicate r.count 0) (key_of r.x r.y r.count)) ≡ true
    pick true = zeros r.count
    pick false = keys r.x r.y r.count

-- and they do leave it
pub left_by_these : {r : KeyReader} → ReaderKind r → reader_after (left_by r) ≡ r
unfolding left_by
left_by_these (spelling {x} {y} {count} m) =
    after_key (key_of x y count) (rw (key_length_lem 48 x y count) m.zoom) (key_digits x y count)
    ∙ rw (spelled_column x y count, spelled_row x y count, key_length_lem 48 x y count, mod-eq_of_lt m.column, mod-eq_of_lt m.row)
left_by_these (with_bad {count} h k) =
    after_bad (replicate count 0) (rw (length-replicate {A = ℕ} count 0) k) (zeros_bad count h) ∙ rw (length-replicate {A = ℕ} count 0)
left_by_these too_many = after_many (key_of 0 0 (suc max_zoom)) (rw (key_length_lem 48 0 0 (suc max_zoom)) (omega arith))

same_itself : (r : KeyReader) → same_reader r r ≡ true
same_itself r = rw (eq-eqb r.x r.x refl, eq-eqb r.y r.y refl, eq-eqb r.count r.count refl) (pick r.bad)
  where
    pick : (b : Bool) → cond b b (not b) ≡ true
    pick true = refl
    pick false = refl

same_is : (r s : KeyReader) → same_reader r s ≡ true → r ≡ s
same_is r s e =
    let p = and_parts _ _ e in
    let q = and_parts _ _ p.1 in
    let t = and_parts _ _ q.1 in
    fields (eqb-true _ _ p.0) (eqb-true _ _ q.0) (eqb-true _ _ t.0) (pick r.bad s.bad t.1)
  where
    pick : (b d : Bool) → cond b d (not d) ≡ true → b ≡ d
    pick true d e = sym e
    pick false true e = e
    pick false false e = refl

    fields : r.x ≡ s.x → r.y ≡ s.y → r.count ≡ s.count → r.bad ≡ s.bad
        → reader_at r.x r.y r.count r.bad ≡ reader_at s.x s.y s.count s.bad
    fields p q n b = rw (p, q, n, b)

-- so the readers that pass are exactly those of the three kinds
pub left_passes : {r : KeyReader} → ReaderKind r → is_reader r ≡ true
unfolding is_reader
left_passes {r} l = rw (left_by_these l) (same_itself r)

pub passes_left : (r : KeyReader) → is_reader r ≡ true → ReaderKind r
unfolding is_reader
passes_left r e = rw (same_is r (reader_after (left_by r)) e) (left_after (left_by r))

two_bad : (one other more : List ℕ) → all_digits_of one ≡ false → all_digits_of other ≡ false → length one ≡ length other
    → reader_after (one ++ more) ≡ reader_after (other ++ more)
unfolding reader_after
two_bad one other more d e l = rw (bad_append one more d, bad_append other more e, length-append one more, length-append other more, l)

-- whichever bytes left a reader, it goes on as after the bytes named for it
pub goes_on : (bytes more : List ℕ) → reader_after (left_by (reader_after bytes) ++ more) ≡ reader_after (bytes ++ more)
unfolding left_by
goes_on bytes more = pick (kind_of bytes)
  where
    pick : Kind bytes → reader_after (left_by (reader_after bytes) ++ more) ≡ reader_after (bytes ++ more)
    pick (is_key h e) = rw (after_key bytes h e, key_again bytes e)
    pick (has_bad h e) =
        let zeros = zeros_bad (length bytes) (bad_not_empty bytes e) in
        rw (after_bad bytes h e) (two_bad (replicate (length bytes) 0) bytes more zeros e (length-replicate {A = ℕ} (length bytes) 0))
    pick (is_long h) =
        rw (after_many bytes h, after_many (bytes ++ more) (rw (length-append bytes more) (omega arith)))
        (after_many _ (rw (length-append _ more, key_length_lem 48 0 0 (suc max_zoom)) (omega arith)))

-- the test of a reader, kind by kind

pub bad_passes : (r : KeyReader) → r.bad ≡ true → r.count ≤ max_zoom → is_reader r ≡ ltb 0 r.count && (eqb r.x 0 && eqb r.y 0)
unfolding is_reader left_by spelled all_digits_of
bad_passes r e h = rw e (pick r.count h)
  where
    none : (a b : Bool) → a && (b && false) ≡ false
    none true true = refl
    none true false = refl
    none false b = refl

    all : (a b : Bool) → a && (b && true) ≡ a && b
    all true true = refl
    all true false = refl
    all false b = refl

    pick : (n : ℕ) → n ≤ max_zoom
        → same_reader (reader_at r.x r.y n true) (reader_after (replicate n 0)) ≡ ltb 0 n && (eqb r.x 0 && eqb r.y 0)
    pick zero h = rw (after_key [] (omega arith) refl) (none (eqb r.x 0) (eqb r.y 0))
    pick (suc n) h =
        rw (
          after_bad (replicate (suc n) 0) (rw (length-replicate {A = ℕ} (suc n) 0) h) (zeros_bad (suc n) (omega arith)),
          length-replicate {A = ℕ} n 0,
          eq-eqb (suc n) (suc n) refl,
          lt-ltb 0 (suc n) (omega arith),
        )
        (all (eqb r.x 0) (eqb r.y 0))

pub bad_and_many_fails : (r : KeyReader) → r.bad ≡ true → max_zoom < r.count → is_reader r ≡ false
unfolding is_reader left_by
bad_and_many_fails r e h =
    rw (e, after_many (replicate r.count 0) (rw (length-replicate {A = ℕ} r.count 0) h))
    (pick (eqb r.x 0) (eqb r.y 0) (eqb r.count (suc max_zoom)))
  where
    pick : (a b c : Bool) → a && (b && (c && false)) ≡ false
    pick false b c = refl
    pick true false c = refl
    pick true true false = refl
    pick true true true = refl

pub many_passes : (r : KeyReader) → r.bad ≡ false → max_zoom < r.count
    → is_reader r ≡ eqb r.count (suc max_zoom) && (eqb r.x 0 && eqb r.y 0)
unfolding is_reader left_by
many_passes r e h =
    rw (e, after_many (key_of r.x r.y r.count) (rw (key_length_lem 48 r.x r.y r.count) h))
    (pick (eqb r.x 0) (eqb r.y 0) (eqb r.count (suc max_zoom)))
  where
    pick : (a b c : Bool) → a && (b && (c && true)) ≡ c && (a && b)
    pick false b false = refl
    pick false b true = refl
    pick true false false = refl
    pick true false true = refl
    pick true true false = refl
    pick true true true = refl

pub on_map_passes : (r : KeyReader) → r.bad ≡ false → OnMap r.x r.y r.count → is_reader r ≡ true
on_map_passes r e m = let l : ReaderKind (reader_at r.x r.y r.count false) = spelling m in left_passes {r = r} (rw (← e) at l)

pub passes_on_map : {r : KeyReader} → ReaderKind r → r.bad ≡ false → r.count ≤ max_zoom → OnMap r.x r.y r.count
passes_on_map (spelling m) e h = m
passes_on_map (with_bad n k) e h = let z : ◌≡◌ {A = ℕ} 0 1 = cc in absurd (omega arith)
passes_on_map too_many e h = absurd (omega arith)

-- what a reader with a bad byte stands for has one
pub left_bad : {r : KeyReader} → ReaderKind r → r.bad ≡ true → all_digits_of (left_by r) ≡ false
unfolding left_by
left_bad (spelling m) e = let z : ◌≡◌ {A = ℕ} 0 1 = cc in absurd (omega arith)
left_bad (with_bad {count} n k) e = zeros_bad count n
left_bad too_many e = let z : ◌≡◌ {A = ℕ} 0 1 = cc in absurd (omega arith)

-- there is one reader after too many bytes
pub left_many : {r : KeyReader} → ReaderKind r → max_zoom < r.count → r ≡ reader_at 0 0 (suc max_zoom) false
left_many (spelling m) h = absurd (omega (arith, m.zoom))
left_many (with_bad n k) h = absurd (omega arith)
left_many too_many h = refl

pub off_map_fails : (r : KeyReader) → r.bad ≡ false → r.count ≤ max_zoom → (OnMap r.x r.y r.count → ⊥) → is_reader r ≡ false
off_map_fails r e h off = pick (is_reader r) refl
  where
    pick : (b : Bool) → is_reader r ≡ b → b ≡ false
    pick false p = refl
    pick true p = absurd (off (passes_on_map (passes_left r p) e h))
