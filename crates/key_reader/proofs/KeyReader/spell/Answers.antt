-- `KeyReader::spell` meets its contract: before byte i x and y are what the reader's key spells with the first i bytes behind it, and all bytes
-- are digits if those from i on are.
use mathlib.Core.Path.{◌≡◌, refl, sym, ◌∙◌}
use mathlib.Core.Bool.{true}
use mathlib.Core.List.{◌++◌}
use Prim.Native.Nat.{ℕ, ◌+◌, ◌-◌, ◌^◌, ◌<◌}
use native.Mathlib.Nat.{div-one}
use native.Mathlib.Omega.{arith}
use lib.ListN.{length, take, get_or}
use lib.Seq.{take-length}
use Rattle.constants.specs.Limits.{max_zoom_small}
use Rattle.quadkey.specs.Bytes.{digit_bounds, rest_bad, rest_digit, rest_none}
use Rattle.quadkey.specs.Key.{is_digit, key_of, spelled}
use Rattle.quadkey.specs.Spelling.{key_length_lem}
use Rattle.key_reader.specs.Steps.{after_digits, after_no_digit, spelled_first, spelled_next, spelled_within}
use Rattle.key_reader.proofs.KeyReader.spell.Goals as goal
use Rattle.key_reader.proofs.KeyReader.spell.Goals.{After-from-digit, Else-not-is_quadkey_byte}

pub overflow_cast-count : goal.overflow_cast-count
overflow_cast-count c = omega (arith, c.requires.bytes_bound, max_zoom_small)

pub overflow_add-count : goal.overflow_add-count
overflow_add-count c = omega (arith, c.requires.bytes_bound, max_zoom_small)

pub loop-byte-init : goal.loop-byte-init
loop-byte-init c = let a = c.args in
    let n : a.self.count + length a.bytes.now - length a.bytes.now ≡ a.self.count = omega arith in
    let f = spelled_first c.requires.on_map in
    record { digits = refl; column = rw n f.0; row = rw n f.1 }

pub returns-then-not-is_quadkey_byte : goal.returns-then-not-is_quadkey_byte
returns-then-not-is_quadkey_byte c = let p = c.requires in
    let no = sym c.is_quadkey_byte.ensures ∙ c.if-not-is_quadkey_byte.true in
    c.blank.ensures
    ∙ sym (after_no_digit _ _ p.bad_value p.bytes_bound (c.loop-byte.invariant.digits ∙ rest_bad _ _ c.loop-byte-test.true no))

good : (c : Else-not-is_quadkey_byte)
    → is_digit (get_or c.args.bytes.now c.loop-byte.byte-index 0) ≡ true
good c = sym c.is_quadkey_byte.ensures ∙ c.if-not-is_quadkey_byte.false

pub overflow_sub-byte : goal.overflow_sub-byte
overflow_sub-byte c = (digit_bounds _ (good (goal.at.overflow_sub-byte c).Else-not-is_quadkey_byte)).0

small : (j : ℕ) (c : After-from-digit) →
    let a = c.args in
    spelled j (key_of a.self.x a.self.y (a.self.count + length a.bytes.now - length a.bytes.now) ++ take c.loop-byte.byte-index a.bytes.now) < 2 ^ 30
small j c =
    let a = c.args in
    spelled_within j (key_of a.self.x a.self.y (a.self.count + length a.bytes.now - length a.bytes.now)) a.bytes.now c.loop-byte.byte-index
    (omega arith) (rw (key_length_lem 48 _ _ _) (omega (arith, c.requires.bytes_bound)))

pub overflow_mul-x : goal.overflow_mul-x
overflow_mul-x c = omega (arith, small 0 (goal.at.overflow_mul-x c).After-from-digit)

pub overflow_add-x : goal.overflow_add-x
overflow_add-x c = omega (arith, small 0 (goal.at.overflow_add-x c).After-from-digit)

pub overflow_mul-y : goal.overflow_mul-y
overflow_mul-y c = omega (arith, small 1 (goal.at.overflow_mul-y c).After-from-digit)

pub overflow_add-y : goal.overflow_add-y
overflow_add-y c = omega (arith, small 1 (goal.at.overflow_add-y c).After-from-digit)

pub loop-byte-preserved : goal.loop-byte-preserved
loop-byte-preserved c =
    let h = c.loop-byte-test.true in
    let l = c.loop-byte.invariant in record {
      digits = l.digits ∙ rest_digit _ _ h (good (goal.at.loop-byte-preserved c).Else-not-is_quadkey_byte);
      column = rw (spelled_next 0 _ _ _ h, ← l.column, c.from-digit.ensures, div-one);
      row = rw (spelled_next 1 _ _ _ h, ← l.row, c.from-digit.ensures);
    }

pub returns : goal.returns
returns c = let p = c.requires in
    let a = c.args in
    let n : a.self.count + length a.bytes.now - length a.bytes.now ≡ a.self.count = omega arith in
    let e : c.loop-byte.byte-index ≡ length a.bytes.now = omega arith in
    rw (after_digits a.self a.bytes.now p.bad_value p.bytes_bound (c.loop-byte.invariant.digits ∙ rest_none _ _ c.loop-byte-test.false), c.loop-byte.invariant.column, c.loop-byte.invariant.row, n, e, take-length)
