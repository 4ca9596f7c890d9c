-- A reader of keys in numbers: `bad` is 1 or 0. A number above 1 there is no reader's, and is refused as one that no feeding leaves.
use Rattle.std.specs.Prelude.{◌≡◌, refl, cond, not, ℕ, zero, suc, ◌≤◌, eqb, ltb}
use Rattle.std.proofs.Common.{le-ltb}
use Rattle.c_give.specs.Exported.{answered}
use Rattle.errors.specs.Answer.{Answer, answer, number_of, ◌when◌, ◌else◌}
use Rattle.errors.specs.Laws.{positive}
use Rattle.errors.specs.declared.Refusal.{Refusal}
use Rattle.key_reader.specs.Reader.{fed_of, feed_case, is_reader, left_by, reader_at, told_of}
use Rattle.key_reader.specs.declared.KeyReader.{KeyReader}
use Rattle.quadkey.specs.Key.{key_refusal, tile_of}
use Rattle.tile.specs.OnMap.{no_tile_of}
use Rattle.tile.specs.declared.Tile.{Tile}

pub record Numbers : Type 0 where
  pub x : ℕ
  pub y : ℕ
  pub count : ℕ
  pub bad : ℕ

abbrev pub numbers_at : ℕ → ℕ → ℕ → ℕ → Numbers
numbers_at x y count bad = record { x = x; y = y; count = count; bad = bad }

abbrev pub reader_numbers : KeyReader → Numbers
reader_numbers r = numbers_at r.x r.y r.count (cond r.bad 1 0)

abbrev pub reader_in : Numbers → KeyReader
reader_in n = reader_at n.x n.y n.count (eqb n.bad 1)

-- refused: the numbers as they were
abbrev pub fed_numbers : Numbers → ℕ → Answer Numbers
fed_numbers n b = answer (16 when ltb 1 n.bad else (fed_of (reader_in n) b).number) n (reader_numbers (fed_of (reader_in n) b).value)

abbrev pub told_numbers : Numbers → Answer Tile
told_numbers n = answer (16 when ltb 1 n.bad else (told_of (reader_in n)).number) no_tile_of (told_of (reader_in n)).value

-- what `tile` answers, in numbers
pub told_numbers_lem : (n : Numbers) → n.bad ≤ 1 → told_of (reader_in n) ≡ told_numbers n
told_numbers_lem n h = rw (le-ltb _ _ h) (again (16 when not (is_reader (reader_in n)) else key_refusal (left_by (reader_in n))))
  where
    again : (k : ℕ) → answer k no_tile_of (tile_of (left_by (reader_in n)))
        ≡ answer (answer k no_tile_of (tile_of (left_by (reader_in n)))).number no_tile_of (answer k no_tile_of (tile_of (left_by (reader_in n)))).value
    again zero = refl
    again (suc k) = refl
