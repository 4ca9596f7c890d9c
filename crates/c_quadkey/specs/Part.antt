-- Of a part of a key only its length is handed on.
use Rattle.std.specs.Prelude.{List, ℕ, length}
use Rattle.c_give.specs.Exported.{answered}
use Rattle.errors.specs.Answer.{Answer}

-- of a part of a key, how many bytes it has: it starts where the key does
abbrev pub part_length_of : ℕ → (ℕ × ℕ) × List ℕ → Answer ℕ
part_length_of number part = answered number (length part.1)
