-- What the program keeps from chunk to chunk: the line so far, whatever was written meanwhile.
use Rattle.std.specs.Prelude.{◌≡◌, List, ℕ, suc, ◌≤◌, length, take, drop, Result, Ok, Err}
use Rattle.std.proofs.Common.{sym, arith, length-take, drop_of_length-le, take_all}
use Rattle.constants.specs.Limits.{max_line}
use Rattle.form_stream.specs.Stream.{so_far}
use Rattle.form_stream.specs.declared.Feeding.{Feeding}

-- the first bytes of the line so far behind the bytes of a chunk, one more than a line may have
abbrev pub line_kept : List ℕ → List ℕ → List ℕ
line_kept line chunk = take (suc max_line) (so_far line chunk)

-- where all that was to be printed could be written
abbrev pub KeepsLine : {E : Type 0} → List ℕ → List ℕ → List ℕ → Result Feeding E → Type 0
KeepsLine chunk line after (Ok f) = take f.len after ≡ line_kept line chunk
KeepsLine chunk line after (Err _) = Unit {0}

-- behind a chunk that is used up
pub nothing_more : (chunk : List ℕ) (at len : ℕ) (line : List ℕ) → length line ≡ suc max_line → length chunk ≤ at
    → take len line ≡ line_kept (take len line) (drop at chunk)
unfolding so_far
nothing_more chunk at len line h k =
    let short : length (take len line) ≤ suc max_line = omega (arith, length-take len line, h) in
    rw (drop_of_length-le chunk k) (sym (take_all (suc max_line) (take len line) short))
