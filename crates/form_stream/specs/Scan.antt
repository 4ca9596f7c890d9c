-- What a call does with a chunk of the input, byte by byte: where it stops, and all that it leaves in both memories.
use Rattle.std.specs.Prelude.{Bool, cond, List, [], ◌∷◌, ℕ, suc, ◌+◌, min, eqb, ltb, length, take, drop, set}
use Rattle.std.proofs.lemmas.List.Edits.{sets}
use Rattle.constants.specs.Limits.{max_line}
use Rattle.form.specs.Form.{newline}
use Rattle.form_stream.specs.Stream.{reply}
use Rattle.form_stream.specs.declared.Fed.{Fed}

-- so many bytes of the chunk are taken in, so many bytes of the line so far stand in `line`, and so many to be printed in `out`
pub record Scan : Type 0 where
  pub next : ℕ
  pub len : ℕ
  pub filled : ℕ
  pub line : List ℕ
  pub out : List ℕ

abbrev pub scan_at : ℕ → ℕ → ℕ → List ℕ → List ℕ → Scan
scan_at next len filled line out = record { next = next; len = len; filled = filled; line = line; out = out }

abbrev pub line_of : Scan → List ℕ
line_of s = take s.len s.line

abbrev pub printed_by : Scan → List ℕ
printed_by s = take s.filled s.out

-- a byte goes to the line, of which one byte more is kept than a line may have
abbrev pub byte_in : ℕ → Scan → Scan
byte_in b s = scan_at (suc s.next) (min (suc s.len) (suc max_line)) s.filled (set s.line s.len b) s.out

-- where a line ends its answer goes behind those before it, and a new line starts
abbrev pub line_in : Scan → Scan
line_in s = scan_at (suc s.next) 0 (s.filled + length (reply (line_of s))) s.line (sets s.out s.filled (reply (line_of s)))

-- unless there is no room for it: the call stops before the newline
abbrev pub is_full : Scan → Bool
is_full s = ltb (length s.out) (s.filled + length (reply (line_of s)))

unfoldable pub scan : List ℕ → Scan → Scan
scan [] s = s
scan (b ∷ rest) s = cond (eqb b newline) (cond (is_full s) s (scan rest (line_in s))) (scan rest (byte_in b s))

-- a call on a chunk of which `at` bytes are taken in; a length that is more than what is kept is all of it
abbrev pub feed_of : List ℕ → ℕ → ℕ → List ℕ → List ℕ → Scan
feed_of chunk at len line out = scan (drop at chunk) (scan_at at (min len (suc max_line)) 0 line out)

-- what a call answers and leaves
abbrev pub scan_of : Fed → List ℕ → List ℕ → Scan
scan_of r line out = scan_at r.feeding.at r.feeding.len r.filled line out
