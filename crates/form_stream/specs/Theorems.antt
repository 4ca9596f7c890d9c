-- What is said of the input is the answers of its lines, from document 01's "Form line".
use Rattle.std.specs.Prelude.{◌≡◌, refl, true, not, List, [], ◌∷◌, ◌++◌, ℕ, zero, suc, ◌+◌, ◌≤◌, ◌<◌, eqb, length, take, drop, Ok}
use Rattle.std.proofs.Common.{sym, ap, ap₂, subst, ◌∙◌, append_assoc, append-nil, arith, length-take, drop_of_length-le, take_at, take_all}
use Rattle.std.proofs.Math.Decide.{dec_le}
use Rattle.bits.specs.Tests.{all_of, and_parts, not_true}
use Rattle.constants.specs.Limits.{max_line}
use Rattle.errors.specs.Answer.{written}
use Rattle.errors.specs.Cases.{left}
use Rattle.errors.specs.Memory.{written_done}
use Rattle.form.specs.Form.{newline}
use Rattle.form_line.specs.Longest.{longest}
use Rattle.form_line.specs.Stores.{written_counted}
use Rattle.form_stream.specs.Long.{said_cut}
use Rattle.form_stream.specs.Scan.{line_of, printed_by, feed_of}
use Rattle.form_stream.specs.Scanned.{feeds, said_on, reply_short}
use Rattle.form_stream.specs.Stream.{reply, last_replied, said, ended, so_far}

-- the bytes of a line have no newline among them
abbrev pub IsLine : List ℕ → Type 0
IsLine line = all_of (λ b. not (eqb b newline)) line ≡ true

line_goes_on : (front line rest : List ℕ) → IsLine line → said front (line ++ rest) ≡ said (front ++ line) rest
unfolding said all_of
line_goes_on front [] rest h = rw append-nil
line_goes_on front (b ∷ line) rest h =
    let k = and_parts (not (eqb b newline)) (all_of (λ b. not (eqb b newline)) line) h in
    rw (not_true (eqb b newline) k.0, line_goes_on (front ++ (b ∷ [])) line rest k.1, append_assoc front (b ∷ []) line)

-- "empty input prints nothing"
pub empty_input : said [] [] ≡ []
unfolding said
empty_input = refl

-- "one form a line": each line's answer on a line of its own, in the order of the lines
pub a_line : (line rest : List ℕ) → IsLine line → said [] (line ++ newline ∷ rest) ≡ reply line ++ said [] rest
unfolding said
a_line line rest h = line_goes_on [] line (newline ∷ rest) h

-- "A last line may lack its newline"
pub a_last_line : (line : List ℕ) → IsLine line → 0 < length line → said [] line ≡ said [] (line ++ newline ∷ [])
unfolding said
a_last_line line h k =
    ap (λ (l : List ℕ). said [] l) (sym (append-nil line))
    ∙ (line_goes_on [] line [] h ∙ (last_replied line k ∙ sym (a_line line [] h ∙ append-nil (reply line))))

-- Calls of `feed` and a last one of `finish`: the line so far, the input that is still to come, and all that the calls hand out to be
-- printed. Where the input is cut into chunks, and whether what a call leaves of its chunk comes again by itself or in another one, is
-- free. So is the memory for the answers at each call, and that of the line behind its first bytes.
pub data Prints : List ℕ → List ℕ → List ℕ → Type 0 where
  finished : (len n : ℕ) (line before out : List ℕ) → left (Ok n) out ≡ written 0 (said (take len line) []) before
      → Prints (take len line) [] (take n out)
  fed : (chunk : List ℕ) (at len : ℕ) (line out rest printed : List ℕ) → length line ≡ suc max_line
      → Prints (line_of (feed_of chunk at len line out)) (drop (feed_of chunk at len line out).next chunk ++ rest) printed
      → Prints (take len line) (drop at chunk ++ rest) (printed_by (feed_of chunk at len line out) ++ printed)

finish_prints : (len n : ℕ) (line before out : List ℕ) → left (Ok n) out ≡ written 0 (said (take len line) []) before
    → take n out ≡ said (take len line) []
finish_prints len n line before out f =
    let last = said (take len line) [] in
    let w = written_counted last before out refl f in
    rw w.1 (take_at last (drop (length last) before) n (sym w.0))

-- what is printed is what is said of the input: "A short read never splits a line"
pub chunks_do_not_matter : {line input printed : List ℕ} → Prints line input printed → printed ≡ said line input
chunks_do_not_matter (finished len n line before out f) = finish_prints len n line before out f
chunks_do_not_matter (fed chunk at len line out rest printed h p) =
    ap (λ (l : List ℕ). printed_by (feed_of chunk at len line out) ++ l) (chunks_do_not_matter p)
    ∙ sym ((feeds chunk at len line out h).same rest)

-- As a program makes them: over each chunk the calls go on, turn by turn, until it is used up.

-- the calls over one chunk, of which some bytes are taken in already: the line so far, what is printed, and the line so far behind the
-- chunk
pub data Turns (chunk : List ℕ) : ℕ → List ℕ → List ℕ → List ℕ → Type 0 where
  used_up : (at len : ℕ) (line : List ℕ) → length line ≡ suc max_line → length chunk ≤ at → Turns chunk at (take len line) [] (take len line)
  turn : (at len : ℕ) (line out printed last : List ℕ) → length line ≡ suc max_line
      → Turns chunk (feed_of chunk at len line out).next (line_of (feed_of chunk at len line out)) printed last
      → Turns chunk at (take len line) (printed_by (feed_of chunk at len line out) ++ printed) last

-- the calls over all chunks, and the last one
pub data ChunkCalls : List ℕ → List (List ℕ) → List ℕ → Type 0 where
  no_more : (len n : ℕ) (line before out : List ℕ) → left (Ok n) out ≡ written 0 (said (take len line) []) before
      → ChunkCalls (take len line) [] (take n out)
  one_chunk : {chunk line last printed more : List ℕ} {chunks : List (List ℕ)} → Turns chunk 0 line printed last
      → ChunkCalls last chunks more
      → ChunkCalls line (chunk ∷ chunks) (printed ++ more)

abbrev pub input_of : List (List ℕ) → List ℕ
input_of [] = []
input_of (chunk ∷ chunks) = chunk ++ input_of chunks

-- "one form a line": over a chunk, just the answers of the lines that end in it are printed; and the line so far is kept, up to one
-- byte more than a line may have
pub the_lines_that_end_are_answered : {chunk : List ℕ} {at : ℕ} {line printed last : List ℕ} → Turns chunk at line printed last
    → (printed ≡ ended line (drop at chunk)) × (last ≡ take (suc max_line) (so_far line (drop at chunk)))
unfolding ended so_far
the_lines_that_end_are_answered {chunk} (used_up at len line h k) =
    let short : length (take len line) ≤ suc max_line = omega (arith, length-take len line, h) in
    rw (drop_of_length-le chunk k) (refl, sym (take_all (suc max_line) (take len line) short))
the_lines_that_end_are_answered {chunk} (turn at len line out printed last h t) =
    let f = feeds chunk at len line out h in
    let k = the_lines_that_end_are_answered t in
    (ap (λ (l : List ℕ). printed_by (feed_of chunk at len line out) ++ l) k.0 ∙ sym f.answers, k.1 ∙ sym f.so_far_lem)

-- all that is printed is what is said of the input, wherever it is cut and however many turns a chunk takes
pub a_run_prints_what_is_said : {line printed : List ℕ} {chunks : List (List ℕ)} → ChunkCalls line chunks printed
    → printed ≡ said line (input_of chunks)
a_run_prints_what_is_said (no_more len n line before out f) = finish_prints len n line before out f
a_run_prints_what_is_said (one_chunk {chunk} {line} {last} {printed} {more} {chunks} t p) =
    let k = the_lines_that_end_are_answered t in
    ap₂ (λ (a b : List ℕ). a ++ b) k.0
    (a_run_prints_what_is_said p ∙ (ap (λ (l : List ℕ). said l (input_of chunks)) k.1 ∙ said_cut (so_far line chunk) (input_of chunks)))
    ∙ sym (said_on line chunk (input_of chunks))

-- Memory for the longest answer is enough: each turn takes in a byte at least, so that every chunk is used up.
record Used (chunk : List ℕ) (at : ℕ) (line : List ℕ) : Type 0 where
  printed : List ℕ
  len : ℕ
  memory : List ℕ
  long : length memory ≡ suc max_line
  turns : Turns chunk at line printed (take len memory)

no_more_turns : (chunk : List ℕ) (at len : ℕ) (line : List ℕ) → length line ≡ suc max_line → length chunk ≤ at
    → Used chunk at (take len line)
no_more_turns chunk at len line h k = record { printed = []; len = len; memory = line; long = h; turns = used_up at len line h k }

one_more_turn : (chunk : List ℕ) (at len : ℕ) (line out : List ℕ) → length line ≡ suc max_line
    → (at < length chunk → Used chunk (feed_of chunk at len line out).next (line_of (feed_of chunk at len line out)))
    → Used chunk at (take len line)
one_more_turn chunk at len line out h more = pick (dec_le (length chunk) at)
  where
    pick : Dec (length chunk ≤ at) → Used chunk at (take len line)
    pick (yes k) = no_more_turns chunk at len line h k
    pick (no k) =
        let u = more (omega (arith, k)) in
        record {
          printed = printed_by (feed_of chunk at len line out) ++ u.printed;
          len = u.len;
          memory = u.memory;
          long = u.long;
          turns = turn at len line out u.printed (take u.len u.memory) h u.turns;
        }

some_turns : (n : ℕ) (chunk : List ℕ) (at len : ℕ) (line out : List ℕ) → length line ≡ suc max_line → longest < length out
    → length chunk ≤ at + n → Used chunk at (take len line)
some_turns zero chunk at len line out h k l = no_more_turns chunk at len line h (omega (arith, l))
some_turns (suc n) chunk at len line out h k l =
    let r = feed_of chunk at len line out in
    let f = feeds chunk at len line out h in
    one_more_turn chunk at len line out h
    (λ m. some_turns n chunk r.next r.len r.line r.out f.ready.long (omega (arith, k, f.long))
    (omega (arith, l, f.onward k m)))

pub a_chunk_is_used_up : (chunk : List ℕ) (len : ℕ) (line out : List ℕ) → length line ≡ suc max_line → longest < length out
    → Turns chunk 0 (take len line) (ended (take len line) chunk) (take (suc max_line) (so_far (take len line) chunk))
a_chunk_is_used_up chunk len line out h k =
    let u = some_turns (length chunk) chunk 0 len line out h k (omega arith) in
    let e = the_lines_that_end_are_answered u.turns in
    subst (λ (l : List ℕ). Turns chunk 0 (take len line) l (take (suc max_line) (so_far (take len line) chunk))) e.0
    (subst (λ (l : List ℕ). Turns chunk 0 (take len line) u.printed l) e.1 u.turns)

record SomeRun (line : List ℕ) (chunks : List (List ℕ)) : Type 0 where
  printed : List ℕ
  runs : ChunkCalls line chunks printed

last_short : (line : List ℕ) → length (said line []) ≤ longest + 1
unfolding said
last_short [] = omega arith
last_short (b ∷ line) = reply_short (b ∷ line)

some_run : (chunks : List (List ℕ)) (len : ℕ) (line out : List ℕ) → length line ≡ suc max_line → longest < length out
    → SomeRun (take len line) chunks
some_run [] len line out h k =
    let last = said (take len line) [] in
    record {
      printed = take (length last) (last ++ drop (length last) out);
      runs = no_more len (length last) line out (last ++ drop (length last) out)
          (written_done last out (last ++ drop (length last) out) refl (omega (arith, k, last_short (take len line))) refl refl);
    }
some_run (chunk ∷ chunks) len line out h k =
    let u = some_turns (length chunk) chunk 0 len line out h k (omega arith) in
    let r = some_run chunks u.len u.memory out u.long k in
    record { printed = u.printed ++ r.printed; runs = one_chunk u.turns r.runs }

pub every_input_is_printed : (chunks : List (List ℕ)) (len : ℕ) (line out : List ℕ) → length line ≡ suc max_line → longest < length out
    → ChunkCalls (take len line) chunks (said (take len line) (input_of chunks))
every_input_is_printed chunks len line out h k =
    let r = some_run chunks len line out h k in
    subst (λ (l : List ℕ). ChunkCalls (take len line) chunks l) (a_run_prints_what_is_said r.runs) r.runs
