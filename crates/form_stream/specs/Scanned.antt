-- What the scan keeps: nothing of the input is lost, doubled or split, wherever it stops.
use Rattle.std.specs.Prelude.{◌≡◌, refl, Bool, true, false, cond, eqb, length, take, drop, set}
use Rattle.std.proofs.Common.{sym, ap, ap₂, subst, ◌∙◌, arith, length-append, length-drop, length-set, drop-drop, drop-set-lt, take-suc-set, length-take-le, take_at, take_all, ltb-true, ltb-false}
use mathlib.Core.List.{List, [], ◌∷◌, ◌++◌, append_assoc}
use Prim.Native.Nat.{ℕ, zero, suc, ◌+◌, ◌≤◌, ◌<◌, min}
use Rattle.std.proofs.Math.Decide.{dec_le}
use Rattle.std.proofs.lemmas.List.Edits.{sets, sets-eq}
use Rattle.std.proofs.Math.Seq.{length-sets, set_out, take-length}
use Rattle.std.proofs.lemmas.List.{take-append-le}
use Rattle.constants.specs.Limits.{max_line}
use Rattle.form.specs.Form.{newline}
use Rattle.form_area.specs.Area.{line_area}
use Rattle.form_line.specs.Line.{printed}
use Rattle.form_line.specs.Longest.{longest, answer_short}
use Rattle.form_stream.specs.Long.{long_ended, long_so_far, said_cut}
use Rattle.form_stream.specs.Scan.{Scan, scan_at, line_of, printed_by, byte_in, line_in, is_full, scan, feed_of}
use Rattle.form_stream.specs.Stream.{reply, said, ended, so_far}

-- the lengths say what they count, and the line's memory has one place more than a line may have
pub record Ready (s : Scan) : Type 0 where
  pub long : length s.line ≡ suc max_line
  pub kept : s.len ≤ length s.line
  pub room : s.filled ≤ length s.out

abbrev Fits : Scan → Type 0
Fits s = s.filled + length (reply (line_of s)) ≤ length s.out

byte_ready : (b : ℕ) (s : Scan) → Ready s → Ready (byte_in b s)
byte_ready b s h = record {
  long = length-set s.line s.len b ∙ h.long;
  kept = omega (arith, h.long, length-set s.line s.len b);
  room = h.room;
}

line_ready : (s : Scan) → Ready s → Fits s → Ready (line_in s)
line_ready s h k = record
    { long = h.long; kept = omega arith; room = omega (arith, k, length-sets s.out s.filled (reply (line_of s))) }

-- one byte of the line more: as many bytes are kept as matter
record ByteKept (b : ℕ) (s : Scan) : Type 0 where
  answers : (rest : List ℕ) → ended (line_of s ++ (b ∷ [])) rest ≡ ended (line_of (byte_in b s)) rest
  line : (rest : List ℕ) → take (suc max_line) (so_far (line_of s ++ (b ∷ [])) rest) ≡ take (suc max_line) (so_far (line_of (byte_in b s)) rest)

byte_kept : (b : ℕ) (s : Scan) → Ready s → ByteKept b s
byte_kept b s h = pick (dec_le (suc s.len) (length s.line))
  where
    pick : Dec (suc s.len ≤ length s.line) → ByteKept b s
    pick (yes k) =
        let m : min (suc s.len) (suc max_line) ≡ suc s.len = omega (arith, k, h.long) in
        let e : line_of s ++ (b ∷ []) ≡ line_of (byte_in b s) = sym (rw m (take-suc-set s.line s.len b k)) in
        record {
          answers = λ rest. ap (λ (l : List ℕ). ended l rest) e;
          line = λ rest. ap (λ (l : List ℕ). take (suc max_line) (so_far l rest)) e;
        }
    pick (no k) =
        let m : min (suc s.len) (suc max_line) ≡ s.len = omega (arith, k, h.kept, h.long) in
        let e : line_of s ≡ line_of (byte_in b s) = sym (rw (m, set_out s.line s.len b (omega (arith, k)))) in
        let l : length (line_of s) ≡ s.len = length-take-le s.len s.line h.kept in
        let n : suc max_line ≤ length (line_of s) = omega (arith, l, k, h.long) in
        let n' : suc max_line ≤ length (line_of s ++ (b ∷ [])) = omega (arith, n, length-append (line_of s) (b ∷ [])) in
        record {
          answers = λ rest. long_ended (line_of s ++ (b ∷ [])) (line_of s) rest (omega (arith, n')) (omega (arith, n))
              ∙ ap (λ (l : List ℕ). ended l rest) e;
          line = λ rest.
              long_so_far (suc max_line) (line_of s ++ (b ∷ [])) (line_of s) rest n' n (take-append-le (suc max_line) (line_of s) (b ∷ []) n)
              ∙ ap (λ (l : List ℕ). take (suc max_line) (so_far l rest)) e;
        }

drop_sets : (text memory : List ℕ) (at n : ℕ) → at + length text ≤ n → drop n (sets memory at text) ≡ drop n memory
drop_sets [] memory at n h = refl
drop_sets (b ∷ text) memory at n h =
    drop_sets text (set memory at b) (suc at) n (omega (arith, h)) ∙ drop-set-lt n memory at b (omega (arith, h))

line_printed : (s : Scan) → Ready s → Fits s → printed_by (line_in s) ≡ printed_by s ++ reply (line_of s)
line_printed s h k =
    let text = reply (line_of s) in
    let behind = drop (s.filled + length text) s.out in
    rw (sets-eq text s.out s.filled k)
    (take_at (printed_by s ++ text) behind (s.filled + length text)
    (omega (arith, length-append (printed_by s) text, length-take-le s.filled s.out h.room)))

-- how a scan ends that starts at s
pub record Scanned (bytes : List ℕ) (s r : Scan) : Type 0 where
  pub taken : ℕ
  pub within : taken ≤ length bytes
  pub next : r.next ≡ s.next + taken
  -- what was to be printed with the answers of the lines that end in the bytes is what is to be printed with those of the bytes that
  -- are left
  pub answers : printed_by s ++ ended (line_of s) bytes ≡ printed_by r ++ ended (line_of r) (drop taken bytes)
  pub line : take (suc max_line) (so_far (line_of s) bytes) ≡ take (suc max_line) (so_far (line_of r) (drop taken bytes))
  pub more : s.filled ≤ r.filled
  pub behind : drop r.filled r.out ≡ drop r.filled s.out
  pub long : length r.out ≡ length s.out
  pub ready : Ready r
  -- it stops before the end only for want of room
  pub first : taken ≡ 0 → r.filled ≡ s.filled
  pub full : taken < length bytes → length r.out < r.filled + length (reply (line_of r))

none_scanned : (bytes : List ℕ) (s : Scan) → Ready s → (0 < length bytes → length s.out < s.filled + length (reply (line_of s)))
    → Scanned bytes s s
none_scanned bytes s h k = record {
  taken = 0;
  within = omega arith;
  next = omega arith;
  answers = refl;
  line = refl;
  more = omega arith;
  behind = refl;
  long = refl;
  ready = h;
  first = λ e. refl;
  full = k;
}

module _ (b : ℕ) (rest : List ℕ) (s r : Scan) (h : Ready s) where
  byte_scanned : eqb b newline ≡ false → Scanned rest (byte_in b s) r → Scanned (b ∷ rest) s r
  unfolding ended so_far
  byte_scanned e f = record {
    taken = suc f.taken;
    within = omega (arith, f.within);
    next = omega (arith, f.next);
    answers = rw e (ap (λ (l : List ℕ). printed_by s ++ l) ((byte_kept b s h).answers rest) ∙ f.answers);
    line = rw e ((byte_kept b s h).line rest ∙ f.line);
    more = f.more;
    behind = f.behind;
    long = f.long;
    ready = f.ready;
    first = λ z. absurd (omega (arith, z));
    full = λ k. f.full (omega (arith, k));
  }

  line_scanned : eqb b newline ≡ true → Fits s → Scanned rest (line_in s) r → Scanned (b ∷ rest) s r
  unfolding ended so_far
  line_scanned e k f = record {
    taken = suc f.taken;
    within = omega (arith, f.within);
    next = omega (arith, f.next);
    answers =
        rw e (sym (append_assoc (printed_by s) (reply (line_of s)) (ended [] rest))
        ∙ (ap (λ (l : List ℕ). l ++ ended [] rest) (sym (line_printed s h k)) ∙ f.answers));
    line = rw e f.line;
    more = omega (arith, f.more);
    behind = f.behind ∙ drop_sets (reply (line_of s)) s.out s.filled r.filled f.more;
    long = f.long ∙ length-sets s.out s.filled (reply (line_of s));
    ready = f.ready;
    first = λ z. absurd (omega (arith, z));
    full = λ l. f.full (omega (arith, l));
  }

one_scanned : (b : ℕ) (rest : List ℕ) (s : Scan) → Ready s → Scanned rest (byte_in b s) (scan rest (byte_in b s))
    → (Fits s → Scanned rest (line_in s) (scan rest (line_in s)))
    → Scanned (b ∷ rest) s (cond (eqb b newline) (cond (is_full s) s (scan rest (line_in s))) (scan rest (byte_in b s)))
one_scanned b rest s h byte line = pick (eqb b newline) (is_full s) refl refl
  where
    pick : (n f : Bool) → eqb b newline ≡ n → is_full s ≡ f
        → Scanned (b ∷ rest) s (cond n (cond f s (scan rest (line_in s))) (scan rest (byte_in b s)))
    pick true true p q = none_scanned (b ∷ rest) s h (λ _. ltb-true _ _ q)
    pick true false p q = let k = ltb-false _ _ q in line_scanned b rest s (scan rest (line_in s)) h p k (line k)
    pick false f p q = byte_scanned b rest s (scan rest (byte_in b s)) h p byte

pub scanned : (bytes : List ℕ) (s : Scan) → Ready s → Scanned bytes s (scan bytes s)
unfolding scan
scanned [] s h = none_scanned [] s h (λ k. absurd (omega (arith, k)))
scanned (b ∷ rest) s h =
    one_scanned b rest s h (scanned rest (byte_in b s) (byte_ready b s h)) (λ k. scanned rest (line_in s) (line_ready s h k))

-- what is said of the input: the answers of the lines that end in its front, then what is said of the rest behind the line so far
pub said_on : (line front rest : List ℕ) → said line (front ++ rest) ≡ ended line front ++ said (so_far line front) rest
unfolding said ended so_far
said_on line [] rest = refl
said_on line (b ∷ front) rest = go (eqb b newline) (said_on [] front rest) (said_on (line ++ (b ∷ [])) front rest)
  where
    go : (n : Bool) → said [] (front ++ rest) ≡ ended [] front ++ said (so_far [] front) rest
        → said (line ++ (b ∷ [])) (front ++ rest) ≡ ended (line ++ (b ∷ [])) front ++ said (so_far (line ++ (b ∷ [])) front) rest
        → cond n (reply line ++ said [] (front ++ rest)) (said (line ++ (b ∷ [])) (front ++ rest))
        ≡ cond n (reply line ++ ended [] front) (ended (line ++ (b ∷ [])) front)
        ++ said (cond n (so_far [] front) (so_far (line ++ (b ∷ [])) front)) rest
    go true p q = ap (λ (l : List ℕ). reply line ++ l) p ∙ sym (append_assoc (reply line) (ended [] front) (said (so_far [] front) rest))
    go false p q = q

pub reply_short : (line : List ℕ) → length (reply line) ≤ longest + 1
unfolding reply
reply_short line = omega (arith, length-append (printed (line_area line)) (newline ∷ []), answer_short line)

-- more bytes than the line has are all of it
pub take_min : (n : ℕ) (l : List ℕ) → take (min n (length l)) l ≡ take n l
take_min n l = pick (dec_le n (length l))
  where
    pick : Dec (n ≤ length l) → take (min n (length l)) l ≡ take n l
    pick (yes h) = let e : min n (length l) ≡ n = omega arith in rw e
    pick (no h) = let e : min n (length l) ≡ length l = omega arith in rw (e, take-length l) (sym (take_all n l (omega arith)))

take_kept : (n : ℕ) (line : List ℕ) → length line ≡ suc max_line → take (min n (suc max_line)) line ≡ take n line
take_kept n line h = subst (λ (most : ℕ). take (min n most) line ≡ take n line) h (take_min n line)

-- a whole call
pub record Feeds (chunk : List ℕ) (at len : ℕ) (line before : List ℕ) (r : Scan) : Type 0 where
  -- nothing is lost, doubled or split, whatever comes after the chunk
  pub same : (rest : List ℕ) → said (take len line) (drop at chunk ++ rest) ≡ printed_by r ++ said (line_of r) (drop r.next chunk ++ rest)
  -- of the lines that end in the chunk, and of the line so far, likewise
  pub answers : ended (take len line) (drop at chunk) ≡ printed_by r ++ ended (line_of r) (drop r.next chunk)
  pub so_far_lem : take (suc max_line) (so_far (take len line) (drop at chunk)) ≡ take (suc max_line) (so_far (line_of r) (drop r.next chunk))
  -- behind what is to be printed the memory is as it was
  pub behind : drop r.filled r.out ≡ drop r.filled before
  pub place : at ≤ length chunk → r.next ≤ length chunk
  pub long : length r.out ≡ length before
  pub ready : Ready r
  -- memory for the longest answer is enough to go on
  pub onward : longest < length before → at < length chunk → at < r.next

pub feeds : (chunk : List ℕ) (at len : ℕ) (line before : List ℕ) → length line ≡ suc max_line
    → Feeds chunk at len line before (feed_of chunk at len line before)
feeds chunk at len line before h = from (feed_of chunk at len line before) (scanned (drop at chunk) start ready)
  where
    start : Scan
    start = scan_at at (min len (suc max_line)) 0 line before

    ready : Ready start
    ready = record { long = h; kept = omega (arith, h); room = omega arith }

    from : (r : Scan) → Scanned (drop at chunk) start r → Feeds chunk at len line before r
    from r f =
        let left : drop f.taken (drop at chunk) ≡ drop r.next chunk =
        drop-drop f.taken at chunk ∙ ap (λ (n : ℕ). drop n chunk) (sym f.next) in
        let answers : ended (take len line) (drop at chunk) ≡ printed_by r ++ ended (line_of r) (drop r.next chunk) =
        ap (λ (l : List ℕ). ended l (drop at chunk)) (sym (take_kept len line h))
        ∙ (f.answers ∙ ap (λ (l : List ℕ). printed_by r ++ ended (line_of r) l) left) in
        let so_far_lem : take (suc max_line) (so_far (take len line) (drop at chunk))
        ≡ take (suc max_line) (so_far (line_of r) (drop r.next chunk)) =
        ap (λ (l : List ℕ). take (suc max_line) (so_far l (drop at chunk))) (sym (take_kept len line h))
        ∙ (f.line ∙ ap (λ (l : List ℕ). take (suc max_line) (so_far (line_of r) l)) left) in
        record {
          same = λ rest.
              said_on (take len line) (drop at chunk) rest
              ∙ (ap₂ (λ (a b : List ℕ). a ++ b) answers (sym (said_cut (so_far (take len line) (drop at chunk)) rest)
              ∙ (ap (λ (l : List ℕ). said l rest) so_far_lem ∙ said_cut (so_far (line_of r) (drop r.next chunk)) rest))
              ∙ (append_assoc (printed_by r) (ended (line_of r) (drop r.next chunk)) (said (so_far (line_of r) (drop r.next chunk)) rest)
              ∙ ap (λ (l : List ℕ). printed_by r ++ l) (sym (said_on (line_of r) (drop r.next chunk) rest))));
          answers = answers;
          so_far_lem = so_far_lem;
          behind = f.behind;
          place = λ k. omega (arith, k, f.next, f.within, length-drop at chunk);
          long = f.long;
          ready = f.ready;
          onward = λ k l. go f.taken f.next f.first f.full f.long k l;
        }
      where
        go : (n : ℕ) → r.next ≡ at + n → (n ≡ 0 → r.filled ≡ 0)
            → (n < length (drop at chunk) → length r.out < r.filled + length (reply (line_of r)))
            → length r.out ≡ length before → longest < length before → at < length chunk → at < r.next
        go zero e first full l k m =
            absurd (omega (arith, first refl, full (omega (arith, m, length-drop at chunk)), reply_short (line_of r), l, k))
        go (suc n) e first full l k m = omega (arith, e)
