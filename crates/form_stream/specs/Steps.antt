-- The code goes step by step as the scan does: a byte, a line's answer, an answer that has no room.
use Rattle.std.specs.Prelude.{◌≡◌, get_or, Result, Ok, Err}
use Rattle.std.proofs.Math.Path.{refl, sym, ap}
use Rattle.std.proofs.Common.{◌∙◌, add-one, arith, length-drop, length-set, take-append-drop, drop_of_length-le}
use mathlib.Core.List.{List, [], ◌∷◌, ◌++◌, append_assoc, append-nil}
use Prim.Native.Nat.{ℕ, suc, ◌+◌, ◌-◌, ◌≤◌, ◌<◌, min}
use Rattle.std.proofs.Math.ListN.{length, take, drop, set, length-append}
use Rattle.std.proofs.lemmas.List.Edits.{sets}
use Rattle.std.proofs.Math.Seq.{drop-cons, length-take-le}
use Rattle.std.proofs.lemmas.List.{drop-append-le, set_at}
use borrow.Author.Tests.{ne_eqb, lt-ltb, le-ltb}
use Rattle.constants.specs.Limits.{max_line}
use Rattle.errors.specs.Answer.{written}
use Rattle.errors.specs.Cases.{left}
use Rattle.errors.specs.Memory.{written_short, written_done}
use Rattle.errors.specs.declared.Refusal.{Refusal}
use Rattle.errors.specs.declared.Refusal.TheVariants.{Memory}
use Rattle.form.specs.Ends.{rest_part}
use Rattle.form.specs.Form.{newline}
use Rattle.form_area.specs.Area.{line_area}
use Rattle.form_line.specs.Line.{printed, line_written}
use Rattle.form_line.specs.Stores.{part_from, with_part, part_stored, written_counted, written_within, written_not, refused_kept}
use Rattle.form_stream.specs.Scan.{Scan, scan_at, scan}
use Rattle.form_stream.specs.Scanned.{take_min}
use Rattle.form_stream.specs.Stream.{reply, last_reply, last_replied, said}
use Rattle.form_stream.specs.declared.Feeding.{Feeding}

-- the bytes of a chunk from a place on, up to the end of a line or of the chunk: the scan goes on from there as it would have gone
pub record Takes (chunk : List ℕ) (from : ℕ) (line : List ℕ) (len : ℕ) (after : List ℕ) (r : Feeding) : Type 0 where
  pub same : (filled : ℕ) (out : List ℕ)
      → scan (drop from chunk) (scan_at from len filled line out) ≡ scan (drop r.at chunk) (scan_at r.at r.len filled after out)
  pub onward : from ≤ r.at
  pub within : r.len ≤ length after

pub record LineEnds (chunk : List ℕ) (at : ℕ) : Type 0 where
  pub within : at ≤ length chunk
  pub stops : at < length chunk → get_or chunk at 0 ≡ newline

pub none_taken : (chunk : List ℕ) (from : ℕ) (line : List ℕ) (len : ℕ) → len ≤ length line
    → Takes chunk from line len line (record { at = from; len = len })
none_taken chunk from line len h = record { same = λ filled out. refl; onward = omega arith; within = h }

byte_goes_in : (chunk line : List ℕ) (i n filled : ℕ) (out : List ℕ) → i < length chunk → (get_or chunk i 0 ≡ newline → ⊥)
    → scan (drop i chunk) (scan_at i n filled line out)
    ≡ scan (drop (i + 1) chunk) (scan_at (i + 1) (min (suc n) (suc max_line)) filled (set line n (get_or chunk i 0)) out)
unfolding scan
byte_goes_in chunk line i n filled out h d = rw (add-one i, drop-cons chunk i 0 h, ne_eqb _ _ d)

pub byte_taken : (chunk : List ℕ) (from : ℕ) (line : List ℕ) (len i n m : ℕ) (between after : List ℕ)
    → Takes chunk from line len between (record { at = i; len = n })
    → length between ≡ suc max_line → i < length chunk → (get_or chunk i 0 ≡ newline → ⊥)
    → (m ≡ min (suc n) (suc max_line)) × (after ≡ set between n (get_or chunk i 0))
    → Takes chunk from line len after (record { at = i + 1; len = m })
byte_taken chunk from line len i n m between after t l h d k = record {
  same = λ filled out. t.same filled out ∙ rw (k.0, k.1) (byte_goes_in chunk between i n filled out h d);
  onward = omega (arith, t.onward);
  within = omega (arith, l, k.0, ap length k.1 ∙ length-set between n (get_or chunk i 0));
}

-- a newline: its answer is written, or the scan ends
module _ (chunk : List ℕ) (i : ℕ) (h : i < length chunk) (e : get_or chunk i 0 ≡ newline) (n filled : ℕ) (line out : List ℕ) where
  line_goes_in : filled + length (reply (take n line)) ≤ length out
      → scan (drop i chunk) (scan_at i n filled line out)
      ≡ scan (drop (i + 1) chunk) (scan_at (i + 1) 0 (filled + length (reply (take n line))) line (sets out filled (reply (take n line))))
  unfolding scan
  line_goes_in k = rw (add-one i, drop-cons chunk i 0 h, e, le-ltb (length out) (filled + length (reply (take n line))) k)

  line_stays_out : length out < filled + length (reply (take n line))
      → scan (drop i chunk) (scan_at i n filled line out) ≡ scan_at i n filled line out
  unfolding scan
  line_stays_out k = rw (drop-cons chunk i 0 h, e, lt-ltb (length out) (filled + length (reply (take n line))) k)

all_in : (chunk : List ℕ) (i : ℕ) (s : Scan) → length chunk ≤ i → scan (drop i chunk) s ≡ s
unfolding scan
all_in chunk i s h = rw (drop_of_length-le chunk h)

-- how far a call is: from here on the scan goes as it goes from the start
pub record Goes (chunk : List ℕ) (start : Scan) (i held filled : ℕ) (line out : List ℕ) : Type 0 where
  pub same : scan (drop start.next chunk) start ≡ scan (drop i chunk) (scan_at i held filled line out)
  pub kept : held ≤ length line
  pub room : filled ≤ length out

pub not_gone : (chunk : List ℕ) (at len : ℕ) (line out : List ℕ) → len ≤ length line
    → Goes chunk (scan_at at len 0 line out) at len 0 line out
not_gone chunk at len line out h = record { same = refl; kept = h; room = omega arith }

module _ (chunk : List ℕ) (start : Scan) (i held filled : ℕ) (between out : List ℕ) (f : Goes chunk start i held filled between out) where
  pub goes_on : (after : List ℕ) (r : Feeding) → Takes chunk i between held after r → Goes chunk start r.at r.len filled after out
  goes_on after r t = record { same = f.same ∙ t.same filled out; kept = t.within; room = f.room }

  pub goes_to_the_end : length chunk ≤ i → scan_at i held filled between out ≡ scan (drop start.next chunk) start
  goes_to_the_end h = sym (f.same ∙ all_in chunk i (scan_at i held filled between out) h)

  -- a part of the memory that was lent and came back
  part_all : (part : List ℕ) → with_part filled out part ≡ take filled out ++ part
  part_all part =
      let past : length (drop filled out) ≤ length out - filled = omega (arith, length-drop filled out) in
      rw (drop_of_length-le (drop filled out) past, append-nil)

  pub back_length : (part : List ℕ) → length part ≡ length out - filled → length (with_part filled out part) ≡ length out
  back_length part h =
      ap length (part_all part) ∙ omega (arith, length-append (take filled out) part, length-take-le filled out f.room, f.room, h)

  -- no answer was written to it
  pub goes_no_further : i < length chunk → get_or chunk i 0 ≡ newline → (part : List ℕ) (why : Refusal)
      → left (Err why) part ≡ written 0 (reply (take held between)) (part_from filled out)
      → scan_at i held filled between (with_part filled out part) ≡ scan (drop start.next chunk) start
  goes_no_further h e part why w =
      let text = reply (take held between) in
      let short = written_not text (part_from filled out) part refl why w in
      let fits : length (part_from filled out) ≡ length out - filled = ap length (rest_part out filled) ∙ length-drop filled out in
      let back : with_part filled out part ≡ out =
      part_all part ∙ (ap (λ (l : List ℕ). take filled out ++ l)
      (refused_kept text (part_from filled out) part refl why w ∙ rest_part out filled) ∙ take-append-drop filled out) in
      rw back (sym (f.same ∙ line_stays_out chunk i h e held filled between out (omega (arith, short, fits, f.room))))

  -- the answer of a line that has ended was
  pub goes_behind_the_line : (n : ℕ) (part : List ℕ) → length part ≡ length out - filled → i < length chunk → get_or chunk i 0 ≡ newline
      → left (Ok n) part ≡ written 0 (reply (take held between)) (part_from filled out)
      → Goes chunk start (i + 1) 0 (filled + n) between (with_part filled out part)
  goes_behind_the_line n part h l e r =
      let text = reply (take held between) in
      let w = written_counted text (part_from filled out) part refl r in
      let fits : filled + length text ≤ length out =
      omega (arith, w.0, written_within text (part_from filled out) part refl r, h, f.room) in
      let stored : with_part filled out part ≡ sets out filled text = (part_stored text out part fits w.1 refl).memory in
      record {
        same = f.same ∙ rw (w.0, stored) (line_goes_in chunk i l e held filled between out fits);
        kept = omega arith;
        room = omega (arith, back_length part h, w.0, fits);
      }

-- the end of the input: a last line that is not empty is answered
module _ (line before : List ℕ) where
  pub nothing_left : left (Ok 0) before ≡ written 0 (said (take 0 line) []) before
  unfolding said
  nothing_left = written_done [] before before refl (omega arith) refl refl

  pub last_line : (len m : ℕ) (r : Result ℕ Refusal) (after : List ℕ) → m ≡ min len (length line) → 0 < m
      → left r after ≡ written 0 (reply (take m line)) before
      → left r after ≡ written 0 (said (take len line) []) before
  unfolding said
  last_line len m r after e h p =
      let kept : take m line ≡ take len line = rw e (take_min len line) in
      let same = sym (last_replied (take m line) (omega (arith, length-take-le m line (omega (arith, e)), h))) ∙ ap last_reply kept in
      p ∙ ap (λ (items : List ℕ). written 0 items before) same

-- the newline behind the answer, which was lent one place less than the memory has
reply_long : (line : List ℕ) → length (reply line) ≡ length (printed (line_area line)) + 1
unfolding reply
reply_long line = length-append (printed (line_area line)) (newline ∷ [])

module _ (line memory : List ℕ) where
  pub no_room : length memory ≡ 0 → left (Err Memory) memory ≡ written 0 (reply line) memory
  no_room h = written_short (reply line) memory refl (omega (arith, h, reply_long line))

  module _ (part : List ℕ) (k : ℕ) (h : length memory ≡ suc k) where
    pub newline_behind : (n : ℕ) → left (Ok n) part ≡ line_written line (take k memory) → length part ≡ length (take k memory)
        → left (Ok (n + 1)) (set (part ++ drop k memory) n newline) ≡ written 0 (reply line) memory
    unfolding reply
    newline_behind n e l =
        let P = printed (line_area line) in
        let w = written_counted P (take k memory) part refl e in
        let t = length-take-le k memory (omega arith) in
        let few : length P ≤ k = omega (arith, l, t, ap length w.1 ∙ length-append P (drop (length P) (take k memory))) in
        let joined : part ++ drop k memory ≡ P ++ drop n memory =
        ap (λ (x : List ℕ). x ++ drop k memory) w.1
        ∙ (append_assoc P (drop (length P) (take k memory)) (drop k memory)
        ∙ ap (λ (x : List ℕ). P ++ x) (sym (drop-append-le (length P) (take k memory) (drop k memory) (omega (arith, few, t)))
        ∙ (ap (λ (x : List ℕ). drop (length P) x) (take-append-drop k memory) ∙ ap (λ (m : ℕ). drop m memory) (sym w.0)))) in
        let after : set (part ++ drop k memory) n newline ≡ P ++ newline ∷ drop (suc n) memory =
        rw (joined, drop-cons memory n 0 (omega (arith, w.0, few)))
        (set_at P (get_or memory n 0) (drop (suc n) memory) newline n (sym w.0)) in
        let long : length (P ++ (newline ∷ [])) ≡ suc n = omega (arith, w.0, length-append P (newline ∷ [])) in
        written_done (P ++ (newline ∷ [])) memory (set (part ++ drop k memory) n newline) refl (omega (arith, long, few, w.0))
        (omega (arith, long))
        (after ∙ rw long (sym (append_assoc P (newline ∷ []) (drop (suc n) memory))))

    pub no_answer : (why : Refusal) → left (Err why) part ≡ line_written line (take k memory)
        → left (Err Memory) (part ++ drop k memory) ≡ written 0 (reply line) memory
    no_answer why e =
        let P = printed (line_area line) in
        let short = written_not P (take k memory) part refl why e in
        let t = length-take-le k memory (omega arith) in
        let same : part ++ drop k memory ≡ memory =
        ap (λ (x : List ℕ). x ++ drop k memory) (refused_kept P (take k memory) part refl why e) ∙ take-append-drop k memory in
        rw same (written_short (reply line) memory refl (omega (arith, short, t, h, reply_long line)))
