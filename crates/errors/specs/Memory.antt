-- Laws of lent memory: a list that is written to its front, one place after the other.
use Rattle.std.specs.Prelude.{◌≡◌, List, ◌++◌, ℕ, suc, ◌≤◌, ◌<◌, length, take, drop, get_or, set, Ok, Err}
use Rattle.std.proofs.Common.{append_assoc, arith, length-append, length-drop, take-suc, drop-cons, length-take-le, lt-ltb, le-ltb}
use Rattle.std.proofs.lemmas.List.{set_at}
use Rattle.errors.specs.Answer.{number_of, short, written}
use Rattle.errors.specs.Cases.{left}
use Rattle.errors.specs.Laws.{stands, refused_lent}
use Rattle.errors.specs.declared.Refusal.{Refusal}
use Rattle.errors.specs.declared.Refusal.TheVariants.{Memory}

-- the memory with the first n entries of a list at its front
abbrev pub front : ℕ → List ℕ → List ℕ → List ℕ
front n items memory = take n items ++ drop n memory

pub front_length : (n : ℕ) (items memory : List ℕ) → n ≤ length items → n ≤ length memory → length (front n items memory) ≡ length memory
front_length n items memory h k = rw (length-append, length-take-le n items h, length-drop) (omega arith)

pub front_more : (n : ℕ) (items memory : List ℕ) → n < length items → n < length memory
    → set (front n items memory) n (get_or items n 0) ≡ front (suc n) items memory
front_more n items memory h k =
    rw (
      drop-cons memory n 0 k,
      set_at (take n items) (get_or memory n 0) (drop (suc n) memory) (get_or items n 0) n (length-take-le n items (omega arith)),
      take-suc items n 0 h,
      append_assoc,
    )

-- the three ends of a call that writes a list
pub written_refused : (why : Refusal) {n : ℕ} (items memory : List ℕ) → number_of why ≡ n
    → left (Err why) memory ≡ written n items memory
written_refused why items memory e = refused_lent why items memory (stands why (short items memory) e)

pub written_short : {n : ℕ} (items memory : List ℕ) → n ≡ 0 → length memory < length items
    → left (Err Memory) memory ≡ written n items memory
written_short items memory e h = rw (e, lt-ltb _ _ h)

pub written_done : {n k : ℕ} (items memory after : List ℕ) → n ≡ 0 → length items ≤ length memory → k ≡ length items
    → after ≡ items ++ drop (length items) memory → left (Ok k) after ≡ written n items memory
written_done items memory after e h f g = rw (e, le-ltb _ _ h, f, g)
