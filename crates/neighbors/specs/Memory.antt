-- How the memory fills up with the tiles that are found.
use Rattle.errors.specs.declared.Refusal.{Refusal}
use Rattle.std.specs.Prelude.{Option, ◌≡◌, List, [], ◌++◌, ℕ, zero, suc, ◌+◌, ◌≤◌, ◌<◌, length, drop, get_or, Result}
use Rattle.std.proofs.Common.{sym, ap, ◌∙◌, append_assoc, arith, length-append, length-drop, take_at, drop_at, drop-drop, le-ltb}
use Rattle.std.proofs.lemmas.List.{map-append, length-map}
use Rattle.ids.specs.Entry.{entries_of}
use Rattle.errors.specs.Answer.{answer, written}
use Rattle.errors.specs.Cases.{number_case, left}
use Rattle.neighbors.specs.Neighbors.{near_of, order_of, spot_tiles, pasted}
use Rattle.neighbors.specs.Squares.{found, found_more}
use Rattle.tile.specs.declared.Tile.{Tile}
use Rattle.neighbors.specs.declared.Seam.{Seam}

-- what one square has is written
pub fill_more : (seam : Seam) (x y z k n : ℕ) (spot : Option Tile) (memory out : List ℕ) → k < 8 → n ≡ length (found seam x y z k)
    → out ≡ entries_of (found seam x y z k) ++ drop n memory → spot_tiles spot ≡ near_of seam x y z (get_or (order_of seam) k 0)
    → pasted n (entries_of (spot_tiles spot)) out ≡ entries_of (found seam x y z (k + 1)) ++ drop (n + length (spot_tiles spot)) memory
fill_more seam x y z k n spot memory out h e f g =
    let done = entries_of (found seam x y z k) in
    let l : length done ≡ n = length-map (found seam x y z k) _ ∙ sym e in
    rw (
      f,
      take_at done (drop n memory) n l,
      ← drop-drop (length (entries_of (spot_tiles spot))) n (done ++ drop n memory),
      drop_at done (drop n memory) n l,
      drop-drop,
      length-map,
      found_more seam x y z k h,
      ← g,
      map-append,
      append_assoc,
    )

pub fill_length : (seam : Seam) (x y z k n : ℕ) (memory out : List ℕ) → n ≡ length (found seam x y z k) → n ≤ length memory
    → out ≡ entries_of (found seam x y z k) ++ drop n memory → length out ≡ length memory
fill_length seam x y z k n memory out e h f =
    ap (λ (l : List ℕ). length l) f ∙ rw (length-append, length-map, ← e, length-drop) (omega arith)

-- a call that has nothing to write needs no memory
pub none_written : (n : ℕ) (r : Result ℕ Refusal) (memory : List ℕ) → number_case r ≡ answer n 0 0 → left r memory ≡ written n [] memory
none_written zero r memory e = let h : 0 ≤ length memory = omega arith in rw (e, le-ltb (length memory) 0 h)
none_written (suc n) r memory e = rw e
