-- The middle of `left`: the first i tiles are walked, and their locations are written.
use Rattle.std.specs.Prelude.{◌≡◌, List, [], ◌∷◌, ◌++◌, map, ℕ, ◌+◌, ◌-◌, ◌≤◌, ◌<◌, length, take, get_or}
use Rattle.std.proofs.Common.{sym, ap, ◌∙◌, append_assoc, append-nil, add-one, take-suc}
use Rattle.std.proofs.lemmas.List.{map-append}
use native.Mathlib.Omega.{arith}
use Rattle.constants.specs.Limits.{max_zoom}
use Rattle.quadtree.specs.Numbers.{location_tile}
use Rattle.quadtree.specs.Locations.{low_of, start_of, tiles, Runs}
use Rattle.tile.specs.declared.Tile.{Tile}
use Rattle.difference.specs.Left.{left_of, left_of_all, left_at, without}
use Rattle.difference.specs.Walk.{Come, Wrote, Walked, behind_none, come_on, wrote_none, wrote_both}

-- the walk has come to the start of each tile that is not walked yet
pub record WalkedTo (kept gone before after : List ℕ) (i next count : ℕ) : Type 0 where
  pub come : (j : ℕ) → i ≤ j → j < length kept → Come gone (start_of (tiles kept j)) next count
  pub wrote : Wrote (without (take i kept) gone) 0 count before after

left_last : (D : ℕ) (gone l : List Tile) (t : Tile) → left_of_all D gone (l ++ (t ∷ [])) ≡ left_of_all D gone l ++ left_of (D - t.z) gone t
unfolding left_of_all
left_last D gone [] t = append-nil (left_of (D - t.z) gone t)
left_last D gone (s ∷ l) t =
    ap (λ (r : List Tile). left_of (D - s.z) gone s ++ r) (left_last D gone l t)
    ∙ sym (append_assoc (left_of (D - s.z) gone s) (left_of_all D gone l) (left_of (D - t.z) gone t))

without_next : (kept gone : List ℕ) (i : ℕ) → i < length kept
    → without (take (i + 1) kept) gone ≡ without (take i kept) gone ++ left_at gone (get_or kept i 0)
without_next kept gone i h =
    rw (add-one i, take-suc kept i 0 h, map-append location_tile (take i kept) (get_or kept i 0 ∷ []))
    (left_last max_zoom (map location_tile gone) (map location_tile (take i kept)) (tiles kept i))

module _ (kept gone before : List ℕ) where
  pub begun : WalkedTo kept gone before before 0 0 0
  unfolding left_of_all
  begun = record {
    come = λ j a b. record { behind = behind_none gone (start_of (tiles kept j)); few = omega arith };
    wrote =
        wrote_none 0 before;
  }

  module _ (after : List ℕ) (i next count : ℕ) (m : WalkedTo kept gone before after i next count) where
    pub moved : Runs kept → i < length kept → (low n c : ℕ) (l : List ℕ) → low ≡ low_of (tiles kept i)
        → Walked (left_at gone (get_or kept i 0)) gone (get_or kept i 0 + low) count after l n c → WalkedTo kept gone before l (i + 1) n c
    moved runs h low n c l e w = record {
      come = λ j a b. come_on w.come (omega (arith, (runs.each i h).again, runs.rise i j (omega arith) b));
      wrote = rw (without_next kept gone i h) (wrote_both m.wrote w.wrote);
    }
