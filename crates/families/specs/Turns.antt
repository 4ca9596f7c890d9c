-- Passes until nothing changes: what stands after each turn of the loop, and at its end.
use Rattle.std.specs.Prelude.{◌≡◌, refl, Bool, false, List, ◌++◌, ℕ, zero, suc, ◌+◌, ◌-◌, ◌≤◌, ◌<◌, length, take}
use Rattle.std.proofs.Common.{sym, ap, ◌∙◌, add-one}
use native.Mathlib.Omega.{arith}
use Rattle.constants.specs.Limits.{max_zoom}
use Rattle.quadtree.specs.Lists.{TileNumbers}
use Rattle.quadtree.specs.Numbers.{morton_of, morton_tile}
use Rattle.tile.specs.declared.Tile.{Tile}
use Rattle.tile_list.specs.List.{named}
use Rattle.tile_set.specs.Merged.{merged_same}
use Rattle.tile_set.specs.Set.{joins, merged, passes}
use Rattle.families.specs.Pass.{Passed, Still, part_passed}
use Rattle.families.specs.declared.Joined.{Joined}

pass_more : (n m : ℕ) (S : Tile → Bool) → passes (suc n) m S ≡ merged m (passes n m S)
unfolding passes
pass_more n m S = refl

-- once a pass changes nothing, no later one does
still_later : (k n m : ℕ) (S : Tile → Bool) → merged m (passes n m S) ≡ passes n m S → passes (k + n) m S ≡ passes n m S
still_later zero n m S e = let f : 0 + n ≡ n = omega arith in ap (λ (i : ℕ). passes i m S) f
still_later (suc k) n m S e =
    let f : suc k + n ≡ suc (k + n) = omega arith in
    ap (λ (i : ℕ). passes i m S) f ∙ (pass_more (k + n) m S ∙ (ap (merged m) (still_later k n m S e) ∙ e))

module _ (m : ℕ) (before : List ℕ) where
  abbrev S : Tile → Bool
  S = named morton_tile before

  -- the first `left` Morton codes are those of the set after so many passes
  pub record Turn (codes : List ℕ) (left gone : ℕ) : Type 0 where
    pub within : left ≤ length codes
    pub numbers : TileNumbers morton_of (take left codes)
    pub few : gone ≤ max_zoom
    pub set : named morton_tile (take left codes) ≡ passes gone m S

  pub first_turn : (codes : List ℕ) (left : ℕ) → left ≤ length codes → TileNumbers morton_of (take left codes) → take left codes ≡ before
      → Turn codes left 0
  unfolding passes
  first_turn codes left h n e = record { within = h; numbers = n; few = omega arith; set = ap (named morton_tile) e }

  module _ (codes : List ℕ) (left gone : ℕ) (T : Turn codes left gone) (h : gone < max_zoom) (part rest : List ℕ) (r : Joined)
      (p : Passed m (take left codes) part r) where
    more : Passed m (take left codes) (part ++ rest) r
    more = part_passed rest p

    next : named morton_tile (take r.count (part ++ rest)) ≡ passes (suc gone) m S
    next = more.set ∙ (ap (merged m) T.set ∙ sym (pass_more gone m S))

    pub next_turn : Turn (part ++ rest) r.count (gone + 1)
    next_turn = record { within = more.within; numbers = more.numbers; few = omega arith; set = rw add-one next }

    pub last_turn : r.changed ≡ false → Still m before (part ++ rest) r.count
    last_turn f = record { within = more.within; numbers = more.numbers; set = next ∙ end }
      where
        same : merged m (passes gone m S) ≡ passes gone m S
        same = λ i t. merged_same m (passes gone m S) (λ u. ap (λ (R : Tile → Bool). joins m R u) (sym T.set) ∙ p.still f u) t i

        end : passes (suc gone) m S ≡ passes max_zoom m S
        end =
            let b : max_zoom - gone + gone ≡ max_zoom = omega arith in
            pass_more gone m S ∙ (same ∙ (sym (still_later (max_zoom - gone) gone m S same) ∙ ap (λ (i : ℕ). passes i m S) b))

  pub turned_all : (codes : List ℕ) (left gone : ℕ) → Turn codes left gone → max_zoom ≤ gone → Still m before codes left
  turned_all codes left gone T h =
      let e : gone ≡ max_zoom = omega (arith, T.few) in
      record { within = T.within; numbers = T.numbers; set = T.set ∙ ap (λ (i : ℕ). passes i m S) e }
