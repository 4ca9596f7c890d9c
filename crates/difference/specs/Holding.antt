-- The test `holds` against `Holds`, and what is left of a tile by the tiles that touch it.
use Rattle.std.specs.Prelude.{◌≡◌, refl, Bool, true, false}
use mathlib.Core.List.{List, [], ◌∷◌, Memᴰ}
use Prim.Native.Nat.{ℕ, zero, suc}
use Rattle.std.proofs.Common.{leb-true, eqb-true, le-leb, eq-eqb}
use Rattle.bits.specs.Tests.{any_of, and_parts, in_any, any_in}
use Rattle.tile.specs.declared.Tile.{Tile}
use Rattle.tile_set.specs.Holds.{Holds}
use Rattle.difference.specs.Left.{holds, of_four, left_of}

pub holds_true : (s t : Tile) → holds s t ≡ true → Holds s t
unfolding holds
holds_true s t e =
    let a = and_parts _ _ e in
    let b = and_parts _ _ a.1 in
    record { above = leb-true _ _ a.0; inx = eqb-true _ _ b.0; iny = eqb-true _ _ b.1 }

pub true_holds : {s t : Tile} → Holds s t → holds s t ≡ true
unfolding holds
true_holds {s} {t} h = rw (le-leb _ _ h.above, eq-eqb _ _ h.inx, eq-eqb _ _ h.iny)

-- no tile of a list passes a test that each fails
pub any_none : (p : Tile → Bool) (l : List Tile) → ((t : Tile) → Memᴰ t l → p t ≡ true → ⊥) → any_of p l ≡ false
any_none p l f = pick (any_of p l) (λ e. let s = any_in p l e in f s.0 s.1 s.2)
  where
    pick : (b : Bool) → (b ≡ true → ⊥) → b ≡ false
    pick true g = absurd (g refl)
    pick false g = refl

module _ (gone : List Tile) (t : Tile) where
  -- none of them holds t
  abbrev pub Bare : Type 0
  Bare = (g : Tile) → Memᴰ g gone → Holds g t → ⊥

  bare_none : Bare → any_of (λ g. holds g t) gone ≡ false
  bare_none f = any_none (λ g. holds g t) gone (λ g m e. f g m (holds_true g t e))

  pub left_dropped : (d : ℕ) (g : Tile) → Memᴰ g gone → Holds g t → left_of d gone t ≡ []
  unfolding left_of
  left_dropped zero g m h = rw (in_any (λ g. holds g t) gone m (true_holds h))
  left_dropped (suc d) g m h = rw (in_any (λ g. holds g t) gone m (true_holds h))

  pub left_kept : (d : ℕ) → Bare → ((g : Tile) → Memᴰ g gone → Holds t g → ⊥) → left_of d gone t ≡ t ∷ []
  unfolding left_of
  left_kept zero f h = rw (bare_none f)
  left_kept (suc d) f h = rw (bare_none f, any_none (holds t) gone (λ g m e. h g m (holds_true t g e)))

  pub left_four : (d : ℕ) (g : Tile) → Memᴰ g gone → Holds t g → Bare → left_of (suc d) gone t ≡ of_four (left_of d gone) t
  unfolding left_of
  left_four d g m h f = rw (bare_none f, in_any (holds t) gone m (true_holds h))
