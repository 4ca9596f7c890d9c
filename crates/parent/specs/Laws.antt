-- The tile one zoom up is what `parent` answers with no extra step.
use Rattle.errors.specs.declared.Refusal.{Refusal}
use Rattle.std.specs.Prelude.{◌≡◌, refl, ℕ, zero, suc, ◌-◌, ◌/◌, Result, Ok, Err, Option, Some, None}
use Rattle.std.proofs.Common.{ap, ◌∙◌, arith}
use Rattle.errors.specs.Answer.{Answer}
use Rattle.errors.specs.Laws.{never_zero}
use Rattle.fns.specs.Fns.{parent_of}
use Rattle.fns.specs.Laws.{no_parent, nearest_parent}
use Rattle.fns.specs.Parent.{parent_case, parent_given}
use Rattle.fns.proofs.Theorems.{the_tile_is_as_before}
use Rattle.fns.specs.declared.Ancestor.{Ancestor}
use Rattle.tile.specs.OnMap.{OnMap, tile_at, on_map_accepted}
use Rattle.tile.specs.declared.Tile.{Tile}
use Rattle.parent.specs.Parents.{above_of}

abbrev pub tile_above : Result Ancestor Refusal → Option Tile
tile_above (Ok up) = Some up.tile
tile_above (Err why) = None

-- of what `parent` hands back, the number and the tile are document 01's
pub given_tile : (x y z n : ℕ) (r : Result Ancestor Refusal) → parent_case r ≡ parent_given x y z n
    → record { number = (parent_case r).number; value = (parent_case r).value.tile } ≡ parent_of x y z n
given_tile x y z n r e =
    ap (λ (a : Answer Ancestor). record { number = a.number; value = a.value.tile }) e ∙ the_tile_is_as_before x y z n

pub above_parent : (x y z : ℕ) → OnMap x y z → (r : Result Ancestor Refusal) → parent_case r ≡ parent_given x y z 0 → tile_above r ≡ above_of x y z
above_parent x y zero m (Ok up) e =
    let f : 0 ≡ (parent_of x y 0 0).number = ap (λ (a : Answer Tile). a.number) (given_tile x y 0 0 (Ok up) e) in
    let g : ◌≡◌ {A = ℕ} 0 3 = rw (no_parent x y 0 (on_map_accepted m)) at f in
    absurd (omega arith)
above_parent x y zero m (Err why) e = refl
above_parent x y (suc z) m (Ok up) e =
    let t = given_tile x y (suc z) 0 (Ok up) e in
    let f : up.tile ≡ tile_at (x / 2) (y / 2) (suc z - 1) = ap (λ (a : Answer Tile). a.value) (t ∙ nearest_parent m (omega arith)) in
    let g : suc z - 1 ≡ z = omega arith in
    ap Some (rw g at f)
above_parent x y (suc z) m (Err why) e =
    let t = given_tile x y (suc z) 0 (Err why) e in
    absurd (never_zero why (ap (λ (a : Answer Tile). a.number) (t ∙ nearest_parent m (omega arith))))
