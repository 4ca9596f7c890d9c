-- What the digit of a tile tells of it, for those that hold tiles as Morton codes.
use Rattle.std.specs.Prelude.{◌≡◌, refl, List, Result, Ok, Err, IsOk, ℕ, zero, suc, ◌+◌, ◌*◌, ◌/◌, ◌%◌, ◌<◌, get_or}
use Rattle.std.proofs.Common.{ap, sym, ◌∙◌, div-one, arith}
use Rattle.fns.specs.Laws.{parent_accepted}
use Rattle.fns.specs.Parent.{no_ancestor, parent_case, parent_given}
use Rattle.fns.specs.declared.Ancestor.{Ancestor}
use Rattle.constants.specs.Limits.{at_least_29}
use Rattle.errors.specs.Laws.{answer_refused, never_zero}
use Rattle.errors.specs.declared.Refusal.{Refusal}
use Rattle.fns.proofs.Theorems.{the_digits_under_any_root}
use Rattle.quadkey.specs.Key.{key_from}
use Rattle.quadtree.specs.Lists.{TileNumber}
use Rattle.quadtree.specs.Numbers.{OfMap, morton_at, morton_of, morton_tile}
use Rattle.quadtree.specs.OneTile.{morton_tile_lem}
use Rattle.quadtree.specs.Tree.{four_codes}
use Rattle.tile.specs.OnMap.{OnMap}
use Rattle.tile.specs.declared.Tile.{Tile}
use Rattle.child_digit.specs.Digit.{digit_of}

-- it is the byte of the Morton code's last digit
pub the_last_digit : (t : Tile) → OfMap t → 0 < t.z → digit_of t ≡ 48 + morton_of t % 4
unfolding digit_of key_from
the_last_digit t m h = rw (parent_accepted {n = 0} m h, (four_codes t h).1, div-one t.x, div-one t.y)

-- with the tile's parent as the root `parent` hands back the same digit
pub the_parent_as_the_root : (t : Tile) → OfMap t → 0 < t.z → get_or (parent_given (t.x % 2) (t.y % 2) 1 0).value.digits 0 0 ≡ digit_of t
unfolding digit_of
the_parent_as_the_root t m h =
    ap (λ (l : List ℕ). get_or l 0 0) (the_digits_under_any_root t.x t.y t.z 0 1 m (omega arith) (omega arith)).1

-- the root's Morton code is 1, and no other tile's is less than 4
pub below_the_root : (t : Tile) → 1 < morton_of t → 0 < t.z
unfolding morton_at
below_the_root t g = pick t.z g
  where
    pick : (z : ℕ) → 1 < morton_at t.x t.y z → 0 < z
    pick zero h = absurd (omega (arith, h))
    pick (suc z) h = omega arith

two_bits : (k x y : ℕ) → let q = 4 * k + (2 * (y % 2) + x % 2) in (q % 2 ≡ x % 2) × (q / 2 % 2 ≡ y % 2)
two_bits k x y = (omega arith, omega arith)

-- so it is told by the last digit of the code alone
pub told_by_the_code : (q : ℕ) → TileNumber morton_of q → 1 < q
    → get_or (parent_given (q % 2) (q / 2 % 2) 1 0).value.digits 0 0 ≡ digit_of (morton_tile q)
told_by_the_code q n h =
    let t = n.tile in
    let z = below_the_root t (rw n.number h) in
    let d : q % 4 ≡ 2 * (t.y % 2) + t.x % 2 = rw n.number at (four_codes t z).1 in
    let b = two_bits (q / 4) t.x t.y in
    let f : 4 * (q / 4) + (2 * (t.y % 2) + t.x % 2) ≡ q = omega arith in
    let x : q % 2 ≡ t.x % 2 = rw f at b.0 in
    let y : q / 2 % 2 ≡ t.y % 2 = rw f at b.1 in
    let e : morton_tile q ≡ t = rw n.number at (morton_tile_lem t n.on_map) in
    rw (x, y, e) (the_parent_as_the_root t n.on_map z)

-- at a child of the root `parent` is not refused
pub a_child_is_found : (x y : ℕ) → x < 2 → y < 2 → (r : Result Ancestor Refusal) → parent_case r ≡ parent_given x y 1 0 → IsOk r
a_child_is_found x y h k (Ok up) e = refl
a_child_is_found x y h k (Err why) e =
    let m : OnMap x y 1 = record { zoom = omega (arith, at_least_29); column = omega arith; row = omega arith } in
    absurd (never_zero why (sym (answer_refused why _ no_ancestor _ e) ∙ parent_accepted {n = 0} m (omega arith)))
