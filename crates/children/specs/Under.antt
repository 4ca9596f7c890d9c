-- The tiles that lie under a tile, and that a list of descendants has each of them once.
use Rattle.std.specs.Prelude.{◌≡◌, refl, ◌↔◌, ℕ, zero, suc, ◌+◌, ◌*◌, ◌/◌, ◌%◌, ◌^◌, ◌≤◌, ◌<◌}
use Rattle.std.proofs.Common.{sym, ap, ◌∙◌, div-one, div-lt_iff_lt-mul, add-one, arith, pow_pos, pow-add, shr-shr}
use mathlib.Core.List.Memᴰ
use mathlib.Core.List.{List, [], ◌∷◌, Memᴰ, Nodup}
use mathlib.Core.List.Pairwise
use Rattle.std.proofs.Math.Decide.{dec_le}
use Rattle.tile.specs.OnMap.{tile_at}
use Rattle.tile.specs.Order.{tile_ext}
use Rattle.tile.specs.declared.Tile.{Tile}
use Rattle.children.specs.Children.{descendants}
use Rattle.children.specs.Members.{once_more, in_gather, into_gather, once_gather, not_first, in_rest}

-- a tile t lies d zooms under the tile (x, y, z)
pub record Under (d x y z : ℕ) (t : Tile) : Type 0 where
  pub zoom : t.z ≡ z + d
  pub column : t.x / 2 ^ d ≡ x
  pub row : t.y / 2 ^ d ≡ y

-- the order of a family: each of the digits 0 to 3 once
pub record IsFamily (family : List ℕ) : Type 0 where
  pub digits : (q : ℕ) → Memᴰ q family ↔ q < 4
  pub once : Nodup family

one_more : (a d : ℕ) → a / 2 ^ suc d ≡ a / 2 ^ d / 2
one_more a d = rw (← add-one d) (sym (shr-shr a d 1))

pub descend_under : (family : List ℕ) → ((q : ℕ) → Memᴰ q family → q < 4) → (d x y z : ℕ) (t : Tile)
    → Memᴰ t (descendants family d x y z)
    → Under d x y z t
unfolding descendants
descend_under family small zero x y z t m =
    let e : t ≡ tile_at x y z = Memᴰ.eq_of_singleton m in
    rw e (record { zoom = omega arith; column = div-one x; row = div-one y })
descend_under family small (suc d) x y z t m =
    let s = in_gather (λ q. descendants family d (2 * x + q % 2) (2 * y + q / 2) (suc z)) family m in
    let q = s.0 in
    let l = small q s.1 in
    let u = descend_under family small d (2 * x + q % 2) (2 * y + q / 2) (suc z) t s.2 in
    record {
      zoom = omega (arith, u.zoom);
      column = one_more t.x d ∙ omega (arith, u.column);
      row =
          one_more t.y d ∙ omega (arith, u.row);
    }

pub under_descend : (family : List ℕ) → ((q : ℕ) → q < 4 → Memᴰ q family) → (d x y z : ℕ) (t : Tile) → Under d x y z t
    → Memᴰ t (descendants family d x y z)
unfolding descendants
under_descend family all zero x y z t u =
    Memᴰ.head (tile_ext t (tile_at x y z) (omega (arith, u.column)) (omega (arith, u.row)) (omega (arith, u.zoom)))
under_descend family all (suc d) x y z t u =
    into_gather (λ q. descendants family d (2 * x + q % 2) (2 * y + q / 2) (suc z)) digit family (all digit (omega arith))
    (under_descend family all d _ _ _ t below)
  where
    digit : ℕ
    digit = 2 * (t.y / 2 ^ d % 2) + t.x / 2 ^ d % 2

    below : Under d (2 * x + digit % 2) (2 * y + digit / 2) (suc z) t
    below = record {
      zoom = omega (arith, u.zoom);
      column = omega (arith, u.column, one_more t.x d);
      row = omega (arith, u.row, one_more t.y d);
    }

-- under a tile of the map there are tiles of the map
pub under_small : {x y z d : ℕ} {t : Tile} → x < 2 ^ z → y < 2 ^ z → Under d x y z t → (t.x < 2 ^ t.z) × (t.y < 2 ^ t.z)
under_small {z = z} {d = d} {t = t} c r u = rw u.zoom (wide t.x (rw u.column c), wide t.y (rw u.row r))
  where
    wide : (a : ℕ) → a / 2 ^ d < 2 ^ z → a < 2 ^ (z + d)
    wide a l = rw (pow-add 2 z d) ((div-lt_iff_lt-mul (pow_pos d)).0 l)

-- a tile under two children of a tile: they are one child
one_child : (d x y z q r : ℕ) (t : Tile) → q < 4 → r < 4 → Under d (2 * x + q % 2) (2 * y + q / 2) z t
    → Under d (2 * x + r % 2) (2 * y + r / 2) z t → q ≡ r
one_child d x y z q r t h k u v = omega (arith, u.column, u.row, v.column, v.row)

pub descend_once : (family : List ℕ) → IsFamily family → (d x y z : ℕ) → Nodup (descendants family d x y z)
unfolding descendants
descend_once family f zero x y z = once_more Memᴰ.not-nil Pairwise.nil
descend_once family f (suc d) x y z =
    once_gather _ family f.once (λ q. descend_once family f d (2 * x + q % 2) (2 * y + q / 2) (suc z))
    (λ t q r a b k m. one_child d x y (suc z) q r t (small q a) (small r b) (descend_under family small d _ _ _ t k)
    (descend_under family small d _ _ _ t m))
  where
    small : (q : ℕ) → Memᴰ q family → q < 4
    small q m = (f.digits q).0 m

pub descend_zoom : (family : List ℕ) (d x y z : ℕ) (t : Tile) → Memᴰ t (descendants family d x y z) → t.z ≡ z + d
unfolding descendants
descend_zoom family zero x y z t m = ap (λ (s : Tile). s.z) (Memᴰ.eq_of_singleton m) ∙ omega arith
descend_zoom family (suc d) x y z t m = let s = in_gather _ family m in descend_zoom family d _ _ (suc z) t s.2 ∙ omega arith

-- 0 and 1, then 2 and 3 in either order
pub in_either_order : (a b : ℕ) → 1 < a → a < 4 → 1 < b → b < 4 → (a ≡ b → ⊥) → IsFamily (0 ∷ 1 ∷ a ∷ b ∷ [])
in_either_order a b la sa lb sb n = record {
  digits = λ q. (in_rest (omega arith) (in_rest (omega arith) (in_rest sa (in_rest sb (λ m. absurd (Memᴰ.not-nil m))))), there q);
  once = once_more (not_first 0 1 (λ e. omega arith)
      (not_first 0 a (λ e. omega arith) (not_first 0 b (λ e. omega arith) Memᴰ.not-nil)))
      (once_more (not_first 1 a (λ e. omega arith) (not_first 1 b (λ e. omega arith) Memᴰ.not-nil))
      (once_more (not_first a b n Memᴰ.not-nil) (once_more Memᴰ.not-nil Pairwise.nil)));
}
  where
    there : (q : ℕ) → q < 4 → Memᴰ q (0 ∷ 1 ∷ a ∷ b ∷ [])
    there zero h = Memᴰ.head refl
    there (suc zero) h = Memᴰ.tail (Memᴰ.head refl)
    there (suc (suc q)) h = Memᴰ.tail (Memᴰ.tail (pick (dec_le (suc (suc q)) a) (dec_le a (suc (suc q)))))
      where
        pick : Dec (suc (suc q) ≤ a) → Dec (a ≤ suc (suc q)) → Memᴰ (suc (suc q)) (a ∷ b ∷ [])
        pick (yes i) (yes j) = let e : suc (suc q) ≡ a = omega arith in Memᴰ.head e
        pick (yes i) (no j) = let e : suc (suc q) ≡ b = omega arith in Memᴰ.tail (Memᴰ.head e)
        pick (no i) j = let e : suc (suc q) ≡ b = omega arith in Memᴰ.tail (Memᴰ.head e)
