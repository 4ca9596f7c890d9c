-- What the definitions of this crate come to, in document 01's words, and that the Rust gives the same list. Nothing is assumed.
use Rattle.std.specs.Prelude.{◌≡◌, refl, Bool, true, false, ◌↔◌, ◌⊎◌, ℕ, zero, suc, ◌+◌, ◌-◌, ◌/◌, ◌%◌, ◌^◌, ◌<◌, eqb}
use Rattle.std.proofs.Common.{ap, ◌∙◌, inl, inr, pow-suc, arith, eqb-true}
use mathlib.Core.List.Memᴰ
use mathlib.Core.List.{[], ◌∷◌, Memᴰ}
use mathlib.Core.List.Pairwise
use mathlib.Core.List.{Nodup}
use Rattle.std.proofs.lemmas.Bool.{eqb-false}
use Rattle.bits.specs.Checked.{returns, minus_fits}
use Rattle.children.specs.Members.{once_more}
use Rattle.children.specs.Rust.{vec}
use Rattle.tile.specs.OnMap.{OnMap, tile_at}
use Rattle.tile.specs.Order.{tile_ext}
use Rattle.tile.specs.Rust.{To29, rust_along}
use Rattle.tile.specs.declared.Step.TheVariants.{Back, On}
use Rattle.tile.specs.declared.Tile.{Tile}
use Rattle.siblings.specs.Siblings.{other, siblings_of}
use Rattle.siblings.specs.Laws.{side_most, next}
use Rattle.siblings.specs.Rust.{rust_tiles, siblings_arm, rust_siblings}

-- The Rust is held to tiles of zoom 0 to 29. On them no check fails.

-- "`siblings` in the Rust's order": its four arms are one list
pub rust_siblings_lem : (x y z : ℕ) → To29 x y z → rust_siblings x y z ≡ returns (siblings_of x y z)
unfolding vec
rust_siblings_lem x y z m = pick (eqb (x % 2) 0) refl (eqb (y % 2) 0) refl
  where
    even : (n : ℕ) → n < 2 ^ z → eqb (n % 2) 0 ≡ true → rust_along On n ≡ returns (other n)
    even n l e =
        let f : n + 1 ≡ other n = omega (arith, eqb-true (n % 2) 0 e) in
        next n (omega (arith, side_most m.zoom)) ∙ ap returns f

    odd : (n : ℕ) → eqb (n % 2) 0 ≡ false → rust_along Back n ≡ returns (other n)
    odd n e =
        let f : n - 1 ≡ other n = omega (arith, eqb-false (n % 2) 0 e) in
        minus_fits n 1 (omega (arith, eqb-false (n % 2) 0 e)) ∙ ap returns f

    pick : (a : Bool) → eqb (x % 2) 0 ≡ a → (b : Bool) → eqb (y % 2) 0 ≡ b → rust_tiles (siblings_arm a b) x y z ≡ returns (siblings_of x y z)
    pick true p true q = rw (even x m.column p, even y m.row q)
    pick true p false q = rw (even x m.column p, odd y q)
    pick false p true q = rw (odd x p, even y m.row q)
    pick false p false q = rw (odd x p, odd y q)

-- siblings are just the other tiles of the family: those of the tile's zoom with its parent
pub record Sibling (x y z : ℕ) (t : Tile) : Type 0 where
  pub zoom : t.z ≡ z
  pub parent : (t.x / 2 ≡ x / 2) × (t.y / 2 ≡ y / 2)
  pub another : t.x ≡ x → t.y ≡ y → ⊥

pub exactly_the_others_of_the_family : (x y z : ℕ) (t : Tile) → Memᴰ t (siblings_of x y z) ↔ Sibling x y z t
exactly_the_others_of_the_family x y z t = (λ m. first (Memᴰ.cases_cons m), λ s. find s (eqb t.x x) refl (eqb t.y y) refl)
  where
    named : {a b : ℕ} → t ≡ tile_at a b z → (t.x ≡ a) × (t.y ≡ b) × (t.z ≡ z)
    named e = (ap (λ (u : Tile). u.x) e, ap (λ (u : Tile). u.y) e, ap (λ (u : Tile). u.z) e)

    later : (t ≡ tile_at x (other y) z) ⊎ Memᴰ t (tile_at (other x) (other y) z ∷ []) → Sibling x y z t
    later (inl e) = let n = named e in record { zoom = n.2; parent = omega arith; another = λ p q. omega arith }
    later (inr m) = let n = named (Memᴰ.eq_of_singleton m) in
        record { zoom = n.2; parent = omega arith; another = λ p q. omega arith }

    first : (t ≡ tile_at (other x) y z) ⊎ Memᴰ t (tile_at x (other y) z ∷ tile_at (other x) (other y) z ∷ []) → Sibling x y z t
    first (inl e) = let n = named e in record { zoom = n.2; parent = omega arith; another = λ p q. omega arith }
    first (inr m) = later (Memᴰ.cases_cons m)

    find : Sibling x y z t → (a : Bool) → eqb t.x x ≡ a → (b : Bool) → eqb t.y y ≡ b → Memᴰ t (siblings_of x y z)
    find s true p true q = absurd (s.another (eqb-true t.x x p) (eqb-true t.y y q))
    find s false p true q =
        let c : t.x ≡ other x = omega (arith, eqb-false t.x x p) in
        Memᴰ.head (tile_ext t (tile_at (other x) y z) c (eqb-true t.y y q) s.zoom)
    find s true p false q =
        let r : t.y ≡ other y = omega (arith, eqb-false t.y y q) in
        Memᴰ.tail (Memᴰ.head (tile_ext t (tile_at x (other y) z) (eqb-true t.x x p) r s.zoom))
    find s false p false q =
        let c : t.x ≡ other x = omega (arith, eqb-false t.x x p) in
        let r : t.y ≡ other y = omega (arith, eqb-false t.y y q) in
        Memᴰ.tail (Memᴰ.tail (Memᴰ.head (tile_ext t (tile_at (other x) (other y) z) c r s.zoom)))

pub siblings_on_the_map : (x y z : ℕ) (t : Tile) → OnMap x y z → 0 < z → Memᴰ t (siblings_of x y z) → OnMap t.x t.y t.z
siblings_on_the_map x y zero t m h k = absurd (omega arith)
siblings_on_the_map x y (suc z) t m h k =
    let s = (exactly_the_others_of_the_family x y (suc z) t).0 k in
    let c = m.column in
    let r = m.row in
    rw s.zoom (record { zoom = m.zoom; column = omega (arith, pow-suc 2 z, s.parent); row = omega (arith, pow-suc 2 z, s.parent) })

pub each_sibling_once : (x y z : ℕ) → Nodup (siblings_of x y z)
each_sibling_once x y z = once_more first (once_more second (once_more Memᴰ.not-nil Pairwise.nil))
  where
    same : {a b c d : ℕ} → tile_at a b z ≡ tile_at c d z → (a ≡ c) × (b ≡ d)
    same e = (ap (λ (u : Tile). u.x) e, ap (λ (u : Tile). u.y) e)

    second : Memᴰ (tile_at x (other y) z) (tile_at (other x) (other y) z ∷ []) → ⊥
    second m = let e : x ≡ other x = (same (Memᴰ.eq_of_singleton m)).0 in omega arith

    pick : (tile_at (other x) y z ≡ tile_at x (other y) z) ⊎ Memᴰ (tile_at (other x) y z) (tile_at (other x) (other y) z ∷ []) → ⊥
    pick (inl e) = let f : other x ≡ x = (same e).0 in omega arith
    pick (inr m) = let f : y ≡ other y = (same (Memᴰ.eq_of_singleton m)).1 in omega arith

    first : Memᴰ (tile_at (other x) y z) (tile_at x (other y) z ∷ tile_at (other x) (other y) z ∷ []) → ⊥
    first m = pick (Memᴰ.cases_cons m)
