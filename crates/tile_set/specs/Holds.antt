-- Which tile stands inside which: a tile holds itself and its descendants. And which tiles are of the map, whose deepest zoom is D.
use Rattle.std.specs.Prelude.{◌≡◌, refl, ◌⊎◌, ℕ, zero, suc, ◌+◌, ◌-◌, ◌*◌, ◌/◌, ◌%◌, ◌^◌, ◌≤◌, ◌<◌}
use Rattle.std.proofs.Common.{sym, ap, ◌∙◌, subst, inl, inr, div-one, pow-suc, arith, shr-shr, shr_lt}
use Rattle.std.proofs.Math.Decide.{dec_le}
use Rattle.std.proofs.Math.Nat.{sub_self, pow-zero}
use Rattle.tile.specs.Order.{tile_ext}
use Rattle.tile.specs.declared.Tile.{Tile}
use Rattle.tile_set.specs.Set.{ancestor, parent_tile, child}

-- s is t, or an ancestor of t
pub record Holds (s t : Tile) : Type 0 where
  pub above : s.z ≤ t.z
  pub inx : t.x / 2 ^ (t.z - s.z) ≡ s.x
  pub iny : t.y / 2 ^ (t.z - s.z) ≡ s.y

shift_none : (n k : ℕ) → n / 2 ^ (k - k) ≡ n
shift_none n k = rw (sub_self, pow-zero, div-one)

shift_twice : (n a b c : ℕ) → a ≤ b → b ≤ c → n / 2 ^ (c - b) / 2 ^ (b - a) ≡ n / 2 ^ (c - a)
shift_twice n a b c h k =
    let e : (c - b) + (b - a) ≡ c - a = omega arith in
    shr-shr n (c - b) (b - a) ∙ ap (λ (i : ℕ). n / 2 ^ i) e

pub holds_refl : (t : Tile) → Holds t t
holds_refl t = record { above = omega arith; inx = shift_none t.x t.z; iny = shift_none t.y t.z }

pub holds_trans : {a b c : Tile} → Holds a b → Holds b c → Holds a c
holds_trans {a} {b} {c} h k = record {
  above = omega arith;
  inx = sym (shift_twice c.x a.z b.z c.z h.above k.above) ∙ (ap (λ (n : ℕ). n / 2 ^ (b.z - a.z)) k.inx ∙ h.inx);
  iny = sym (shift_twice c.y a.z b.z c.z h.above k.above) ∙ (ap (λ (n : ℕ). n / 2 ^ (b.z - a.z)) k.iny ∙ h.iny);
}

-- of two tiles that hold a third, the one of the lower zoom holds the other
pub holds_both : {a b c : Tile} → Holds a c → Holds b c → a.z ≤ b.z → Holds a b
holds_both {a} {b} {c} h k l = record {
  above = l;
  inx = ap (λ (n : ℕ). n / 2 ^ (b.z - a.z)) (sym k.inx) ∙ (shift_twice c.x a.z b.z c.z l k.above ∙ h.inx);
  iny = ap (λ (n : ℕ). n / 2 ^ (b.z - a.z)) (sym k.iny) ∙ (shift_twice c.y a.z b.z c.z l k.above ∙ h.iny);
}

-- a tile that holds another of no deeper zoom is that tile
pub holds_level : {a b : Tile} → Holds a b → b.z ≤ a.z → a ≡ b
holds_level {a} {b} h l = tile_ext a b (sym h.inx ∙ flat b.x) (sym h.iny ∙ flat b.y) (omega arith)
  where
    flat : (n : ℕ) → n / 2 ^ (b.z - a.z) ≡ n
    flat n = let e : b.z - a.z ≡ 0 = omega arith in rw (e, pow-zero, div-one)

pub holds_antisym : {a b : Tile} → Holds a b → Holds b a → a ≡ b
holds_antisym h k = holds_level h k.above

pub ancestor_holds : (t : Tile) (s : ℕ) → s ≤ t.z → Holds (ancestor t s) t
ancestor_holds t s h = record { above = h; inx = refl; iny = refl }

pub holder_is_ancestor : {s t : Tile} → Holds s t → s ≡ ancestor t s.z
holder_is_ancestor {s} {t} h = tile_ext s (ancestor t s.z) (sym h.inx) (sym h.iny) refl

pub child_held : (p : Tile) (i j : ℕ) → i < 2 → j < 2 → Holds p (child p i j)
child_held p i j a b = let e : suc p.z - p.z ≡ 1 = omega arith in
    record { above = omega arith; inx = rw e (omega arith); iny = rw e (omega arith) }

-- what lies under a tile lies under one of its children
pub in_a_child : {p t : Tile} → Holds p t → p.z < t.z → (i : ℕ) × (j : ℕ) × (i < 2) × (j < 2) × Holds (child p i j) t
in_a_child {p} {t} h l = (
  digit t.x,
  digit t.y,
  omega arith,
  omega arith,
  record { above = l; inx = part t.x p.x h.inx; iny = part t.y p.y h.iny },
)
  where
    digit : ℕ → ℕ
    digit n = n / 2 ^ (t.z - suc p.z) % 2

    half : (n : ℕ) → n / 2 ^ (t.z - suc p.z) / 2 ≡ n / 2 ^ (t.z - p.z)
    half n = let e : t.z - suc p.z + 1 ≡ t.z - p.z = omega arith in shr-shr n (t.z - suc p.z) 1 ∙ ap (λ (i : ℕ). n / 2 ^ i) e

    part : (n x : ℕ) → n / 2 ^ (t.z - p.z) ≡ x → n / 2 ^ (t.z - suc p.z) ≡ 2 * x + digit n
    part n x e = omega (arith, half n)

-- what holds of each of the four
pub by_quarter : (P : ℕ → ℕ → Type 0) → P 0 0 → P 0 1 → P 1 0 → P 1 1 → (i j : ℕ) → i < 2 → j < 2 → P i j
by_quarter P a b c d zero zero h k = a
by_quarter P a b c d zero (suc zero) h k = b
by_quarter P a b c d (suc zero) zero h k = c
by_quarter P a b c d (suc zero) (suc zero) h k = d
by_quarter P a b c d zero (suc (suc j)) h k = absurd (omega arith)
by_quarter P a b c d (suc zero) (suc (suc j)) h k = absurd (omega arith)
by_quarter P a b c d (suc (suc i)) j h k = absurd (omega arith)

-- a tile whose four children are held by tiles of a kind is held by one of that kind, unless the four are of it themselves
pub held_by_four : (P : Tile → Type 0) (p : Tile) → (P (child p 0 0) → P (child p 0 1) → P (child p 1 0) → P (child p 1 1) → ⊥)
    → ((i j : ℕ) → i < 2 → j < 2 → (r : Tile) × P r × Holds r (child p i j)) → (r : Tile) × P r × Holds r p
held_by_four P p none held =
    four (up 0 0 (omega arith) (omega arith)) (up 0 1 (omega arith) (omega arith)) (up 1 0 (omega arith) (omega arith))
    (up 1 1 (omega arith) (omega arith))
  where
    Held : Type 0
    Held = (r : Tile) × P r × Holds r p

    up : (i j : ℕ) → i < 2 → j < 2 → P (child p i j) ⊎ Held
    up i j x y = pick (held i j x y)
      where
        pick : (r : Tile) × P r × Holds r (child p i j) → P (child p i j) ⊎ Held
        pick (r, e, h) = level (dec_le r.z p.z)
          where
            level : Dec (r.z ≤ p.z) → P (child p i j) ⊎ Held
            level (yes k) = inr (r, e, holds_both h (child_held p i j x y) k)
            level (no k) = inl (subst P (holds_level h (omega arith)) e)

    four : P (child p 0 0) ⊎ Held → P (child p 0 1) ⊎ Held → P (child p 1 0) ⊎ Held → P (child p 1 1) ⊎ Held → Held
    four (inr r) b c d = r
    four (inl a) (inr r) c d = r
    four (inl a) (inl b) (inr r) d = r
    four (inl a) (inl b) (inl c) (inr r) = r
    four (inl a) (inl b) (inl c) (inl d) = absurd (none a b c d)

pub parent_holds : (t : Tile) → 0 < t.z → Holds (parent_tile t) t
parent_holds t h = let e : t.z - (t.z - 1) ≡ 1 = omega arith in record { above = omega arith; inx = rw e; iny = rw e }

pub parent_of_child : (p : Tile) (i j : ℕ) → i < 2 → j < 2 → parent_tile (child p i j) ≡ p
parent_of_child p i j a b = tile_ext (parent_tile (child p i j)) p (omega arith) (omega arith) (omega arith)

pub child_of_parent : (t : Tile) → 0 < t.z → child (parent_tile t) (t.x % 2) (t.y % 2) ≡ t
child_of_parent t h = tile_ext (child (parent_tile t) (t.x % 2) (t.y % 2)) t (omega arith) (omega arith) (omega arith)

-- a tile of the map
pub record Valid (D : ℕ) (t : Tile) : Type 0 where
  pub zoom : t.z ≤ D
  pub column : t.x < 2 ^ t.z
  pub row : t.y < 2 ^ t.z

pub valid_holder : {D : ℕ} {s t : Tile} → Holds s t → Valid D t → Valid D s
valid_holder {D} {s} {t} h v = record { zoom = omega arith; column = small h.inx v.column; row = small h.iny v.row }
  where
    small : {n m : ℕ} → n / 2 ^ (t.z - s.z) ≡ m → n < 2 ^ t.z → m < 2 ^ s.z
    small {n} {m} e l =
        let k : s.z + (t.z - s.z) ≡ t.z = omega arith in
        subst (λ (i : ℕ). i < 2 ^ s.z) e (shr_lt s.z (t.z - s.z) (rw k l))

-- the root counts as its own parent
pub valid_parent : {D : ℕ} {t : Tile} → Valid D t → Valid D (parent_tile t)
valid_parent {D} {t} v = record { zoom = omega arith; column = half t.z t.x v.column; row = half t.z t.y v.row }
  where
    half : (z n : ℕ) → n < 2 ^ z → n / 2 < 2 ^ (z - 1)
    half zero n h = omega arith
    half (suc z) n h = let e : suc z - 1 ≡ z = omega arith in rw e (omega (arith, pow-suc 2 z))

pub valid_child : {D : ℕ} {p : Tile} (i j : ℕ) → Valid D p → p.z < D → i < 2 → j < 2 → Valid D (child p i j)
valid_child {D} {p} i j v l a b =
    let e : 2 ^ suc p.z ≡ 2 ^ p.z * 2 = pow-suc 2 p.z in
    record { zoom = l; column = omega (arith, v.column); row = omega (arith, v.row) }
