-- The order of tiles in every list, by this one name: zoom, then column, then row.
use Rattle.std.specs.Prelude.{◌≡◌, refl, ◌⊎◌, ℕ, ◌<◌}
use Rattle.std.specs.Cmp.{nat_cmp_is}
use Rattle.std.specs.Ordering.{nat_cmp, on, then_cmp}
use Rattle.std.proofs.Common.{sym, ap, ◌∙◌, inl, inr, arith}
use Rattle.std.proofs.Math.Decide.{dec_lt}
use Rattle.tile.specs.declared.Tile.{Tile}
use Rattle.std.specs.declared.cmp.Ordering.{Ordering}
use Rattle.std.specs.declared.cmp.Ordering.TheVariants.{Less, Equal, Greater}

-- a tile stands before another
pub data Before (s t : Tile) : Type 0 where
  by_z : s.z < t.z → Before s t
  by_x : s.z ≡ t.z → s.x < t.x → Before s t
  by_y : s.z ≡ t.z → s.x ≡ t.x → s.y < t.y → Before s t

-- the zooms are compared first, then the columns, then the rows
abbrev pub tile_order : Tile → Tile → Ordering
tile_order = then_cmp (on (λ t. t.z) nat_cmp) (then_cmp (on (λ t. t.x) nat_cmp) (on (λ t. t.y) nat_cmp))

below : (a b : ℕ) → a < b → nat_cmp a b ≡ Less
below a b h = sym (nat_cmp_is a b Less h)

above : (a b : ℕ) → b < a → nat_cmp a b ≡ Greater
above a b h = sym (nat_cmp_is a b Greater h)

level : (a b : ℕ) → a ≡ b → nat_cmp a b ≡ Equal
level a b e = sym (nat_cmp_is a b Equal e)

-- of two numbers
compared : (a b : ℕ) → (a < b) ⊎ ((a ≡ b) ⊎ (b < a))
compared a b = pick (dec_lt a b) (dec_lt b a)
  where
    pick : Dec (a < b) → Dec (b < a) → (a < b) ⊎ ((a ≡ b) ⊎ (b < a))
    pick (yes h) k = inl h
    pick (no h) (yes k) = inr (inr k)
    pick (no h) (no k) = inr (inl (omega arith))

pub tile_ext : (s t : Tile) → s.x ≡ t.x → s.y ≡ t.y → s.z ≡ t.z → s ≡ t
tile_ext s t p q r = λ i. record { x = p i; y = q i; z = r i }

-- of two tiles that are not the same, one stands before the other
pub one_before : (s t : Tile) → Before s t ⊎ ((s ≡ t) ⊎ Before t s)
one_before s t = pick (compared s.z t.z) (compared s.x t.x) (compared s.y t.y)
  where
    pick : (s.z < t.z) ⊎ ((s.z ≡ t.z) ⊎ (t.z < s.z)) → (s.x < t.x) ⊎ ((s.x ≡ t.x) ⊎ (t.x < s.x))
        → (s.y < t.y) ⊎ ((s.y ≡ t.y) ⊎ (t.y < s.y)) → Before s t ⊎ ((s ≡ t) ⊎ Before t s)
    pick (inl h) j k = inl (by_z h)
    pick (inr (inr h)) j k = inr (inr (by_z h))
    pick (inr (inl e)) (inl j) k = inl (by_x e j)
    pick (inr (inl e)) (inr (inr j)) k = inr (inr (by_x (sym e) j))
    pick (inr (inl e)) (inr (inl f)) (inl k) = inl (by_y e f k)
    pick (inr (inl e)) (inr (inl f)) (inr (inr k)) = inr (inr (by_y (sym e) (sym f) k))
    pick (inr (inl e)) (inr (inl f)) (inr (inl g)) = inr (inl (tile_ext s t f g e))

pub less_if_before : {s t : Tile} → Before s t → tile_order s t ≡ Less
less_if_before {s} {t} (by_z h) = rw (below _ _ h)
less_if_before {s} {t} (by_x e h) = rw (level _ _ e, below _ _ h)
less_if_before {s} {t} (by_y e f h) = rw (level _ _ e, level _ _ f, below _ _ h)

pub greater_if_after : {s t : Tile} → Before t s → tile_order s t ≡ Greater
greater_if_after {s} {t} (by_z h) = rw (above _ _ h)
greater_if_after {s} {t} (by_x e h) = rw (level _ _ (sym e), above _ _ h)
greater_if_after {s} {t} (by_y e f h) = rw (level _ _ (sym e), level _ _ (sym f), above _ _ h)

pub equal_if_same : (s : Tile) → tile_order s s ≡ Equal
equal_if_same s = rw (level s.z s.z refl, level s.x s.x refl, level s.y s.y refl)

pub before_if_less : (s t : Tile) → tile_order s t ≡ Less → Before s t
before_if_less s t e = pick (one_before s t)
  where
    pick : Before s t ⊎ ((s ≡ t) ⊎ Before t s) → Before s t
    pick (inl b) = b
    pick (inr (inl f)) = let g : tile_order s s ≡ Less = ap (tile_order s) f ∙ e in let z : ◌≡◌ {A = ℕ} 0 1 = cc (equal_if_same s) in
        absurd (omega arith)
    pick (inr (inr b)) = let z : ◌≡◌ {A = ℕ} 0 1 = cc (greater_if_after b) in absurd (omega arith)

pub same_if_equal : (s t : Tile) → tile_order s t ≡ Equal → s ≡ t
same_if_equal s t e = pick (one_before s t)
  where
    pick : Before s t ⊎ ((s ≡ t) ⊎ Before t s) → s ≡ t
    pick (inl b) = let z : ◌≡◌ {A = ℕ} 0 1 = cc (less_if_before b) in absurd (omega arith)
    pick (inr (inl f)) = f
    pick (inr (inr b)) = let z : ◌≡◌ {A = ℕ} 0 1 = cc (greater_if_after b) in absurd (omega arith)
