-- Laws of ancestors, of the first zoom at which something holds, and of masks.
use Rattle.std.specs.Prelude.{◌≡◌, refl, Bool, true, false, cond, not, ℕ, zero, suc, ◌+◌, ◌-◌, ◌*◌, ◌/◌, ◌^◌, ◌≤◌, ◌<◌, leb, eqb}
use Rattle.std.proofs.Common.{sym, ap, ◌∙◌, add-one, arith, shr-shr, le-leb, eqb-true, eq-eqb, ne_eqb}
use Rattle.std.proofs.Math.Decide.{dec_le, dec_lt}
use Rattle.std.specs.Int.Bits.{bit_and}
use Rattle.std.proofs.lemmas.Nat.{shl-shr}
use Rattle.std.proofs.lemmas.Bool.{lt-leb, eqb-false}
use Rattle.bits.specs.Bits.{bit, bit_masked}
use Rattle.tile.specs.OnMap.{OnMap, tile_at, tile_refusal, on_map_accepted}
use Rattle.fns.specs.Fns.{parent_refusal, parent_of, differ, first_zoom}

pub power_half : (z : ℕ) → 0 < z → 2 ^ z ≡ 2 * 2 ^ (z - 1)
power_half zero h = absurd (omega arith)
power_half (suc z) h = let e : suc z - 1 ≡ z = omega arith in rw e (omega arith)

-- the tile above a tile of the map is on the map
pub half_on_map : {x y z : ℕ} → OnMap x y z → 0 < z → OnMap (x / 2) (y / 2) (z - 1)
half_on_map {x} {y} {z} m h =
    let e = power_half z h in
    record { zoom = omega (arith, m.zoom); column = omega (arith, m.column); row = omega (arith, m.row) }

-- one step up, and one step fewer
pub parent_step : {x y z n : ℕ} → OnMap x y z → 0 < z → 0 < n → parent_of (x / 2) (y / 2) (z - 1) (n - 1) ≡ parent_of x y z n
unfolding parent_refusal
parent_step {x} {y} {z} {n} m h k =
    rw (on_map_accepted m, on_map_accepted (half_on_map m h), same, shift x, shift y, level)
  where
    same : leb (z - 1) (n - 1) ≡ leb z n
    same = pick (dec_le z n)
      where
        pick : Dec (z ≤ n) → leb (z - 1) (n - 1) ≡ leb z n
        pick (yes l) = let a : z - 1 ≤ n - 1 = omega arith in rw (le-leb _ _ l, le-leb _ _ a)
        pick (no l) = let a : n - 1 < z - 1 = omega arith in let b : n < z = omega arith in rw (lt-leb _ _ a, lt-leb _ _ b)

    shift : (a : ℕ) → a / 2 / 2 ^ (1 + (n - 1)) ≡ a / 2 ^ (1 + n)
    shift a = let e : 1 + (1 + (n - 1)) ≡ 1 + n = omega arith in shr-shr a 1 (1 + (n - 1)) ∙ ap (λ (i : ℕ). a / 2 ^ i) e

    level : z - 1 - 1 - (n - 1) ≡ z - 1 - n
    level = omega arith

pub parent_accepted : {x y z n : ℕ} → OnMap x y z → n < z → parent_refusal x y z n ≡ 0
unfolding parent_refusal
parent_accepted m h = rw (on_map_accepted m, lt-leb _ _ h)

pub no_parent : (x y n : ℕ) → tile_refusal x y 0 ≡ 0 → parent_refusal x y 0 n ≡ 3
unfolding parent_refusal
no_parent x y n e = rw (e, le-leb 0 n (omega arith))

pub nearest_parent : {x y z : ℕ} → OnMap x y z → 0 < z → parent_of x y z 0 ≡ record { number = 0; value = tile_at (x / 2) (y / 2) (z - 1) }
unfolding parent_refusal
nearest_parent {x} {y} {z} m h = let e : z - 1 - 0 ≡ z - 1 = omega arith in rw (on_map_accepted m, lt-leb _ _ h, e)

-- the first zoom, one at a time
pub first_here : (p : ℕ → Bool) (z zooms : ℕ) → 0 < zooms → p z ≡ true → first_zoom p z zooms ≡ z
unfolding first_zoom
first_here p z zero h e = absurd (omega arith)
first_here p z (suc zooms) h e = rw e

pub first_later : (p : ℕ → Bool) (z zooms : ℕ) → 0 < zooms → p z ≡ false → first_zoom p z zooms ≡ first_zoom p (z + 1) (zooms - 1)
unfolding first_zoom
first_later p z zero h e = absurd (omega arith)
first_later p z (suc zooms) h e = let f : suc zooms - 1 ≡ zooms = omega arith in rw (e, f, add-one z)

-- of the zooms z, z + 1, .. `first` is the first at which p holds, or the one at `end`
pub record First (p : ℕ → Bool) (z end first : ℕ) : Type 0 where
  pub from : z ≤ first
  pub within : first ≤ end
  pub before : (k : ℕ) → z ≤ k → k < first → p k ≡ false
  pub holds : first < end → p first ≡ true

pub first_zoom_lem : (p : ℕ → Bool) (z zooms : ℕ) → First p z (z + zooms) (first_zoom p z zooms)
unfolding first_zoom
first_zoom_lem p z zero =
    record { from = omega arith; within = omega arith; before = λ k h l. absurd (omega arith); holds = λ l. absurd (omega arith) }
first_zoom_lem p z (suc zooms) = pick (p z) refl (first_zoom_lem p (suc z) zooms)
  where
    pick : (b : Bool) → p z ≡ b → First p (suc z) (suc z + zooms) (first_zoom p (suc z) zooms)
        → First p z (z + suc zooms) (cond b z (first_zoom p (suc z) zooms))
    pick true e f = record { from = omega arith; within = omega arith; before = λ k h l. absurd (omega arith); holds = λ l. e }
    pick false e f = record {
      from = omega (arith, f.from);
      within = omega (arith, f.within);
      before = λ k h l. here k h l (dec_lt z k);
      holds = λ l. f.holds (omega arith);
    }
      where
        here : (k : ℕ) → z ≤ k → k < first_zoom p (suc z) zooms → Dec (z < k) → p k ≡ false
        here k h l (yes i) = f.before k i l
        here k h l (no i) = let g : k ≡ z = omega arith in rw g e

-- there is one such zoom only
pub one_first : {p : ℕ → Bool} {z end a b : ℕ} → First p z end a → First p z end b → a ≡ b
one_first {p} {z} {end} {a} {b} f g = pick (dec_lt a b) (dec_lt b a)
  where
    clash : (k : ℕ) → p k ≡ true → p k ≡ false → ⊥
    clash k e h = let n : ◌≡◌ {A = ℕ} 0 1 = cc in omega arith

    pick : Dec (a < b) → Dec (b < a) → a ≡ b
    pick (yes l) k = absurd (clash a (f.holds (omega (arith, g.within))) (g.before a f.from l))
    pick (no l) (yes k) = absurd (clash b (g.holds (omega (arith, f.within))) (f.before b g.from k))
    pick (no l) (no k) = omega arith

-- two bits are the same where they stand at one place
same_scaled : (a b i : ℕ) → eqb (a * 2 ^ i) (b * 2 ^ i) ≡ eqb a b
same_scaled a b i = pick (eqb a b) refl
  where
    pick : (t : Bool) → eqb a b ≡ t → eqb (a * 2 ^ i) (b * 2 ^ i) ≡ t
    pick true e = eq-eqb _ _ (ap (λ (n : ℕ). n * 2 ^ i) (eqb-true _ _ e))
    pick false e = ne_eqb _ _ (λ f. eqb-false _ _ e (sym (shl-shr a i) ∙ (ap (λ (n : ℕ). n / 2 ^ i) f ∙ shl-shr b i)))

-- a mask of one bit tells two numbers apart where that bit does
pub mask_tells_apart : (a b z : ℕ) → not (eqb (bit_and a (2 ^ (32 - (z + 1)))) (bit_and b (2 ^ (32 - (z + 1))))) ≡ differ a b (31 - z)
mask_tells_apart a b z =
    let e : 32 - (z + 1) ≡ 31 - z = omega arith in
    let i = 31 - z in
    rw (e, bit_masked a i, bit_masked b i, same_scaled (bit a i) (bit b i) i)
