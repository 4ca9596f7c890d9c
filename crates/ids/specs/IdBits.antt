-- The numbers of `to_id`: which tiles have one, that they fit 64 bits, what they take apart to, and which are refused.
use Rattle.std.specs.Prelude.{◌≡◌, refl, Bool, true, false, not, ℕ, ◌+◌, ◌*◌, ◌/◌, ◌%◌, ◌^◌, ◌≤◌, ◌<◌, eqb, ltb}
use Rattle.std.proofs.Common.{◌∙◌, lt_of_lt_of_le, mul_comm, arith, pow_mono, pow-add, eqb-true, ne_eqb, le-ltb, ltb-false}
use Rattle.std.proofs.Math.Nat.{div-add-mod}
use Rattle.std.proofs.Math.Arith.{digits_lt, digits_div, digits_mod}
use Rattle.constants.specs.Limits.{max_id_zoom, max_zoom_small, ids_to_29}
use Rattle.errors.specs.Answer.{◌when◌, ◌else◌}
use Rattle.tile.specs.OnMap.{OnMap, tile_at, tile_refusal, accepted_on_map, on_map_accepted}
use Rattle.ids.specs.Id.{HasId, id_tile_refusal, id_of, id_tile, id_refusal}
use Rattle.ids.specs.Powers.{double_side}

-- exactly the tiles that have a number are not refused
pub shallow_refusal : (x y z : ℕ) → z ≤ max_id_zoom → id_tile_refusal x y z ≡ tile_refusal x y z
unfolding id_tile_refusal
shallow_refusal x y z h = rw (le-ltb _ _ h)

pub has_id_accepted : {x y z : ℕ} → HasId x y z → id_tile_refusal x y z ≡ 0
has_id_accepted m = shallow_refusal _ _ _ m.zoom ∙ on_map_accepted m.on_map

pub accepted_has_id : (x y z : ℕ) → id_tile_refusal x y z ≡ 0 → HasId x y z
unfolding id_tile_refusal
accepted_has_id x y z e = pick (ltb max_id_zoom z) refl e
  where
    pick : (b : Bool) → ltb max_id_zoom z ≡ b → (1 when b else tile_refusal x y z) ≡ 0 → HasId x y z
    pick true p e = absurd (omega arith)
    pick false p e = record { on_map = accepted_on_map x y z e; zoom = ltb-false _ _ p }

-- a column is below the id's own row length
column_fits : (x z : ℕ) → x < 2 ^ z → x < 2 ^ (z + 1)
column_fits x z h = lt_of_lt_of_le h (pow_mono (omega arith))

-- to zoom 29 a place is below 2 ^ 59
pub offset_below : (x y z : ℕ) → z ≤ 29 → x < 2 ^ z → y < 2 ^ z → 2 ^ (z + 1) * y + x < 2 ^ 59
offset_below x y z h k l =
    let d : z + (z + 1) ≤ 59 = omega arith in
    rw (mul_comm (2 ^ (z + 1)) y) (lt_of_lt_of_le (rw (← pow-add 2 z (z + 1)) at (digits_lt l (column_fits x z k))) (pow_mono d))

pub offset_small : (x y z : ℕ) → HasId x y z → 2 ^ (z + 1) * y + x < 2 ^ 59
offset_small x y z m = offset_below x y z (omega (arith, m.zoom, ids_to_29)) m.on_map.column m.on_map.row

-- a number is that of the tile that it takes apart to
pub id_again : (n : ℕ) → id_of (id_tile n).x (id_tile n).y (id_tile n).z ≡ n
unfolding id_of id_tile
id_again n =
    let p = 2 ^ (n % 32 + 1) in
    let e : p * (n / 32 / p) + n / 32 % p ≡ n / 32 = div-add-mod (n / 32) p in
    rw e (omega arith)

pub tile_again : (x y z : ℕ) → OnMap x y z → id_tile (id_of x y z) ≡ tile_at x y z
unfolding id_of id_tile
tile_again x y z m =
    let p = 2 ^ (z + 1) in
    let c = column_fits x z m.column in
    let l : z < 32 = omega (arith, m.zoom, max_zoom_small) in
    let e : ((p * y + x) * 32 + z) % 32 ≡ z = digits_mod (p * y + x) l in
    let f : ((p * y + x) * 32 + z) / 32 ≡ p * y + x = digits_div (p * y + x) l in
    rw (e, f, mul_comm p y, digits_mod y c, digits_div y c)

pub id_accepted : (n : ℕ) → HasId (id_tile n).x (id_tile n).y (id_tile n).z → id_refusal n ≡ 0
unfolding id_refusal
id_accepted n m = rw (has_id_accepted m)

pub id_refused : (n : ℕ) → (HasId (id_tile n).x (id_tile n).y (id_tile n).z → ⊥) → id_refusal n ≡ 7
unfolding id_refusal
id_refused n h = rw (ne_eqb _ 0 (λ e. h (accepted_has_id _ _ _ e)))

pub accepted_id : (n : ℕ) → id_refusal n ≡ 0 → HasId (id_tile n).x (id_tile n).y (id_tile n).z
unfolding id_refusal
accepted_id n e = pick (eqb (id_tile_refusal (id_tile n).x (id_tile n).y (id_tile n).z) 0) refl e
  where
    pick : (b : Bool) → eqb (id_tile_refusal (id_tile n).x (id_tile n).y (id_tile n).z) 0 ≡ b → 7 when not b ≡ 0
        → HasId (id_tile n).x (id_tile n).y (id_tile n).z
    pick true p e = accepted_has_id _ _ _ (eqb-true _ _ p)
    pick false p e = absurd (omega arith)

-- as the code computes it
pub id_parts : (n : ℕ) → id_tile n ≡ tile_at (n / 32 % (2 * 2 ^ (n % 32))) (n / 32 / (2 * 2 ^ (n % 32))) (n % 32)
unfolding id_tile
id_parts n = rw (double_side (n % 32))
