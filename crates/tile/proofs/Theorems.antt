-- What the definitions of this crate come to, in document 01's words, and that the Rust gives the same. Nothing is assumed.
use Rattle.std.specs.Prelude.{◌≡◌, refl, ◌↔◌, Bool, true, false, cond, ◌||◌, ℕ, zero, suc, ◌+◌, ◌-◌, ◌^◌, ◌≤◌, ◌<◌, eqb, leb, None, Some}
use Rattle.std.proofs.Common.{sym, ap, ◌∙◌, le_trans, arith, pow_pos, le-leb, le-ltb, lt-ltb, eq-eqb, ne_eqb}
use Rattle.std.proofs.Math.Decide.{dec_lt}
use Rattle.std.proofs.Math.Pow.{pow-lt}
use Rattle.std.proofs.lemmas.Bool.{lt-leb, eqb-false}
use Rattle.bits.specs.Checked.{stops, returns, read, fits, minus, minus_fits, one_shifted}
use Rattle.constants.specs.Limits.{at_least_29}
use Rattle.errors.specs.Answer.{answer, ◌when◌, ◌else◌}
use Rattle.tile.specs.OnMap.{OnMap, tile_at, no_tile_of, tile_refusal, try_new, on_map_accepted, accepted_on_map}
use Rattle.tile.specs.Order.{Before, tile_order, less_if_before, before_if_less, equal_if_same, same_if_equal}
use Rattle.tile.specs.Steps.{flip_of, stepped, leaves, step_of}
use Rattle.tile.specs.Steps.{up_of, down_of, left_tile_of, right_of, up_left_of, up_right_of, down_left_of, down_right_of}
use Rattle.tile.specs.Rust.{To29, to_29_on_map, accepted, err_is_two, off_is_two}
use Rattle.tile.specs.Rust.{rust_try_new, rust_flipy, rust_flip, rust_cmp, rust_along, rust_step}
use Rattle.tile.specs.Rust.{rust_up, rust_down, rust_left, rust_right, rust_up_left, rust_up_right, rust_down_left, rust_down_right}
use Rattle.tile.specs.declared.Tile.{Tile}
use Rattle.tile.specs.declared.Step.{Step}
use Rattle.tile.specs.declared.Step.TheVariants.{Back, Stay, On}
use Rattle.std.specs.declared.cmp.Ordering.TheVariants.{Less, Equal}

-- "z ≤ 29, x and y below 2^z"; document 02: "The zoom limit of refusal 1 becomes 30". Exactly these are not refused
pub the_tiles_of_the_map : (x y z : ℕ) → tile_refusal x y z ≡ 0 ↔ OnMap x y z
the_tiles_of_the_map x y z = (accepted_on_map x y z, on_map_accepted)

-- "the order of `Tile`'s `cmp`: z, x, y"
pub the_order_is_z_x_y : (s t : Tile) → tile_order s t ≡ Less ↔ Before s t
the_order_is_z_x_y s t = (before_if_less s t, less_if_before)

pub equal_means_the_same_tile : (s t : Tile) → tile_order s t ≡ Equal ↔ s ≡ t
equal_means_the_same_tile s t = (same_if_equal s t, λ e. ap (tile_order s) (sym e) ∙ equal_if_same s)

-- a tile that is flipped twice is the tile
pub flipped_twice : (t : Tile) → OnMap t.x t.y t.z → (flip_of (flip_of t).value).value ≡ t
flipped_twice t m =
    let n : OnMap t.x (2 ^ t.z - 1 - t.y) t.z = record { zoom = m.zoom; column = m.column; row = omega (arith, m.row) } in
    let e : 2 ^ t.z - 1 - (2 ^ t.z - 1 - t.y) ≡ t.y = omega (arith, m.row) in
    rw (on_map_accepted m, on_map_accepted n, e)

abbrev pub opposite : Step → Step
opposite Back = On
opposite Stay = Stay
opposite On = Back

step_taken : (a b : Step) (t : Tile) → OnMap t.x t.y t.z → leaves a t.x (2 ^ t.z) ≡ false → leaves b t.y (2 ^ t.z) ≡ false
    → step_of a b t ≡ record { number = 0; value = tile_at (stepped a t.x) (stepped b t.y) t.z }
step_taken a b t m p q = rw (on_map_accepted m, p, q)

accepted_step : (a b : Step) (t : Tile) → (step_of a b t).number ≡ 0
    → OnMap t.x t.y t.z × (leaves a t.x (2 ^ t.z) ≡ false) × (leaves b t.y (2 ^ t.z) ≡ false)
accepted_step a b t e = pick (tile_refusal t.x t.y t.z) refl (leaves a t.x (2 ^ t.z)) refl (leaves b t.y (2 ^ t.z)) refl e
  where
    pick : (n : ℕ) → tile_refusal t.x t.y t.z ≡ n → (p : Bool) → leaves a t.x (2 ^ t.z) ≡ p → (q : Bool)
        → leaves b t.y (2 ^ t.z) ≡ q
        → (answer (n else 2 when (p || q)) no_tile_of (tile_at (stepped a t.x) (stepped b t.y) t.z)).number ≡ 0
        → OnMap t.x t.y t.z × (leaves a t.x (2 ^ t.z) ≡ false) × (leaves b t.y (2 ^ t.z) ≡ false)
    pick zero i false j false k e = (accepted_on_map t.x t.y t.z i, j, k)
    pick zero i false j true k e = absurd (omega arith)
    pick zero i true j q k e = absurd (omega arith)
    pick (suc n) i p j q k e = absurd (omega arith)

-- along an axis of `end` numbers, a step that does not leave it can be taken back
taken_back : (s : Step) (n end : ℕ) → n < end → leaves s n end ≡ false
    → (stepped s n < end) × (leaves (opposite s) (stepped s n) end ≡ false) × (stepped (opposite s) (stepped s n) ≡ n)
taken_back Back n end h e = let k = eqb-false n 0 e in (omega arith, ne_eqb (n - 1 + 1) end (λ f. omega arith), omega arith)
taken_back Stay n end h e = (h, refl, refl)
taken_back On n end h e = let k = eqb-false (n + 1) end e in (omega arith, ne_eqb (n + 1) 0 (λ f. omega arith), omega arith)

-- a step that is not refused leads to a tile of the map
pub a_step_stays_on_the_map : (a b : Step) (t : Tile) → (step_of a b t).number ≡ 0
    → (s : Tile) × (step_of a b t ≡ record { number = 0; value = s }) × OnMap s.x s.y s.z
a_step_stays_on_the_map a b t e =
    let k = accepted_step a b t e in
    let u = taken_back a t.x (2 ^ t.z) k.0.column k.1 in
    let v = taken_back b t.y (2 ^ t.z) k.0.row k.2 in (
      tile_at (stepped a t.x) (stepped b t.y) t.z,
      step_taken a b t k.0 k.1 k.2,
      record { zoom = k.0.zoom; column = u.0; row = v.0 },
    )

-- and the opposite step leads back: `down` undoes `up`, `right` undoes `left`, and so on
pub a_step_and_back : (a b : Step) (t : Tile) → (step_of a b t).number ≡ 0
    → step_of (opposite a) (opposite b) (step_of a b t).value ≡ record { number = 0; value = t }
a_step_and_back a b t e =
    let k = accepted_step a b t e in
    let u = taken_back a t.x (2 ^ t.z) k.0.column k.1 in
    let v = taken_back b t.y (2 ^ t.z) k.0.row k.2 in
    let s = tile_at (stepped a t.x) (stepped b t.y) t.z in
    let m : OnMap s.x s.y s.z = record { zoom = k.0.zoom; column = u.0; row = v.0 } in
    rw (step_taken a b t k.0 k.1 k.2) (step_taken (opposite a) (opposite b) s m u.1 v.1 ∙ rw (u.2, v.2))

-- The Rust, by the functions of Rust.antt, in 32 bits. To zoom 29 its powers fit them
pub power_fits : {z : ℕ} → z ≤ 29 → 2 ^ z < 2 ^ 32
power_fits h = pow-lt {j = 32} (omega arith)

to_29_refusal : (x y z : ℕ) → z ≤ 29 → tile_refusal x y z ≡ 2 when (leb (2 ^ z) x || leb (2 ^ z) y)
unfolding tile_refusal
to_29_refusal x y z h = rw (le-ltb _ _ (le_trans h at_least_29))

-- `try_new`, whose `Err` is refusal 2 here
pub rust_try_new_lem : (x y z : ℕ) → z ≤ 29 → read err_is_two (rust_try_new x y z) ≡ returns (try_new x y z)
rust_try_new_lem x y z h = rw (fits 32 (2 ^ z) (power_fits h), to_29_refusal x y z h) (pick (leb (2 ^ z) x || leb (2 ^ z) y))
  where
    pick : (b : Bool) → returns (err_is_two (cond b None (Some (tile_at x y z)))) ≡ returns (answer (2 when b) no_tile_of (tile_at x y z))
    pick true = refl
    pick false = refl

-- `flipy` of a row of its zoom, and `flip`
pub rust_flipped_row : (y z : ℕ) → z ≤ 29 → y < 2 ^ z → rust_flipy y z ≡ returns (2 ^ z - 1 - y)
rust_flipped_row y z h l = rw (fits 32 (2 ^ z) (power_fits h), minus_fits (2 ^ z) 1 (pow_pos z), minus_fits (2 ^ z - 1) y (omega arith))

pub rust_flip_lem : (t : Tile) → To29 t.x t.y t.z → read accepted (rust_flip t) ≡ returns (flip_of t)
rust_flip_lem t m =
    let end = 2 ^ t.z in
    let l : end - 1 - t.y < end = omega (arith, m.row) in
    rw (
      rust_flipped_row t.y t.z m.zoom m.row,
      one_shifted 32 t.z (omega (arith, m.zoom)),
      lt-ltb _ _ m.column,
      lt-ltb _ _ l,
      on_map_accepted (to_29_on_map m),
    )

-- `cmp` of any two tiles
pub rust_cmp_lem : (s t : Tile) → rust_cmp s t ≡ tile_order s t
rust_cmp_lem s t = refl

-- along an axis of `end` numbers the Rust stops where a step leaves it below; else it comes to the number that the step leads to,
-- and that is past the end just where the step leaves the axis
data Along (s : Step) (n end : ℕ) : Type 0 where
  stopped : rust_along s n ≡ stops → leaves s n end ≡ true → Along s n end
  came : rust_along s n ≡ returns (stepped s n) → leaves s n end ≡ leb end (stepped s n) → Along s n end

along : (s : Step) (n end : ℕ) → n < end → end < 2 ^ 32 → Along s n end
unfolding minus
along Back zero end h l = stopped refl refl
along Back (suc n) end h l =
    came (minus_fits (suc n) 1 (omega arith)) (ne_eqb (suc n) 0 (λ e. omega arith) ∙ sym (lt-leb end (suc n - 1) (omega arith)))
along Stay n end h l = came refl (sym (lt-leb end n h))
along On n end h l = came (fits 32 (n + 1) (omega arith)) (pick (dec_lt (n + 1) end))
  where
    pick : Dec (n + 1 < end) → eqb (n + 1) end ≡ leb end (n + 1)
    pick (yes k) = ne_eqb (n + 1) end (λ e. omega arith) ∙ sym (lt-leb end (n + 1) k)
    pick (no k) = eq-eqb (n + 1) end (omega arith) ∙ sym (le-leb end (n + 1) (omega arith))

-- each step is refused by 2 just where the Rust stops or leaves the map, and else gives the Rust's tile
rust_step_lem : (a b : Step) (t : Tile) → To29 t.x t.y t.z → off_is_two (rust_step a b t) ≡ step_of a b t
rust_step_lem a b t m = pick (along a t.x (2 ^ t.z) m.column fit) (along b t.y (2 ^ t.z) m.row fit)
  where
    fit : 2 ^ t.z < 2 ^ 32
    fit = power_fits m.zoom

    on : tile_refusal t.x t.y t.z ≡ 0
    on = on_map_accepted (to_29_on_map m)

    off : (p : Bool) → off_is_two stops ≡ answer (2 when (p || true)) no_tile_of (tile_at (stepped a t.x) (stepped b t.y) t.z)
    off true = refl
    off false = refl

    pick : Along a t.x (2 ^ t.z) → Along b t.y (2 ^ t.z) → off_is_two (rust_step a b t) ≡ step_of a b t
    pick (stopped p l) q = rw (p, on, l)
    pick (came p l) (stopped q k) = rw (p, q, on, k) (off (leaves a t.x (2 ^ t.z)))
    pick (came p l) (came q k) = rw (p, q, on, l, k, to_29_refusal (stepped a t.x) (stepped b t.y) t.z m.zoom)

pub rust_up_lem : (t : Tile) → To29 t.x t.y t.z → off_is_two (rust_up t) ≡ up_of t
rust_up_lem t m = rust_step_lem On Stay t m

pub rust_down_lem : (t : Tile) → To29 t.x t.y t.z → off_is_two (rust_down t) ≡ down_of t
rust_down_lem t m = rust_step_lem Back Stay t m

pub rust_left_lem : (t : Tile) → To29 t.x t.y t.z → off_is_two (rust_left t) ≡ left_tile_of t
rust_left_lem t m = rust_step_lem Stay Back t m

pub rust_right_lem : (t : Tile) → To29 t.x t.y t.z → off_is_two (rust_right t) ≡ right_of t
rust_right_lem t m = rust_step_lem Stay On t m

pub rust_up_left_lem : (t : Tile) → To29 t.x t.y t.z → off_is_two (rust_up_left t) ≡ up_left_of t
rust_up_left_lem t m = rust_step_lem On Back t m

pub rust_up_right_lem : (t : Tile) → To29 t.x t.y t.z → off_is_two (rust_up_right t) ≡ up_right_of t
rust_up_right_lem t m = rust_step_lem On On t m

pub rust_down_left_lem : (t : Tile) → To29 t.x t.y t.z → off_is_two (rust_down_left t) ≡ down_left_of t
rust_down_left_lem t m = rust_step_lem Back Back t m

pub rust_down_right_lem : (t : Tile) → To29 t.x t.y t.z → off_is_two (rust_down_right t) ≡ down_right_of t
rust_down_right_lem t m = rust_step_lem Back On t m
