-- Row-major numbers zoom by zoom: where the numbers of a zoom start, that they fit, and the zoom and the place of a number.
use Rattle.std.specs.Prelude.{◌≡◌, refl, Bool, true, false, cond, ℕ, zero, suc, ◌+◌, ◌-◌, ◌*◌, ◌/◌, ◌%◌, ◌^◌, ◌≤◌, ◌<◌, leb}
use Rattle.std.proofs.Common.{sym, ap, ◌∙◌, lt_of_lt_of_le, pow-suc, mul-div_cancel, mod-lt, div-add-mod', div-lt_iff_lt-mul, add-one, arith, pow_pos, pow_mono, pow-add, leb-true, leb-false}
use Rattle.std.proofs.Math.Decide.{dec_le}
use Rattle.std.proofs.Math.Arith.{digits_lt, digits_div, digits_mod}
use Rattle.std.specs.Int.Count.{count_leading_zeros}
use Rattle.std.proofs.lemmas.Nat.{leading_length}
use Rattle.std.proofs.lemmas.Bool.{lt-leb}
use Rattle.constants.specs.Limits.{max_zoom, max_zoom_small}
use Rattle.errors.specs.Answer.{◌when◌}
use Rattle.tile.specs.OnMap.{OnMap, tile_at}
use Rattle.ids.specs.Powers.{four_power, four_side}
use Rattle.ids.specs.Rmid.{level_start, rmid, rmid_limit, zoom_up_to, zoom_of, offset_of, rmid_refusal, rmid_tile}

pub power_start : (z : ℕ) → 4 ^ z ≡ 3 * level_start z + 1
unfolding level_start
power_start zero = refl
power_start (suc z) =
    let n = (4 ^ z - 1) / 3 in
    let e : 4 ^ z ≡ 3 * n + 1 = power_start z in
    let f : 4 ^ z * 4 - 1 ≡ (4 * n + 1) * 3 = omega arith in
    rw (pow-suc 4 z, f, mul-div_cancel (4 * n + 1) three) (omega arith)
  where
    three : 0 < 3
    three = omega arith

pub start_next : (z : ℕ) → level_start (suc z) ≡ level_start z + 4 ^ z
start_next z = let e = power_start z in let f : 4 ^ z * 4 ≡ 3 * level_start (suc z) + 1 = sym (pow-suc 4 z) ∙ power_start (suc z) in
    omega arith

pub start_mono : (a b : ℕ) → a ≤ b → level_start a ≤ level_start b
start_mono a zero h = let e : a ≡ 0 = omega arith in rw e (omega arith)
start_mono a (suc b) h = pick (dec_le a b) (start_mono a b)
  where
    pick : Dec (a ≤ b) → (a ≤ b → level_start a ≤ level_start b) → level_start a ≤ level_start (suc b)
    pick (yes k) f = let i = f k in omega (arith, start_next b)
    pick (no k) f = let e : a ≡ suc b = omega arith in rw e (omega arith)

-- as the code computes it: the number for zoom 31, shifted down
pub start_shifted : (z : ℕ) → z ≤ 31 → level_start 31 / 2 ^ (62 - 2 * z) ≡ level_start z
start_shifted z h =
    let k = 31 - z in
    let d : 62 - 2 * z ≡ 2 * k = omega arith in
    let s : z + k ≡ 31 = omega arith in
    let p : 4 ^ 31 ≡ (3 * level_start z + 1) * 4 ^ k =
    ap (λ (n : ℕ). 4 ^ n) (sym s) ∙ (pow-add 4 z k ∙ ap (λ (n : ℕ). n * 4 ^ k) (power_start z)) in
    let e : level_start 31 ≡ level_start z * 4 ^ k + level_start k = omega (arith, power_start 31, p, power_start k) in
    rw (d, four_side k, e) (digits_div (level_start z) (omega (arith, power_start k)))

-- the numbers of one zoom lie below those of the next
pub rmid_below : (x y z : ℕ) → OnMap x y z → rmid x y z < level_start (suc z)
rmid_below x y z m = omega (arith, start_next z, four_power z, digits_lt m.row m.column)

pub rmid_small : (x y z : ℕ) → OnMap x y z → rmid x y z < rmid_limit
rmid_small x y z m = rw (add-one max_zoom) (lt_of_lt_of_le (rmid_below x y z m) (start_mono (suc z) (suc max_zoom) (omega (arith, m.zoom))))

-- below 2 ^ 62, with room for a zoom more
pub start_small : (z : ℕ) → z ≤ 31 → level_start z < 2 ^ 62
start_small z h =
    let l : 2 ^ z ≤ 2 ^ 31 = pow_mono h in
    omega (arith, start_mono z 31 h, power_start 31)

pub rmid_fits : (x y z : ℕ) → OnMap x y z → rmid x y z < 2 ^ 62
rmid_fits x y z m =
    let l : suc z ≤ 31 = omega (arith, m.zoom, max_zoom_small) in
    omega (arith, rmid_below x y z m, start_small (suc z) l)

pub record InZoom (n z : ℕ) : Type 0 where
  pub from : level_start z ≤ n
  pub below : n < level_start (suc z)

-- a number lies in its zoom, and in no other
pub zoom_holds : (n w : ℕ) → n < level_start (suc w) → InZoom n (zoom_up_to n w) × (zoom_up_to n w ≤ w)
unfolding zoom_up_to level_start
zoom_holds n zero h = (record { from = omega arith; below = h }, omega arith)
zoom_holds n (suc w) h = pick (leb (level_start (suc w)) n) refl (zoom_holds n w)
  where
    pick : (b : Bool) → leb (level_start (suc w)) n ≡ b → (n < level_start (suc w) → InZoom n (zoom_up_to n w) × (zoom_up_to n w ≤ w))
        → InZoom n (cond b (suc w) (zoom_up_to n w)) × (cond b (suc w) (zoom_up_to n w) ≤ suc w)
    pick true e f = (record { from = leb-true _ _ e; below = h }, omega arith)
    pick false e f = let r = f (leb-false _ _ e) in (r.0, omega (arith, r.1))

pub one_zoom : (n y z : ℕ) → InZoom n y → InZoom n z → y ≡ z
one_zoom n y z a b = pick (dec_le y z) (dec_le z y)
  where
    pick : Dec (y ≤ z) → Dec (z ≤ y) → y ≡ z
    pick (yes h) (yes k) = omega arith
    pick (yes h) (no k) = absurd (omega (arith, start_mono (suc y) z (omega arith), a.below, b.from))
    pick (no h) k = absurd (omega (arith, start_mono (suc z) y (omega arith), b.below, a.from))

-- as the code finds it: of a number of zoom z, (3n + 1) / 2 has 2z or 2z + 1 binary digits, and the leading zeros are the rest of 64
pub zoom_by_zeros : (n z : ℕ) → z ≤ 30 → InZoom n z
    → (0 < count_leading_zeros 64 ((3 * n + 1) / 2)) × ((count_leading_zeros 64 ((3 * n + 1) / 2) - 1) / 2 + z ≡ 31)
zoom_by_zeros n z h i =
    let f = from (dec_le (2 * z) digits.0) in
    let b = below (dec_le digits.0 (2 * z + 1)) in
    (omega (arith, digits.1, b), omega (arith, digits.1, f, b))
  where
    four : (w : ℕ) → 2 ^ (2 * w) ≡ 3 * level_start w + 1
    four w = four_side w ∙ power_start w

    fits : (3 * n + 1) / 2 < 2 ^ 64
    fits = omega (arith, i.below, start_small (suc z) (omega arith))

    digits : (m : ℕ) × (count_leading_zeros 64 ((3 * n + 1) / 2) + m ≡ 64) × ((3 * n + 1) / 2 < 2 ^ m) × (2 ^ m ≤ 2 * ((3 * n + 1) / 2) + 1)
    digits = leading_length 64 ((3 * n + 1) / 2) fits

    from : Dec (2 * z ≤ digits.0) → 2 * z ≤ digits.0
    from (yes l) = l
    from (no l) =
        let m = digits.0 in
        let k : 2 ^ suc m ≤ 2 ^ (2 * z) = pow_mono (omega arith) in
        absurd (omega (arith, k, pow-suc 2 m, digits.2, four z, i.from))

    below : Dec (digits.0 ≤ 2 * z + 1) → digits.0 ≤ 2 * z + 1
    below (yes l) = l
    below (no l) =
        let m = digits.0 in
        let k : 2 ^ (2 * suc z) ≤ 2 ^ m = pow_mono (omega arith) in
        absurd (omega (arith, k, digits.3, four (suc z), i.below))

-- the place within a zoom is a column and a row of it
pub offset_in_zoom : (n z : ℕ) → InZoom n z → n - level_start z < 2 ^ z * 2 ^ z
offset_in_zoom n z h = omega (arith, h.from, h.below, start_next z, four_power z)

pub offset_column : (o z : ℕ) → o % 2 ^ z < 2 ^ z
offset_column o z = mod-lt o (pow_pos z)

pub offset_row : (o z : ℕ) → o < 2 ^ z * 2 ^ z → o / 2 ^ z < 2 ^ z
offset_row o z h = (div-lt_iff_lt-mul (pow_pos z)).1 h

-- a number below the limit lies in its zoom, and so does one that is not refused
pub limit_holds : (n : ℕ) → n < rmid_limit → InZoom n (zoom_of n) × (zoom_of n ≤ max_zoom)
limit_holds n h = zoom_holds n max_zoom (rw (add-one max_zoom) at h)

pub rmid_holds : (n : ℕ) → rmid_refusal n ≡ 0 → InZoom n (zoom_of n) × (zoom_of n ≤ max_zoom)
rmid_holds n e = limit_holds n (below (leb rmid_limit n) refl e)
  where
    below : (b : Bool) → leb rmid_limit n ≡ b → 7 when b ≡ 0 → n < rmid_limit
    below true p e = absurd (omega arith)
    below false p e = leb-false _ _ p

-- three times such a number, and one, fits 64 bits
pub thrice_fits : (n : ℕ) → n < rmid_limit → 3 * n + 1 < 2 ^ 63
thrice_fits n h = omega (arith, h, start_mono (max_zoom + 1) 31 (omega (arith, max_zoom_small)), power_start 31)

-- every number is that of the tile that it takes apart to: one that is too great, of a place below the deepest zoom's last row
zoom_starts : (n w : ℕ) → level_start (zoom_up_to n w) ≤ n
unfolding zoom_up_to level_start
zoom_starts n zero = omega arith
zoom_starts n (suc w) = pick (leb (level_start (suc w)) n) refl (zoom_starts n w)
  where
    pick : (b : Bool) → leb (level_start (suc w)) n ≡ b → level_start (zoom_up_to n w) ≤ n → level_start (cond b (suc w) (zoom_up_to n w)) ≤ n
    pick true e f = leb-true _ _ e
    pick false e f = f

pub rmid_again : (n : ℕ) → rmid (rmid_tile n).x (rmid_tile n).y (rmid_tile n).z ≡ n
rmid_again n = omega (arith, div-add-mod' (offset_of n) (2 ^ zoom_of n), zoom_starts n max_zoom)

-- and a tile is the one of its number
pub rmid_tile_again : (x y z : ℕ) → OnMap x y z → rmid_tile (rmid x y z) ≡ tile_at x y z
rmid_tile_again x y z m =
    let n = rmid x y z in
    let h : InZoom n z = record { from = omega arith; below = rmid_below x y z m } in
    let e : zoom_of n ≡ z = one_zoom n (zoom_of n) z (limit_holds n (rmid_small x y z m)).0 h in
    let o : n - level_start z ≡ y * 2 ^ z + x = omega arith in
    rw (e, o, digits_mod y m.column, digits_div y m.column)

-- exactly the numbers of the map's tiles are not refused
pub rmid_accepted : (n : ℕ) → OnMap (rmid_tile n).x (rmid_tile n).y (rmid_tile n).z → rmid_refusal n ≡ 0
rmid_accepted n m = let l : n < rmid_limit = rw (rmid_again n) at (rmid_small _ _ _ m) in rw (lt-leb _ _ l)

pub accepted_rmid : (n : ℕ) → rmid_refusal n ≡ 0 → OnMap (rmid_tile n).x (rmid_tile n).y (rmid_tile n).z
accepted_rmid n e =
    let h = rmid_holds n e in
    let o = offset_of n in
    let z = zoom_of n in
    record { zoom = h.1; column = offset_column o z; row = offset_row o z (offset_in_zoom n z h.0) }
