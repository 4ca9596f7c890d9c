-- What the definitions of this crate come to, in document 01's words, and that the Rust gives the same. Nothing is assumed.
use Rattle.std.specs.Prelude.{◌≡◌, refl, ◌↔◌, cond, ℕ, zero, suc, ◌+◌, ◌-◌, ◌*◌, ◌/◌, ◌%◌, ◌^◌, ◌≤◌, ◌<◌, ltb}
use Rattle.std.proofs.Common.{sym, ap, ◌∙◌, mod-eq_of_lt, div-add-mod', lt_of_lt_of_le, mul-div_cancel, add-one, arith, pow_pos, pow_mono, lt-ltb, le-ltb, ne_eqb}
use Rattle.std.proofs.Math.Decide.{dec_lt}
use Rattle.std.proofs.Math.Pow.{pow-lt}
use Rattle.std.proofs.lemmas.Bool.{lt-leb}
use Rattle.bits.specs.Checked.{Run, stops, returns, ◌then◌, read, within, plus, minus, shift_up, fits, minus_fits, one_shifted}
use Rattle.constants.specs.Limits.{max_zoom, max_id_zoom, at_least_29, ids_to_29}
use Rattle.tile.specs.OnMap.{OnMap, tile_at, no_tile_of, on_map_accepted}
use Rattle.tile.specs.Rust.{To29, to_29_on_map, accepted}
use Rattle.tile.specs.declared.Tile.{Tile}
use Rattle.ids.specs.Entry.{entry_of, entry_tile, entry_refusal, entry_tile_of}
use Rattle.ids.specs.Id.{HasId, id_tile_refusal, id_of, id_tile, id_refusal, to_id_of, from_id_of}
use Rattle.ids.specs.IdBits.{has_id_accepted, offset_below, offset_small, id_parts, id_again, tile_again}
use Rattle.ids.specs.IdBits.{id_accepted, id_refused, accepted_id}
use Rattle.ids.specs.Levels.{InZoom, power_start, start_next, start_mono, start_small, rmid_small, rmid_fits}
use Rattle.ids.specs.Levels.{zoom_holds, one_zoom, offset_in_zoom, offset_column, offset_row}
use Rattle.ids.specs.Levels.{rmid_again, rmid_tile_again, accepted_rmid}
use Rattle.ids.specs.Powers.{double_side, four_power}
use Rattle.ids.specs.Rmid.{level_start, rmid, rmid_limit, rmid_refusal, zoom_up_to, zoom_of, offset_of, rmid_tile}
use Rattle.ids.specs.Rmid.{to_rmid_of, offset_zoom_of, from_rmid_of}
use Rattle.ids.specs.Rust.{rust_to_id, rust_from_id, rust_xyz2rmid, rust_loop, rust_offset_zoom, rust_tile_at, rust_rmid2xyz}
use Rattle.ids.specs.declared.OffsetZoom.{OffsetZoom}

-- a number of `to_id`
pub IsId : ℕ → Type 0
IsId n = (t : Tile) × HasId t.x t.y t.z × (id_of t.x t.y t.z ≡ n)

-- "`from_id` accepts exactly these numbers"
pub exactly_the_ids_are_accepted : (n : ℕ) → id_refusal n ≡ 0 ↔ IsId n
unfolding IsId
exactly_the_ids_are_accepted n = (λ e. (id_tile n, accepted_id n e, id_again n), λ s. back s.0 s.1 s.2)
  where
    back : (t : Tile) → HasId t.x t.y t.z → id_of t.x t.y t.z ≡ n → id_refusal n ≡ 0
    back t m e = let f : id_tile n ≡ t = ap id_tile (sym e) ∙ tile_again t.x t.y t.z m.on_map in id_accepted n (rw f m)

-- each number leads back to its tile
pub id_leads_back : (x y z : ℕ) → HasId x y z → from_id_of (id_of x y z) ≡ record { number = 0; value = tile_at x y z }
id_leads_back x y z m =
    let f = tile_again x y z m.on_map in
    rw (id_accepted (id_of x y z) (rw f m), f)

-- document 02: "`to_id` doesn't fit 64 bits there": below its deepest zoom the last tile's number would not, and to it each does
pub ids_fit : (x y z : ℕ) → HasId x y z → id_of x y z < 2 ^ 64
unfolding id_of
ids_fit x y z m = omega (arith, offset_small x y z m, m.zoom, ids_to_29)

pub deeper_ids_do_not_fit : let z = max_id_zoom + 1 in 2 ^ 64 ≤ id_of (2 ^ z - 1) (2 ^ z - 1) z
unfolding id_of max_id_zoom
deeper_ids_do_not_fit = omega arith

-- "`to_id` and `from_id`, which refuse zoom 30 by 1 and 7"
pub to_id_refuses_30 : (x y : ℕ) → to_id_of x y 30 ≡ record { number = 1; value = 0 }
unfolding id_tile_refusal max_id_zoom
to_id_refuses_30 x y = refl

pub from_id_refuses_30 : (n : ℕ) → n % 32 ≡ 30 → from_id_of n ≡ record { number = 7; value = no_tile_of }
unfolding id_tile max_id_zoom
from_id_refuses_30 n e = rw (id_refused n (λ m. omega (arith, m.zoom)))

-- "number limits move to (4^31 − 1)/3"
pub the_limit : rmid_limit ≡ 1537228672809129301
unfolding level_start max_zoom
the_limit = refl

pub rmid_leads_back : (x y z : ℕ) → OnMap x y z → from_rmid_of (rmid x y z) ≡ record { number = 0; value = tile_at x y z }
rmid_leads_back x y z m =
    let e : rmid_refusal (rmid x y z) ≡ 0 = rw (lt-leb _ _ (rmid_small x y z m)) in
    rw (e, rmid_tile_again x y z m)

-- a number below the limit is that of the tile that it leads to
pub rmid_of_the_tile : (n : ℕ) → rmid_refusal n ≡ 0
    → (t : Tile) × OnMap t.x t.y t.z × (rmid t.x t.y t.z ≡ n) × (from_rmid_of n ≡ record { number = 0; value = t })
rmid_of_the_tile n e = (rmid_tile n, accepted_rmid n e, rmid_again n, rw e)

-- document 02: "list entries become `xyz2rmid` numbers throughout"
pub an_entry_is_the_rmid : (x y z : ℕ) → entry_of x y z ≡ rmid x y z
unfolding entry_of
an_entry_is_the_rmid x y z = refl

pub an_entry_leads_to_its_tile : (n : ℕ) → entry_tile_of n ≡ from_rmid_of n
unfolding entry_tile entry_refusal
an_entry_leads_to_its_tile n = refl

-- The Rust, by the functions of Rust.antt, in 64 bits: `to_id`
pub rust_to_id_lem : (x y z : ℕ) → To29 x y z → read accepted (rust_to_id x y z) ≡ returns (to_id_of x y z)
unfolding id_of
rust_to_id_lem x y z m =
    let p = 2 ^ (z + 1) in
    let s = offset_below x y z m.zoom m.column m.row in
    let d : 2 * 2 ^ z ≡ p = double_side z in
    let b : p < 2 ^ 64 = pow-lt {j = 64} (omega (arith, m.zoom)) in
    rw (
      one_shifted 64 z (omega (arith, m.zoom)),
      d,
      fits 64 p b,
      fits 64 (p * y) (omega arith),
      fits 64 (p * y + x) (omega arith),
      fits 64 ((p * y + x) * 32) (omega arith),
      fits 64 ((p * y + x) * 32 + z) (omega (arith, m.zoom)),
      has_id_accepted (record { on_map = to_29_on_map m; zoom = omega (arith, m.zoom, ids_to_29) }),
    )

-- `from_id`, on the numbers that are accepted
pub rust_from_id_lem : (n : ℕ) → id_refusal n ≡ 0 → read accepted (rust_from_id n) ≡ returns (from_id_of n)
rust_from_id_lem n e =
    let z = n % 32 in
    let p = n / 32 in
    let d = 2 * 2 ^ z in
    let has : HasId (p % d) (p / d) z = rw (id_parts n) at (accepted_id n e) in
    let m = has.on_map in
    let l : z ≤ 29 = omega (arith, has.zoom, ids_to_29) in
    let side : 2 ^ z ≤ 2 ^ 29 = pow_mono {j = 29} l in
    let pos : 0 < d = omega (arith, pow_pos z) in
    let a : (n - z) / 32 ≡ p = omega arith in
    let b : p - p % d ≡ p / d * d = omega (arith, div-add-mod' p d) in
    let c : z % 2 ^ 8 ≡ z = mod-eq_of_lt (omega arith) in
    let r : p / d < 2 ^ 32 = omega (arith, m.row) in
    rw (
      c,
      one_shifted 64 z (omega arith),
      fits 64 d (omega arith),
      minus_fits n z (omega arith),
      a,
      fits 32 (p % d) (omega (arith, m.column)),
      minus_fits p (p % d) (omega (arith, div-add-mod' p d)),
      b,
      mul-div_cancel (p / d) pos,
      mod-eq_of_lt r,
      one_shifted 32 z (omega arith),
      lt-ltb _ _ m.column,
      lt-ltb _ _ m.row,
      e,
      id_parts n,
    )

-- `xyz2rmid`
pub rust_xyz2rmid_lem : (x y z : ℕ) → To29 x y z → read accepted (rust_xyz2rmid x y z) ≡ returns (to_rmid_of x y z)
unfolding level_start
rust_xyz2rmid_lem x y zero m =
    let c : x < 1 = m.column in
    let r : y < 1 = m.row in
    let e : 0 + x + y * 1 ≡ x + y * 1 = omega arith in
    rw (fits 64 1 (omega arith), fits 64 (y * 1) (omega arith), fits 64 (x + y * 1) (omega arith), on_map_accepted (to_29_on_map m), e)
rust_xyz2rmid_lem x y (suc z) m =
    let w = suc z in
    let l = rmid_fits x y w (to_29_on_map m) in
    let d = start_small (suc w) (omega (arith, m.zoom)) in
    let k : 4 ^ w < 2 ^ 62 = omega (arith, d, start_next w) in
    let f : 2 ^ w < 2 ^ 64 = pow-lt {j = 64} (omega (arith, m.zoom)) in
    rw (
      ne_eqb w 0 (λ e. omega arith),
      fits 64 (4 ^ w) (omega arith),
      minus_fits (4 ^ w) 1 (omega (arith, power_start w)),
      fits 64 (level_start w + x) (omega arith),
      fits 64 (2 ^ w) f,
      fits 64 (y * 2 ^ w) (omega arith),
      fits 64 (level_start w + x + y * 2 ^ w) (omega arith),
      on_map_accepted (to_29_on_map m),
    )

-- "below 384307168202282325": such a number is accepted, and lies in a zoom to 29
in_zoom_29 : (n : ℕ) → n < 384307168202282325 → (rmid_refusal n ≡ 0) × InZoom n (zoom_of n) × (zoom_of n ≤ 29)
unfolding level_start
in_zoom_29 n h =
    let k : n < level_start 30 = h in
    let l : n < level_start (suc max_zoom) = lt_of_lt_of_le k (start_mono 30 (suc max_zoom) (omega (arith, at_least_29))) in
    let r : n < rmid_limit = rw (add-one max_zoom) l in
    let a = zoom_holds n max_zoom l in
    let b = zoom_holds n 29 k in
    let e : zoom_of n ≡ zoom_up_to n 29 = one_zoom n (zoom_of n) (zoom_up_to n 29) a.0 b.0 in
    (rw (lt-leb _ _ r), a.0, rw e b.1)

-- the Rust's loop finds the zoom that holds the number, and the place in it
loop_finds : (turns i z w : ℕ) → InZoom i w → w ≤ 29 → z ≤ w → w < z + turns
    → rust_loop turns i (level_start z) z ≡ returns (record { offset = i - level_start w; zoom = w })
unfolding rust_loop
loop_finds zero i z w h d l k = absurd (omega arith)
loop_finds (suc turns) i z w h d l k =
    rw (
      one_shifted 64 z (omega arith),
      fits 64 (2 ^ z * 2 ^ z) (omega (arith, small)),
      sum,
      fits 64 (level_start (suc z)) (omega (arith, small, sum)),
    ) (pick (dec_lt i (level_start (suc z))) (loop_finds turns i (suc z) w h d))
  where
    sum : level_start z + 2 ^ z * 2 ^ z ≡ level_start (suc z)
    sum = sym (start_next z ∙ ap (λ (n : ℕ). level_start z + n) (four_power z))

    small : level_start z + 2 ^ z * 2 ^ z < 2 ^ 62
    small = rw sum (start_small (suc z) (omega arith))

    deeper : (i < level_start (suc z) → ⊥) → Dec (z < w) → z < w
    deeper m (yes j) = j
    deeper m (no j) = let e : z ≡ w = omega arith in absurd (m (rw e h.below))

    Found : Run OffsetZoom → Type 0
    Found r = r ≡ returns (record { offset = i - level_start w; zoom = w })

    here : Run OffsetZoom
    here = minus i (level_start z) then λ o. returns (record { offset = o; zoom = z })

    on : Run OffsetZoom
    on = plus 8 z 1 then λ deep. rust_loop turns i (level_start (suc z)) deep

    pick : Dec (i < level_start (suc z)) → (suc z ≤ w → w < suc z + turns → Found (rust_loop turns i (level_start (suc z)) (suc z)))
        → Found (cond (ltb i (level_start (suc z))) here on)
    pick (yes m) f =
        let from : level_start z ≤ i = omega (arith, start_mono z w l, h.from) in
        let e : z ≡ w = one_zoom i z w (record { from = from; below = m }) h in
        rw (lt-ltb _ _ m, minus_fits i (level_start z) from, e)
    pick (no m) f =
        let b : level_start (suc z) ≤ i = omega arith in
        let n : z < w = deeper m (dec_lt z w) in
        rw (le-ltb _ _ b, fits 8 (z + 1) (omega arith), add-one z) (f n (omega arith))

-- the bound on the turns leaves nothing out: in the turn for zoom 32, the 33rd, the count of tiles does not fit 64 bits
pub rust_loop_stops : (turns i acc : ℕ) → rust_loop turns i acc 32 ≡ stops
unfolding rust_loop within shift_up
rust_loop_stops zero i acc = refl
rust_loop_stops (suc turns) i acc = refl

-- its answer for 0, given before the loop, is the loop's
by_the_loop : (n : ℕ) → rust_offset_zoom n ≡ rust_loop 33 n 0 0
unfolding rust_loop within minus shift_up
by_the_loop zero = refl
by_the_loop (suc n) = rw (ne_eqb (suc n) 0 (λ e. omega arith))

offset_found : (n : ℕ) → n < 384307168202282325 → rust_offset_zoom n ≡ returns (record { offset = offset_of n; zoom = zoom_of n })
unfolding level_start
offset_found n h = let a = in_zoom_29 n h in by_the_loop n ∙ loop_finds 33 n 0 (zoom_of n) a.1 a.2 (omega arith) (omega (arith, a.2))

-- and so for `rmid2xyz`
from_the_offset : (n : ℕ) → rust_rmid2xyz n ≡ rust_offset_zoom n then rust_tile_at
unfolding within
from_the_offset zero = refl
from_the_offset (suc n) = rw (ne_eqb (suc n) 0 (λ e. omega arith))

-- `int_2_offset_zoom` and `rmid2xyz`
pub rust_offset_zoom_lem : (n : ℕ) → n < 384307168202282325 → read accepted (rust_offset_zoom n) ≡ returns (offset_zoom_of n)
rust_offset_zoom_lem n h = rw (offset_found n h, (in_zoom_29 n h).0)

pub rust_rmid2xyz_lem : (n : ℕ) → n < 384307168202282325 → read accepted (rust_rmid2xyz n) ≡ returns (from_rmid_of n)
rust_rmid2xyz_lem n h =
    let a = in_zoom_29 n h in
    let z = zoom_of n in
    let o = offset_of n in
    let side : 2 ^ z ≤ 2 ^ 29 = pow_mono {j = 29} a.2 in
    let c : o % 2 ^ z < 2 ^ 32 = omega (arith, offset_column o z) in
    let r : o / 2 ^ z < 2 ^ 32 = omega (arith, offset_row o z (offset_in_zoom n z a.1)) in
    rw (from_the_offset n, offset_found n h, fits 64 (2 ^ z) (omega arith), mod-eq_of_lt c, mod-eq_of_lt r, a.0)
