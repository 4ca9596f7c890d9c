-- What the definitions of this crate come to, in document 01's words, and that the Rust gives the same. Nothing is assumed.
use Rattle.std.specs.Prelude.{◌≡◌, refl, ◌↔◌, Bool, true, false, cond, not, ◌&&◌, ◌||◌, List, ◌++◌, ℕ, zero, suc, ◌+◌, ◌-◌, ◌*◌, ◌/◌, ◌%◌, ◌^◌, ◌≤◌, ◌<◌, eqb, leb, length, take, get_or, replicate, None, Some}
use Rattle.std.proofs.Common.{sym, ap, ◌∙◌, subst, le_trans, div-one, mod-lt, div-add-mod', arith, length-append, pow_pos, shr-shr, shr_lt, take_at, get_or-take, get_or-append-add, le-leb, le-ltb, lt-ltb, eqb-true, eq-eqb, ne_eqb}
use Rattle.std.proofs.Math.Decide.{dec_lt}
use Rattle.std.proofs.Math.Nat.{add-sub_cancel_left}
use Rattle.std.proofs.lemmas.List.{length-replicate}
use Rattle.std.proofs.lemmas.Bool.{lt-leb}
use Rattle.bits.specs.Bits.{bit}
use Rattle.bits.specs.Checked.{returns, read, fits, minus_fits, one_shifted, shifted_down}
use Rattle.constants.specs.Limits.{max_zoom, max_digits, a_digit_a_zoom, at_least_29}
use Rattle.errors.specs.Laws.{answer_number, answer_none}
use Rattle.quadkey.specs.Key.{digit_at, key_of}
use Rattle.quadkey.specs.Spelling.{key_length_lem, key_digit, key_in_two, key_low}
use Rattle.tile.specs.OnMap.{OnMap, tile_at, no_tile_of, tile_refusal, on_map_accepted, accepted_on_map, off_column, off_row}
use Rattle.tile.specs.Rust.{To29, to_29_on_map, accepted, rust_flipy}
use Rattle.tile.proofs.Theorems.{power_fits, rust_flipped_row}
use Rattle.tile.specs.declared.Tile.{Tile}
use Rattle.fns.specs.Fns.{min_max_of, is_tile, flipy_of, parent_refusal, parent_of, differ, first_zoom, bbox2zoom_of}
use Rattle.fns.specs.Laws.{First, first_zoom_lem, one_first, mask_tells_apart, half_on_map, parent_step, nearest_parent, parent_accepted}
use Rattle.fns.specs.declared.Ancestor.{Ancestor}
use Rattle.fns.specs.Parent.{step_digits, parent_given}
use Rattle.fns.specs.Steps.{accepted_parent, get_d_replicate}
use Rattle.fns.specs.Rust.{rust_minmax, rust_valid, rust_parent, none_is_three, rust_zooms, rust_bbox2zoom}

-- "n is extra steps, not a zoom; the answer has zoom z − 1 − n and x, y shifted by 1 + n"
pub parent_is_the_shift : {x y z n : ℕ} → OnMap x y z → n < z
    → parent_of x y z n ≡ record { number = 0; value = tile_at (x / 2 ^ (1 + n)) (y / 2 ^ (1 + n)) (z - 1 - n) }
unfolding parent_refusal
parent_is_the_shift {x} {y} {z} {n} m h = rw (on_map_accepted m, lt-leb _ _ h)

-- document 03: "n ≥ z is 3 (also at z = 0)"
pub no_such_ancestor : {x y z n : ℕ} → OnMap x y z → z ≤ n → parent_of x y z n ≡ record { number = 3; value = no_tile_of }
unfolding parent_refusal
no_such_ancestor m h = rw (on_map_accepted m, le-leb _ _ h)

-- document 03: "a tile off the map is 2 before that, zoom 30 is 1"; by document 02 it is zoom 31
pub off_the_map_first : (x y z n : ℕ) {k : ℕ} → tile_refusal x y z ≡ suc k → parent_of x y z n ≡ record { number = suc k; value = no_tile_of }
unfolding parent_refusal
off_the_map_first x y z n e = rw e

-- the ancestor is a tile of the map
pub parent_on_map : {x y z n : ℕ} → OnMap x y z → n < z → OnMap (x / 2 ^ (1 + n)) (y / 2 ^ (1 + n)) (z - 1 - n)
parent_on_map {x} {y} {z} {n} m h =
    record {
      zoom = omega (arith, m.zoom);
      column = shr_lt (z - 1 - n) (1 + n) (rw e m.column);
      row =
          shr_lt (z - 1 - n) (1 + n) (rw e m.row);
    }
  where
    e : z - 1 - n + (1 + n) ≡ z
    e = omega arith

-- one extra step more is the parent of the parent
pub parent_of_the_parent : {x y z n : ℕ} → OnMap x y z → suc n < z
    → (t : Tile) × (parent_of x y z n ≡ record { number = 0; value = t }) × (parent_of t.x t.y t.z 0 ≡ parent_of x y z (suc n))
parent_of_the_parent {x} {y} {z} {n} m h =
    let l : n < z = omega arith in
    let p = parent_on_map m l in
    let k : 0 < z - 1 - n = omega arith in
    let e : z - 1 - n - 1 ≡ z - 1 - suc n = omega arith in
    let s : 1 + n + 1 ≡ 1 + suc n = omega arith in
    let far = parent_is_the_shift m h in
    let t = tile_at (x / 2 ^ (1 + n)) (y / 2 ^ (1 + n)) (z - 1 - n) in
    (t, parent_is_the_shift m l, rw (nearest_parent p k, far, shr-shr x (1 + n) 1, shr-shr y (1 + n) 1, e, s))

-- Document 02, request K9. "The tile itself is compared as before": number and tile are those of `parent_of`
pub the_tile_is_as_before : (x y z n : ℕ)
    → record { number = (parent_given x y z n).number; value = (parent_given x y z n).value.tile } ≡ parent_of x y z n
the_tile_is_as_before x y z n = pick (parent_refusal x y z n) refl
  where
    pick : (k : ℕ) → parent_refusal x y z n ≡ k
        → record { number = (parent_given x y z n).number; value = (parent_given x y z n).value.tile } ≡ parent_of x y z n
    pick zero e = rw e
    pick (suc k) e = rw e

-- "the digits of the steps taken, deepest last, as key bytes in room for the longest key, with their count and zeros after them"
pub record Steps (x y z n : ℕ) (a : Ancestor) : Type 0 where
  pub up : a.tile ≡ tile_at (x / 2 ^ (1 + n)) (y / 2 ^ (1 + n)) (z - 1 - n)
  pub steps : a.count ≡ 1 + n
  pub room : length a.digits ≡ max_digits
  pub taken : take a.count a.digits ≡ step_digits x y n
  pub zeros : (i : ℕ) → a.count ≤ i → get_or a.digits i 0 ≡ 0

pub the_steps_taken : (x y z n : ℕ) → (parent_given x y z n).number ≡ 0 → OnMap x y z × (n < z) × Steps x y z n (parent_given x y z n).value
the_steps_taken x y z n e =
    let f : parent_refusal x y z n ≡ 0 = sym (answer_number (parent_refusal x y z n) _ _) ∙ e in
    let a = accepted_parent x y z n f in
    let l : 1 + n ≤ max_digits = omega (arith, a.0.zoom, a.1, a_digit_a_zoom) in
    let k = key_length_lem 48 x y (1 + n) in (
      a.0,
      a.1,
      rw f (record {
        up = refl;
        steps = refl;
        room = rw (length-append, k, length-replicate {A = ℕ} (max_digits - (1 + n)) 0) (omega arith);
        taken = take_at (step_digits x y n) (replicate (max_digits - (1 + n)) 0) (1 + n) k;
        zeros = λ i h. zero_behind (step_digits x y n) (max_digits - (1 + n)) i (rw k h);
      }),
    )
  where
    zero_behind : (l : List ℕ) (m i : ℕ) → length l ≤ i → get_or (l ++ replicate m 0) i 0 ≡ 0
    zero_behind l m i h =
        let g : length l + (i - length l) ≡ i = omega arith in
        rw g at (get_or-append-add l (replicate m 0) (i - length l) 0 ∙ get_d_replicate (i - length l) m)

-- "For every accepted call the ancestor's key followed by those digits is the key of the tile asked about."
pub the_key_goes_on : (x y z n : ℕ) → (parent_given x y z n).number ≡ 0 → let a = (parent_given x y z n).value in
    key_of a.tile.x a.tile.y a.tile.z ++ take a.count a.digits ≡ key_of x y z
the_key_goes_on x y z n e =
    let s = the_steps_taken x y z n e in
    let k : z - 1 - n + (1 + n) ≡ z = omega (arith, s.1) in
    rw (s.2.taken, s.2.up) (sym (rw k at (key_in_two 48 x y (z - 1 - n) (1 + n))))

-- s is the child of p that a key's byte names
pub record ChildBy (byte : ℕ) (s p : Tile) : Type 0 where
  pub zoom : s.z ≡ suc p.z
  pub column : s.x ≡ 2 * p.x + bit (byte - 48) 0
  pub row : s.y ≡ 2 * p.y + bit (byte - 48) 1

-- "by which quadkey digit each step was left": step k goes from the tile k zooms up to the one above it. Its digit is the k-th from the
-- end, counted from 0
pub each_digit_is_the_child_that_was_left : (x y z n k : ℕ) → (parent_given x y z n).number ≡ 0 → k ≤ n
    → ChildBy (get_or (parent_given x y z n).value.digits (n - k) 0)
    (tile_at (x / 2 ^ k) (y / 2 ^ k) (z - k)) (tile_at (x / 2 ^ (1 + k)) (y / 2 ^ (1 + k)) (z - 1 - k))
each_digit_is_the_child_that_was_left x y z n k e h =
    let s = the_steps_taken x y z n e in
    let g : n - k < a.count = rw s.2.steps (omega arith) in
    let b : get_or a.digits (n - k) 0 ≡ 48 + digit_at x y k =
    sym (get_or-take a.count a.digits (n - k) 0 g) ∙ (ap (λ (l : List ℕ). get_or l (n - k) 0) s.2.taken ∙ digit) in
    subst (λ (byte : ℕ). ChildBy byte from above_it) (sym b)
    (record {
      zoom = omega (arith, s.1);
      column = rw (above x, add-sub_cancel_left 48 (digit_at x y k), div-one (digit_at x y k)) (omega arith);
      row = rw (above y, add-sub_cancel_left 48 (digit_at x y k)) (omega arith);
    })
  where
    a : Ancestor
    a = (parent_given x y z n).value

    from : Tile
    from = tile_at (x / 2 ^ k) (y / 2 ^ k) (z - k)

    above_it : Tile
    above_it = tile_at (x / 2 ^ (1 + k)) (y / 2 ^ (1 + k)) (z - 1 - k)

    above : (c : ℕ) → c / 2 ^ (1 + k) ≡ c / 2 ^ k / 2
    above c = let f : 1 + k ≡ k + 1 = omega arith in rw f (sym (shr-shr c k 1))

    digit : get_or (step_digits x y n) (n - k) 0 ≡ 48 + digit_at x y k
    digit = let f : 1 + n - suc (n - k) ≡ k = omega arith in rw f at (key_digit 48 x y (1 + n) (n - k) (omega arith))

-- document 03: "Refused: all zeros."
pub refused_all_zeros : (x y z n : ℕ) {k : ℕ} → (parent_given x y z n).number ≡ suc k
    → (parent_given x y z n).value ≡ record { tile = no_tile_of; digits = replicate max_digits 0; count = 0 }
refused_all_zeros x y z n e =
    let r = parent_refusal x y z n in
    answer_none r _ _ (sym (answer_number r _ _) ∙ e)

-- the digits do not depend on what lies above the ancestor: with any tile above it as the root they are the same
pub the_digits_under_any_root : (x y z n w : ℕ) → OnMap x y z → n < w → w ≤ z
    → ((parent_given (x % 2 ^ w) (y % 2 ^ w) w n).number ≡ 0)
    × ((parent_given (x % 2 ^ w) (y % 2 ^ w) w n).value.digits ≡ (parent_given x y z n).value.digits)
the_digits_under_any_root x y z n w m h l =
    let d : w ≤ max_zoom = omega (arith, m.zoom) in
    let u : OnMap (x % 2 ^ w) (y % 2 ^ w) w = record { zoom = d; column = mod-lt x (pow_pos w); row = mod-lt y (pow_pos w) } in
    let k = key_low 48 (x / 2 ^ w) (y / 2 ^ w) w (x % 2 ^ w) (y % 2 ^ w) (1 + n) (omega arith) in
    let k = rw (div-add-mod' x (2 ^ w), div-add-mod' y (2 ^ w)) at k in
    let g : n < z = omega arith in
    rw (parent_accepted u h, parent_accepted m g, k) (refl, refl)

-- The Rust, by the functions of Rust.antt. The parent of a tile to zoom 29 is one
pub half_to_29 : {x y z : ℕ} → To29 x y z → 0 < z → To29 (x / 2) (y / 2) (z - 1)
half_to_29 m h =
    let u = half_on_map (to_29_on_map m) h in
    record { zoom = omega (arith, m.zoom); column = u.column; row = u.row }

-- one step up, and none above the root
pub rust_nearest : (x y z : ℕ) → To29 x y z → 0 < z → rust_parent x y z 0 ≡ returns (Some (tile_at (x / 2) (y / 2) (z - 1)))
unfolding rust_parent
rust_nearest x y z m l =
    let u = half_to_29 m l in
    rw (
      ne_eqb z 0 (λ e. omega arith),
      shifted_down 32 x 1 (omega arith),
      shifted_down 32 y 1 (omega arith),
      minus_fits z 1 l,
      one_shifted 32 (z - 1) (omega (arith, u.zoom)),
      lt-ltb _ _ u.column,
      lt-ltb _ _ u.row,
    )

pub rust_root : (x y : ℕ) → rust_parent x y 0 0 ≡ returns None
unfolding rust_parent
rust_root x y = refl

-- `parent`, "Compared for n ≤ z"
pub rust_parent_lem : (x y z n : ℕ) → To29 x y z → n ≤ z → read none_is_three (rust_parent x y z n) ≡ returns (parent_of x y z n)
unfolding rust_parent
rust_parent_lem x y zero zero m h = rw (no_such_ancestor (to_29_on_map m) h)
rust_parent_lem x y (suc z) zero m h = let l : 0 < suc z = omega arith in rw (rust_nearest x y (suc z) m l, nearest_parent (to_29_on_map m) l)
rust_parent_lem x y z (suc n) m h =
    let l : 0 < z = omega arith in
    let e : suc n - 1 ≡ n = omega arith in
    let s = rw e at (parent_step {n = suc n} (to_29_on_map m) l (omega arith)) in
    rw (shifted_down 32 x 1 (omega arith), shifted_down 32 y 1 (omega arith), minus_fits z 1 l)
    (rust_parent_lem (x / 2) (y / 2) (z - 1) n (half_to_29 m l) (omega arith) ∙ ap returns s)

-- `valid` is true exactly for a tile of the map
pub valid_means_on_the_map : (x y z : ℕ) → is_tile x y z ≡ true ↔ OnMap x y z
valid_means_on_the_map x y z = (λ e. accepted_on_map x y z (eqb-true _ _ e), λ m. eq-eqb _ _ (on_map_accepted m))

last_column : (z : ℕ) → z ≤ 29 → rust_minmax z ≡ returns (record { min = 0; max = 2 ^ z - 1 })
last_column z h = rw (fits 32 (2 ^ z) (power_fits h), minus_fits (2 ^ z) 1 (pow_pos z))

-- `minmax`, and `valid` of any column and row
pub rust_minmax_lem : (z : ℕ) → z ≤ 29 → read accepted (rust_minmax z) ≡ returns (min_max_of z)
rust_minmax_lem z h = rw (last_column z h, le-ltb _ _ (le_trans h at_least_29))

pub rust_valid_lem : (x y z : ℕ) → z ≤ 29 → rust_valid x y z ≡ returns (is_tile x y z)
rust_valid_lem x y z h =
    rw (last_column z h, le-leb 0 x (omega arith), le-leb 0 y (omega arith)) (ap returns (pick (dec_lt x (2 ^ z)) (dec_lt y (2 ^ z))))
  where
    d : z ≤ max_zoom
    d = le_trans h at_least_29

    pick : Dec (x < 2 ^ z) → Dec (y < 2 ^ z) → (true && leb x (2 ^ z - 1) && true && leb y (2 ^ z - 1)) ≡ is_tile x y z
    pick (yes a) (yes b) =
        let m : OnMap x y z = record { zoom = d; column = a; row = b } in
        let c : x ≤ 2 ^ z - 1 = omega arith in
        let r : y ≤ 2 ^ z - 1 = omega arith in
        rw (le-leb _ _ c, le-leb _ _ r, on_map_accepted m)
    pick (yes a) (no b) =
        let c : x ≤ 2 ^ z - 1 = omega arith in
        let r : 2 ^ z - 1 < y = omega (arith, pow_pos z) in
        let e : 2 ^ z ≤ y = omega arith in
        rw (le-leb _ _ c, lt-leb _ _ r, off_row {x = x} {y = y} {z = z} d a e)
    pick (no a) b =
        let c : 2 ^ z - 1 < x = omega (arith, pow_pos z) in
        let e : 2 ^ z ≤ x = omega arith in
        rw (lt-leb _ _ c, off_column {x = x} {z = z} y d e)

-- `flipy` of a row of the zoom; `yflip` calls it
pub rust_flipy_lem : (y z : ℕ) → z ≤ 29 → y < 2 ^ z → read accepted (rust_flipy y z) ≡ returns (flipy_of y z)
rust_flipy_lem y z h l = rw (rust_flipped_row y z h l, le-ltb _ _ (le_trans h at_least_29), lt-leb _ _ l)

-- the lowest and the highest column of a zoom: the columns, and the rows, are those from `min` to `max`
pub minmax_are_the_ends : (z : ℕ) → z ≤ max_zoom
    → ((min_max_of z).number ≡ 0) × ((x : ℕ) → x < 2 ^ z ↔ ((min_max_of z).value.min ≤ x) × (x ≤ (min_max_of z).value.max))
minmax_are_the_ends z h = rw (le-ltb _ _ h) (refl, λ x. (λ l. (omega arith, omega arith), λ k. omega (arith, k.1, pow_pos z)))

-- a row that is flipped twice is the row
pub row_flipped_twice : (y z : ℕ) → z ≤ max_zoom → y < 2 ^ z
    → (f : ℕ) × (flipy_of y z ≡ record { number = 0; value = f }) × (f < 2 ^ z) × (flipy_of f z ≡ record { number = 0; value = y })
row_flipped_twice y z h l =
    let f = 2 ^ z - 1 - y in
    let k : f < 2 ^ z = omega arith in
    let e : 2 ^ z - 1 - f ≡ y = omega arith in
    (f, rw (le-ltb _ _ h, lt-leb _ _ l), k, rw (le-ltb _ _ h, lt-leb _ _ k, e))

-- columns and rows agree at the bit that stands for zoom k, counted from the top
pub record AgreeAt (west south east north k : ℕ) : Type 0 where
  pub columns : bit west (31 - k) ≡ bit east (31 - k)
  pub rows : bit south (31 - k) ≡ bit north (31 - k)

-- z is the first zoom below 28 at which they do not agree, or 28
pub record PartAt (west south east north z : ℕ) : Type 0 where
  pub most : z ≤ 28
  pub above : (k : ℕ) → k < z → AgreeAt west south east north k
  pub here : z < 28 → AgreeAt west south east north z → ⊥

module _ (west south east north : ℕ) where
  abbrev test : ℕ → Bool
  test k = differ west east (31 - k) || differ south north (31 - k)

  agree : (k : ℕ) → test k ≡ false ↔ AgreeAt west south east north k
  agree k = (λ e. split _ refl _ refl e, λ a. rw (eq-eqb _ _ a.columns, eq-eqb _ _ a.rows))
    where
      split : (p : Bool) → eqb (bit west (31 - k)) (bit east (31 - k)) ≡ p → (q : Bool) → eqb (bit south (31 - k)) (bit north (31 - k)) ≡ q
          → (not p || not q) ≡ false → AgreeAt west south east north k
      split true a true b e = record { columns = eqb-true _ _ a; rows = eqb-true _ _ b }
      split true a false b e = let n : ◌≡◌ {A = ℕ} 0 1 = cc in absurd (omega arith)
      split false a q b e = let n : ◌≡◌ {A = ℕ} 0 1 = cc in absurd (omega arith)

  to_part : (z : ℕ) → First test 0 28 z → PartAt west south east north z
  to_part z f = record {
    most = f.within;
    above = λ k l. (agree k).0 (f.before k (omega arith) l);
    here = λ l a. let e = (agree z).1 a in let g = f.holds l in let n : ◌≡◌ {A = ℕ} 0 1 = cc in omega arith;
  }

  from_part : (z : ℕ) → PartAt west south east north z → First test 0 28 z
  from_part z a = record
      { from = omega arith; within = a.most; before = λ k h l. (agree k).1 (a.above k l); holds = λ l. told (test z) refl l }
    where
      told : (b : Bool) → test z ≡ b → z < 28 → b ≡ true
      told true e l = refl
      told false e l = absurd (a.here l ((agree z).0 e))

  -- "the first bit from the top, counted from 0, where west/east or south/north differ, at most 28"
  pub bbox2zoom_is_where_they_part : (z : ℕ) → bbox2zoom_of west south east north ≡ z ↔ PartAt west south east north z
  bbox2zoom_is_where_they_part z =
      let f = first_zoom_lem test 0 28 in (
        λ e. rw e at (to_part _ f),
        λ a. one_first f (from_part z a),
      )

-- the Rust's `bbox2zoom`, with its masks: "any 32-bit values", and in fact any numbers
zooms_first : (west south east north turns z : ℕ) → z + turns ≡ 28
    → rust_zooms west south east north turns z ≡ returns (first_zoom (λ z. differ west east (31 - z) || differ south north (31 - z)) z turns)
unfolding rust_zooms first_zoom
zooms_first west south east north zero z e = let f : 28 ≡ z = omega arith in ap returns f
zooms_first west south east north (suc turns) z e =
    rw (
      fits 8 (z + 1) (omega arith),
      minus_fits 32 (z + 1) (omega arith),
      one_shifted 32 (32 - (z + 1)) (omega arith),
      mask_tells_apart west east z,
      mask_tells_apart south north z,
      zooms_first west south east north turns (suc z) (omega arith),
    ) (pick (differ west east (31 - z) || differ south north (31 - z)) _)
  where
    pick : (b : Bool) (n : ℕ) → cond b (returns z) (returns n) ≡ returns (cond b z n)
    pick true n = refl
    pick false n = refl

pub rust_bbox2zoom_lem : (west south east north : ℕ) → rust_bbox2zoom west south east north ≡ returns (bbox2zoom_of west south east north)
rust_bbox2zoom_lem west south east north = zooms_first west south east north 28 0 refl
