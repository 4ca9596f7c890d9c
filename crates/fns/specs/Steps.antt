-- What `parent` writes to lent places, one step up after the other.
use Rattle.std.specs.Prelude.{◌≡◌, refl, Bool, true, false, ◌||◌, List, ◌∷◌, ◌++◌, ℕ, zero, suc, ◌+◌, ◌-◌, ◌/◌, ◌^◌, ◌≤◌, ◌<◌, leb, ltb, length, take, drop, get_or, set, replicate}
use Rattle.std.proofs.Common.{sym, ap, ◌∙◌, append_assoc, add-one, arith, drop_at, length-take-le, le-leb, leb-false}
use Rattle.std.proofs.lemmas.List.{set_split}
use Rattle.constants.specs.Limits.{max_zoom, max_digits}
use Rattle.errors.specs.Answer.{Lent, number_of, ◌when◌, ◌else◌}
use Rattle.errors.specs.Cases.{refused_as}
use Rattle.errors.specs.Laws.{else_zero, refused_answer}
use Rattle.errors.specs.declared.Refusal.{Refusal}
use Rattle.quadkey.specs.Key.{digit_at, key_from, key_of}
use Rattle.quadkey.specs.Spelling.{key_length_lem, key_in_two}
use Rattle.tile.specs.OnMap.{OnMap, tile_at, no_tile_of, tile_refusal, on_map_accepted, accepted_on_map}
use Rattle.tile.specs.declared.Tile.{Tile}
use Rattle.fns.specs.Fns.{parent_refusal, parent_of}
use Rattle.fns.specs.Laws.{half_on_map, parent_step, parent_accepted, nearest_parent}
use Rattle.fns.specs.Parent.{no_ancestor, step_digits, parent_given, ancestor_lent, parent_written}

pub written_refused : (x y z n : ℕ) (t : Tile) (room : List ℕ) {k : ℕ} → parent_refusal x y z n ≡ suc k
    → ancestor_lent (suc k) t room ≡ parent_written x y z n t room
written_refused x y z n t room e = rw e

-- a tile that is refused is refused first
pub refused_first : (x y z n : ℕ) (t : Tile) (room : List ℕ) (k : ℕ) → tile_refusal x y z ≡ k → (k ≡ 0 → ⊥)
    → ancestor_lent k t room ≡ parent_written x y z n t room
unfolding parent_refusal
refused_first x y z n t room zero e h = absurd (h refl)
refused_first x y z n t room (suc k) e h = rw e

-- there is no ancestor so far up
pub parent_refused : {x y z n : ℕ} → OnMap x y z → z ≤ n → parent_refusal x y z n ≡ 3
unfolding parent_refusal
parent_refused m h = rw (on_map_accepted m, le-leb _ _ h)

pub written_accepted : {x y z n : ℕ} (t : Tile) (room : List ℕ) → OnMap x y z → n < z
    → parent_written x y z n t room ≡ ancestor_lent 0 (parent_of x y z n).value (step_digits x y n ++ drop (1 + n) room)
written_accepted {x} {y} {z} {n} t room m h = rw (parent_accepted m h, key_length_lem 48 x y (1 + n))

-- what stands from a place on, once that place is written
pub drop_set : (room : List ℕ) (n d : ℕ) → n < length room → drop n (set room n d) ≡ d ∷ drop (suc n) room
drop_set room n d h = rw (set_split room n d h) (drop_at (take n room) (d ∷ drop (suc n) room) n (length-take-le n room (omega arith)))

pub drop_replicate : (k m : ℕ) → drop k (replicate {A = ℕ} m 0) ≡ replicate (m - k) 0
drop_replicate zero m = let e : m - 0 ≡ m = omega arith in rw e
drop_replicate (suc k) zero = let e : 0 - suc k ≡ 0 = omega arith in rw e
drop_replicate (suc k) (suc m) = let e : suc m - suc k ≡ m - k = omega arith in rw e (drop_replicate k m)

pub get_d_replicate : (i m : ℕ) → get_or (replicate {A = ℕ} m 0) i 0 ≡ 0
get_d_replicate i zero = refl
get_d_replicate zero (suc m) = refl
get_d_replicate (suc i) (suc m) = get_d_replicate i m

-- the last step
pub written_last : {x y z : ℕ} (t : Tile) (room : List ℕ) → OnMap x y z → 0 < z → 0 < length room
    → ancestor_lent 0 (tile_at (x / 2) (y / 2) (z - 1)) (set room 0 (48 + digit_at x y 0)) ≡ parent_written x y z 0 t room
unfolding key_from
written_last {x} {y} {z} t room m h l =
    rw (written_accepted {n = 0} t room m h, nearest_parent m h, set_split room 0 (48 + digit_at x y 0) l)

-- one step, and those that are left from the tile above
pub written_step : {x y z n : ℕ} (t : Tile) (room : List ℕ) → OnMap x y z → 0 < n → n < z → n < length room
    → parent_written (x / 2) (y / 2) (z - 1) (n - 1) t (set room n (48 + digit_at x y 0)) ≡ parent_written x y z n t room
unfolding key_from
written_step {x} {y} {z} {n} t room m p h l =
    let up = written_accepted {n = n - 1} t (set room n (48 + digit_at x y 0)) (half_on_map m (omega arith)) (omega arith) in
    let here = written_accepted t room m h in
    let tile = parent_step m (omega arith) p in
    rw (up, here, tile, digits)
  where
    digits : key_of (x / 2) (y / 2) (1 + (n - 1)) ++ drop (1 + (n - 1)) (set room n (48 + digit_at x y 0))
        ≡ step_digits x y n ++ drop (1 + n) room
    digits =
        let a : 1 + (n - 1) ≡ n = omega arith in
        let b : 1 + n ≡ n + 1 = omega arith in
        rw (a, drop_set room n (48 + digit_at x y 0) l, b, key_in_two 48 x y n 1, add-one n, append_assoc)

-- which numbers it refuses by, and what is known where it does not
refusal_small : (x y z n : ℕ) → parent_refusal x y z n ≤ 3
unfolding parent_refusal tile_refusal
refusal_small x y z n = pick (ltb max_zoom z) (leb (2 ^ z) x || leb (2 ^ z) y) (leb z n)
  where
    pick : (a b c : Bool) → ((1 when a else 2 when b) else 3 when c) ≤ 3
    pick true b c = omega arith
    pick false true c = omega arith
    pick false false true = omega arith
    pick false false false = omega arith

pub accepted_parent : (x y z n : ℕ) → parent_refusal x y z n ≡ 0 → OnMap x y z × (n < z)
unfolding parent_refusal
accepted_parent x y z n e =
    let p = else_zero (tile_refusal x y z) (3 when leb z n) e in
    (accepted_on_map x y z p.0, pick (leb z n) refl p.1)
  where
    pick : (b : Bool) → leb z n ≡ b → 3 when b ≡ 0 → n < z
    pick true f h = absurd (omega arith)
    pick false f h = leb-false _ _ f

-- places that were zeros: what is left there is the answer by value
module _ (x y z n number : ℕ) (t : Tile) (room : List ℕ)
    (e : ancestor_lent number t room ≡ parent_written x y z n no_tile_of (replicate max_digits 0)) where
  pub number_is : number ≡ parent_refusal x y z n
  number_is = ap (λ (l : Lent Tile). l.number) e

  pub number_small : number ≤ 3
  number_small = rw number_is (refusal_small x y z n)

  pub by_value_refused : (number ≡ 0 → ⊥)
      → (t ≡ no_tile_of) × (record { number = number; value = record { tile = t; digits = room; count = 0 } } ≡ parent_given x y z n)
  by_value_refused h = pick (parent_refusal x y z n) refl
    where
      pick : (k : ℕ) → parent_refusal x y z n ≡ k
          → (t ≡ no_tile_of) × (record { number = number; value = record { tile = t; digits = room; count = 0 } } ≡ parent_given x y z n)
      pick zero f = absurd (h (number_is ∙ f))
      pick (suc k) f =
          let v : t ≡ no_tile_of = rw f at (ap (λ (l : Lent Tile). l.value) e) in
          let d : room ≡ replicate max_digits 0 = rw f at (ap (λ (l : Lent Tile). l.memory) e) in
          (v, rw (number_is, f, v, d))

  pub by_value_found : number ≡ 0
      → OnMap x y z × (n < z) × (record { number = 0; value = record { tile = t; digits = room; count = 1 + n } } ≡ parent_given x y z n)
  by_value_found h =
      let f : parent_refusal x y z n ≡ 0 = sym number_is ∙ h in
      let a = accepted_parent x y z n f in
      let g = e ∙ written_accepted no_tile_of (replicate max_digits 0) a.0 a.1 in
      let v = ap (λ (l : Lent Tile). l.value) g in
      let d = ap (λ (l : Lent Tile). l.memory) g in
      (a.0, a.1, rw (v, d, drop_replicate (1 + n) max_digits, f))

-- what `parent` answers where it is refused
pub refused_value : (x y z n : ℕ) (why : Refusal)
    → number_of why ≡ parent_refusal x y z n → refused_as why no_ancestor ≡ parent_given x y z n
refused_value x y z n why e = refused_answer why _ _ (sym e)
