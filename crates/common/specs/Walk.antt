-- The walk over two lists of locations: which of those that are passed are written, and why no other had to be.
use Rattle.std.specs.Prelude.{◌≡◌, refl, ◌⊎◌, ◌&&◌, ℕ, suc, ◌+◌, ◌-◌, ◌≤◌, ◌<◌, length, take, set}
use Rattle.std.proofs.Math.Path.{ap}
use Rattle.std.proofs.Common.{◌∙◌, subst, inl, inr, arith, get_or-set_same, get_or-set_other}
use Rattle.std.proofs.Math.Logic.{⊎_elim}
use Rattle.std.proofs.Math.Bool.{true, or-true}
use mathlib.Core.List.{List, Memᴰ}
use Rattle.std.proofs.Math.ListN.{get_or}
use Rattle.bits.specs.Tests.{and_parts, get_d_in, in_get_d}
use Rattle.quadtree.specs.Numbers.{location_tile}
use Rattle.sort.specs.At.{taken_at, at_taken}
use Rattle.quadtree.specs.Locations.{low_of, start_of, end_of, low_pos, low_below, Lie, holding, held, before, after, lies, held_run}
use Rattle.quadtree.specs.Locations.{IsLocation, tiles, Runs}
use Rattle.sort.specs.Compared.{eq_or_ne, le_or_lt}
use Rattle.tile.specs.declared.Tile.{Tile}
use Rattle.tile_list.specs.Laws.{named_by, names}
use Rattle.tile_list.specs.List.{named}
use Rattle.tile_set.specs.Holds.{Holds, holds_refl, holds_trans, ancestor_holds, holder_is_ancestor}
use Rattle.tile_set.specs.Merged.{or_cases, bool_ext}
use Rattle.tile_set.specs.Set.{ancestor}
use Rattle.tile_set.specs.Uncovered.{any_below_of, any_below_in}
use Rattle.common.specs.Common.{held_by, shared, Common}

-- the location v stands in a, and its tile lies in one of b
pub record Lies (a b : List ℕ) (v : ℕ) : Type 0 where
  pub at : ℕ
  pub in_a : at < length a
  pub is : get_or a at 0 ≡ v
  pub holder : ℕ
  pub in_b : holder < length b
  pub holds : Holds (tiles b holder) (location_tile v)

-- v is among the first n
pub record Written (out : List ℕ) (n v : ℕ) : Type 0 where
  pub at : ℕ
  pub below : at < n
  pub is : get_or out at 0 ≡ v

-- the first i of a are passed: those of them that lie in a tile of b are written, and so is what they hold of b from j on
pub record ListPassed (a b out : List ℕ) (i j n : ℕ) : Type 0 where
  pub within : i ≤ length a
  pub kept : (k m : ℕ) → k < i → m < length b → Holds (tiles b m) (tiles a k) → Written out n (get_or a k 0)
  pub ahead : (k m : ℕ) → k < i → j ≤ m → m < length b → Holds (tiles a k) (tiles b m) → Written out n (get_or b m 0)

-- the first i of a and the first j of b are passed, and n locations are written, each by right
pub record BothWalked (a b out : List ℕ) (i j n : ℕ) : Type 0 where
  pub room : n ≤ i + j
  pub right : (k : ℕ) → k < n → Lies a b (get_or out k 0) ⊎ Lies b a (get_or out k 0)
  pub one : ListPassed a b out i j n
  pub other : ListPassed b a out j i n

-- the two lists are alike
pub turned : {a b out : List ℕ} {i j n : ℕ} → BothWalked a b out i j n → BothWalked b a out j i n
turned w = record {
  room = omega (arith, w.room);
  right = λ k h. ⊎_elim (λ l. inr l) (λ l. inl l) (w.right k h);
  one = w.other;
  other = w.one;
}

pub both_begun : (a b out : List ℕ) → BothWalked a b out 0 0 0
both_begun a b out = record { room = omega arith; right = λ k h. absurd (omega arith); one = none a b; other = none b a }
  where
    none : (a b : List ℕ) → ListPassed a b out 0 0 0
    none a b = record { within = omega arith; kept = λ k m h. absurd (omega arith); ahead = λ k m h. absurd (omega arith) }

-- what is written stays when v is written behind it
module _ (out : List ℕ) (n v : ℕ) (h : n < length out) where
  old : (k : ℕ) → k < n → get_or (set out n v) k 0 ≡ get_or out k 0
  old k lt = get_or-set_other out n k v 0 (λ e. omega arith)

  still : {u : ℕ} → Written out n u → Written (set out n v) (n + 1) u
  still w = record { at = w.at; below = omega (arith, w.below); is = old w.at w.below ∙ w.is }

  new : Written (set out n v) (n + 1) v
  new = record { at = n; below = omega arith; is = get_or-set_same out n v 0 h }

-- runs that follow each other
module _ {l : List ℕ} (r : Runs l) where
  -- the later one begins no earlier
  starts_rise : (i j : ℕ) → i ≤ j → j < length l → start_of (tiles l i) ≤ start_of (tiles l j)
  starts_rise i j h k =
      ⊎_elim
      (λ e. rw e (omega arith))
      (λ f. omega (arith, r.rise i j (omega arith) k, low_pos (tiles l i), low_below (tiles l i)))
      (eq_or_ne i j)

  not_inside : (i j : ℕ) → i < j → j < length l → Holds (tiles l i) (tiles l j) → ⊥
  not_inside i j h k e =
      let u = held_run e (r.each j k).of_map in
      omega (arith, r.rise i j h k, u.1, low_pos (tiles l j), low_below (tiles l j))

-- tiles that hold each other are one location
one_location : {p q : ℕ} → IsLocation p → IsLocation q → Holds (location_tile p) (location_tile q) → Holds (location_tile q) (location_tile p)
    → p ≡ q
one_location {p} {q} s t h k =
    let u = held_run h t.of_map in
    let v = held_run k s.of_map in
    omega (
      arith,
      s.again,
      t.again,
      u.0,
      u.1,
      v.0,
      v.1,
      low_pos (location_tile p),
      low_pos (location_tile q),
      low_below (location_tile p),
      low_below (location_tile q),
    )

module _ {a b out : List ℕ} {i j n : ℕ} (ra : Runs a) (rb : Runs b) (w : BothWalked a b out i j n)
    (ha : i < length a) (hb : j < length b) where
  -- the run of a's next tile is over before that of b's begins
  pub over : end_of (tiles a i) ≤ start_of (tiles b j) → BothWalked a b out (i + 1) j n
  over h = record {
    room = omega (arith, w.room);
    right = w.right;
    one = record {
      within = omega arith;
      kept = λ k m lt g e. ⊎_elim (λ q. kept_here k m q g e) (λ f. w.one.kept k m (omega arith) g e) (eq_or_ne k i);
      ahead = λ k m lt le g e. ⊎_elim (λ q. absurd (apart k m q le g e)) (λ f. w.one.ahead k m (omega arith) le g e) (eq_or_ne k i);
    };
    other = record { within = w.other.within; kept = w.other.kept; ahead = λ k m lt le g e. w.other.ahead k m lt (omega arith) g e };
  }
    where
      -- no tile of b from j on lies in it
      apart : (k m : ℕ) → k ≡ i → j ≤ m → m < length b → Holds (tiles a k) (tiles b m) → ⊥
      apart k m q le g e =
          let u = held_run (rw q at e) (rb.each m g).of_map in
          omega (arith, h, u.1, starts_rise rb j m le g, low_pos (tiles b m), low_below (tiles b m))

      -- a tile of b that holds it is passed already
      kept_here : (k m : ℕ) → k ≡ i → m < length b → Holds (tiles b m) (tiles a k) → Written out n (get_or a k 0)
      kept_here k m q g e =
          let u = held_run (rw q at e) (ra.each i ha).of_map in
          ⊎_elim
          (λ le. absurd (omega (arith, h, u.0, starts_rise rb j m le g, low_pos (tiles a i), low_below (tiles a i))))
          (λ lt. w.other.ahead m k lt (omega arith) (omega arith) e)
          (le_or_lt j m)

  -- a's next tile lies in b's
  pub inside : n < length out → Holds (tiles b j) (tiles a i) → BothWalked a b (set out n (get_or a i 0)) (i + 1) j (n + 1)
  inside h in' = record {
    room = omega (arith, w.room);
    right = λ k lt. ⊎_elim
        (λ q. rw q (inl (rw (get_or-set_same out n v 0 h) here)))
        (λ f. rw (old out n v h k (omega arith)) (w.right k (omega arith)))
        (eq_or_ne k n);
    one = record {
      within = omega arith;
      kept = λ k m lt g e. ⊎_elim (λ q. rw q (new out n v h)) (λ f. still out n v h (w.one.kept k m (omega arith) g e)) (eq_or_ne k i);
      ahead = λ k m lt le g e. ⊎_elim (λ q. ahead_here k m q le g e) (λ f. still out n v h (w.one.ahead k m (omega arith) le g e))
          (eq_or_ne k i);
    };
    other = record {
      within = w.other.within;
      kept = λ k m lt g e. still out n v h (w.other.kept k m lt g e);
      ahead = λ k m lt le g e. still out n v h (w.other.ahead k m lt (omega arith) g e);
    };
  }
    where
      v : ℕ
      v = get_or a i 0

      here : Lies a b (get_or a i 0)
      here = record { at = i; in_a = ha; is = refl; holder = j; in_b = hb; holds = in' }

      -- what it holds of b is b's next tile, and that is the same one
      ahead_here : (k m : ℕ) → k ≡ i → j ≤ m → m < length b → Holds (tiles a k) (tiles b m) → Written (set out n v) (n + 1) (get_or b m 0)
      ahead_here k m q le g e =
          ⊎_elim
          (λ s. subst (λ (u : ℕ). Written (set out n v) (n + 1) u) (one_location (ra.each i ha) (rb.each m g) (rw q at e) (rw s at in'))
          (new out n v h))
          (λ f. absurd (not_inside rb j m (omega arith) g (holds_trans in' (rw q at e))))
          (eq_or_ne j m)

-- runs that overlap are nested: the shorter lies in the longer
pub nested : {p q l m : ℕ} → IsLocation p → IsLocation q → l ≡ low_of (location_tile p) → m ≡ low_of (location_tile q)
    → q - m < p + l → p - l < q + m → l ≤ m → Holds (location_tile q) (location_tile p)
nested {p} {q} s t el em h k le = pick (lies (location_tile p) (location_tile q) s.of_map t.of_map)
  where
    pick : Lie (location_tile p) (location_tile q) → Holds (location_tile q) (location_tile p)
    pick (holding e) =
        let u = held_run e t.of_map in
        let same : p ≡ q = omega (arith, s.again, t.again, u.0, u.1, low_below (location_tile p), low_below (location_tile q)) in
        rw same (holds_refl (location_tile q))
    pick (held e) = e
    pick (before e) = absurd (omega (arith, s.again, t.again))
    pick (after e) = absurd (omega (arith, s.again, t.again))

-- what stands in either set and lies in the other, at the end of one of the lists
all_kept : {a b out : List ℕ} {i j n : ℕ} → BothWalked a b out i j n → (length a ≤ i) ⊎ (length b ≤ j)
    → (k m : ℕ) → k < length a → m < length b → Holds (tiles b m) (tiles a k) → Written out n (get_or a k 0)
all_kept {a} {b} {out} {i} {j} {n} w done k m f g e =
    ⊎_elim
    (λ le. ⊎_elim (λ h. absurd (omega arith)) (λ h. w.other.ahead m k (omega arith) le f e) done)
    (λ lt. w.one.kept k m lt g e)
    (le_or_lt i k)

lies_location : {a b : List ℕ} {v : ℕ} → Runs a → Lies a b v → IsLocation v
lies_location ra l = rw l.is at (ra.each l.at l.in_a)

-- by index and by tile: t stands in a and lies in a tile of b
lies_held : {a b : List ℕ} {v : ℕ} (t : Tile) → location_tile v ≡ t → Lies a b v
    → named location_tile a t && held_by (named location_tile b) t ≡ true
lies_held {a = a} {b = b} t e l =
    let q = tiles b l.holder in
    let h : Holds q t = rw e at l.holds in
    let stands : named location_tile a t ≡ true =
    names location_tile a (get_or a l.at 0) t (get_d_in a l.at 0 l.in_a) (ap location_tile l.is ∙ e) in
    let above : held_by (named location_tile b) t ≡ true =
    any_below_in (suc t.z) (λ s. named location_tile b (ancestor t s)) q.z (omega (arith, h.above))
    (names location_tile b (get_or b l.holder 0) (ancestor t q.z) (get_d_in b l.holder 0 l.in_b) (holder_is_ancestor h)) in
    rw (stands, above)

held_lies : (a b : List ℕ) (t : Tile) → named location_tile a t && held_by (named location_tile b) t ≡ true
    → (k : ℕ) × (m : ℕ) × (k < length a) × (m < length b) × Holds (tiles b m) (tiles a k) × (tiles a k ≡ t)
held_lies a b t e =
    let p = and_parts (named location_tile a t) (held_by (named location_tile b) t) e in
    let u = named_by location_tile a t p.0 in
    let k = in_get_d a 0 u.1 in
    let s = any_below_of (suc t.z) (λ s. named location_tile b (ancestor t s)) p.1 in
    let v = named_by location_tile b (ancestor t s.0) s.2 in
    let m = in_get_d b 0 v.1 in
    let is : tiles a k.0 ≡ t = ap location_tile k.2 ∙ u.2 in
    let over : tiles b m.0 ≡ ancestor t s.0 = ap location_tile m.2 ∙ v.2 in
    (k.0, m.0, k.1, m.1, rw (is, over) (ancestor_holds t s.0 (omega (arith, s.1))), is)

module _ {a b out : List ℕ} {i j n : ℕ} (ra : Runs a) (rb : Runs b) (w : BothWalked a b out i j n)
    (room : length a + length b ≤ length out) where
  within : n ≤ length out
  within = omega (arith, w.room, w.one.within, w.other.within)

  location : {v : ℕ} → Memᴰ v (take n out) → IsLocation v
  location mem =
      let s = taken_at out n within mem in
      rw s.2 at (⊎_elim (λ l. lies_location ra l) (λ l. lies_location rb l) (w.right s.0 s.1))

  written_named : {v : ℕ} (t : Tile) → location_tile v ≡ t → Written out n v → named location_tile (take n out) t ≡ true
  written_named t e x =
      names location_tile (take n out) (get_or out x.at 0) t (at_taken out n within x.at x.below) (ap location_tile x.is ∙ e)

  pub ended : (length a ≤ i) ⊎ (length b ≤ j) → Common a b out n
  unfolding shared
  ended done = record {
    within = within;
    locations = λ v mem. let s = location mem in record { tile = location_tile v; on_map = s.of_map; number = s.again };
    tiles = λ t. bool_ext (named location_tile (take n out) t) (shared (named location_tile a) (named location_tile b) t) (forth t) (back t);
  }
    where
      forth : (t : Tile) → named location_tile (take n out) t ≡ true → shared (named location_tile a) (named location_tile b) t ≡ true
      forth t e =
          let u = named_by location_tile (take n out) t e in
          let s = taken_at out n within u.1 in
          let v = get_or out s.0 0 in
          let is : location_tile v ≡ t = ap location_tile s.2 ∙ u.2 in
          ⊎_elim
          (λ l. rw (lies_held {a = a} {b = b} {v = v} t is l))
          (λ l. rw (lies_held {a = b} {b = a} {v = v} t is l) (or-true (named location_tile a t && held_by (named location_tile b) t)))
          (w.right s.0 s.1)

      back : (t : Tile) → shared (named location_tile a) (named location_tile b) t ≡ true → named location_tile (take n out) t ≡ true
      back t e =
          ⊎_elim
          (λ h. let s = held_lies a b t h in written_named t s.5 (all_kept w done s.0 s.1 s.2 s.3 s.4))
          (λ h. let s = held_lies b a t h in
          written_named t s.5 (all_kept (turned w) (⊎_elim (λ d. inr d) (λ d. inl d) done) s.0 s.1 s.2 s.3 s.4))
          (or_cases _ _ e)
