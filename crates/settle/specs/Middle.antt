-- The pass in the middle of a list: what stands on the stack, what is still to come, and what one number more does to them.
use Rattle.std.specs.Prelude.{◌≡◌, refl, ◌⊎◌, Bool, true, List, ℕ, ◌+◌, ◌-◌, ◌≤◌, ◌<◌, length, take, get_or, set}
use Rattle.std.proofs.Common.{ap, ◌∙◌, subst, inl, inr, ⊎_elim, arith, length-set, get_or-set_same, get_or-set_other}
use Rattle.std.proofs.Math.Decide.{dec_lt}
use Rattle.bits.specs.Tests.{get_d_in, in_get_d}
use Rattle.quadtree.specs.Lists.{TileNumbers, number_at}
use Rattle.quadtree.specs.Numbers.{OfMap, location_of, location_tile}
use Rattle.quadtree.specs.OneTile.{location_tile_lem}
use Rattle.sort.specs.Sort.{By}
use Rattle.tile.specs.declared.Tile.{Tile}
use Rattle.tile_list.specs.List.{named}
use Rattle.tile_list.specs.Laws.{named_by, names}
use Rattle.tile_set.specs.Holds.{Holds, holds_refl, holds_trans}
use Rattle.tile_set.specs.Merged.{whole_all}
use Rattle.tile_set.specs.Simplified.{listed}
use Rattle.sort.specs.At.{taken_at, at_taken, taken_rising, by_at}
use Rattle.quadtree.specs.Locations.{low_of, start_of, end_of, low_pos, low_below, held_run, location_held, parent_of_map, IsLocation}
use Rattle.quadtree.specs.Locations.{tile_location, tiles}
use Rattle.settle.specs.Settle.{Settles, Popped, Family, Joins, stop, join}
use Rattle.settle.specs.Stack.{Among, InStack, Stack, Onto, stack_none, rise_apart, pop_under, pop_top, join_holds, join_under}
use Rattle.settle.specs.Stack.{join_end, join_top, push, push_under}

pub joins_less : {m c j : ℕ} {l : List ℕ} {n k : ℕ} → Joins m l c j n k → c ≤ n
joins_less (stop f) = omega arith
joins_less (join p f r) = omega (arith, joins_less r)

-- what is known of c numbers with j on top, which joining left of n with k on top
record Joined (m : ℕ) (S : Tile → Bool) (l : List ℕ) (c j n k : ℕ) : Type 0 where
  top : Onto m S (tiles l) c (location_tile j)
  none : (p : Tile) → Family m (tiles l) c (location_tile j) p → ⊥
  location : IsLocation j
  ends : end_of (location_tile j) ≡ end_of (location_tile k)
  holds : Holds (location_tile j) (location_tile k)
  keeps : (x : Tile) → InStack (tiles l) n x → InStack (tiles l) c x ⊎ Holds (location_tile j) x

joins_done : {m c j : ℕ} {l : List ℕ} (S : Tile → Bool) {n k : ℕ} → Joins m l c j n k → IsLocation k → Onto m S (tiles l) n (location_tile k)
    → Joined m S l c j n k
joins_done {j = j} S (stop f) s g =
    record { top = g; none = f; location = s; ends = refl; holds = holds_refl (location_tile j); keeps = λ x u. inl u }
joins_done {m} {l = l} S {n = n} {k = k} (join p f r) s g =
    let o : OfMap p = parent_of_map p (rw f.fourth at g.of_map) in
    let e : location_tile (location_of p) ≡ p = location_tile_lem p o in
    let d = joins_done S r (tile_location p o) (rw e (join_top m S (tiles l) n (location_tile k) p f g)) in
    record {
      top = d.top;
      none = d.none;
      location = d.location;
      ends = d.ends ∙ (ap end_of e ∙ join_end m S (tiles l) n (location_tile k) p f g.of_map);
      holds = holds_trans d.holds (rw e (join_holds m S (tiles l) n (location_tile k) p f));
      keeps = λ x u. ⊎_elim (d.keeps x) (λ h. inr (holds_trans d.holds (rw e h))) (join_under m S (tiles l) n (location_tile k) p f x u);
    }

-- l is l₀ after i numbers: `count` locations stand at the front, the last of which ends at `end`
pub record Mid (m : ℕ) (l₀ l : List ℕ) (count end i : ℕ) : Type 0 where
  pub order : count ≤ i
  pub within : i ≤ length l
  pub long : length l ≡ length l₀
  pub rest : (j : ℕ) → i ≤ j → get_or l j 0 ≡ get_or l₀ j 0
  pub each : (j : ℕ) → j < count → IsLocation (get_or l j 0)
  pub stack : Stack m (named location_tile l₀) (tiles l) count
  pub ends : (j : ℕ) → j < count → end_of (tiles l j) ≤ end
  pub read : (j : ℕ) → j < i → InStack (tiles l) count (tiles l₀ j)
  pub inside : (j : ℕ) → i ≤ j → j < length l₀ → get_or l₀ j 0 < end → InStack (tiles l) count (tiles l₀ j)

pub mid_begun : (m : ℕ) (l : List ℕ) → Mid m l l 0 0 0
mid_begun m l = record {
  order = omega arith;
  within = omega arith;
  long = refl;
  rest = λ j h. refl;
  each = λ j h. absurd (omega arith);
  stack = stack_none m (named location_tile l) (tiles l);
  ends = λ j h. absurd (omega arith);
  read = λ j h. absurd (omega arith);
  inside = λ j h k g. absurd (omega arith);
}

pub location_at : (l : List ℕ) → TileNumbers location_of l → (i : ℕ) → i < length l → IsLocation (get_or l i 0)
location_at l f i h = let s = number_at l i f h in rw (← s.number) (tile_location s.tile s.on_map)

module _ (m : ℕ) (l₀ l : List ℕ) (count end i : ℕ) (f : TileNumbers location_of l₀) (M : Mid m l₀ l count end i) where
  pub next_location : i < length l → IsLocation (get_or l i 0)
  next_location h = rw (M.rest i (omega arith)) (location_at l₀ f i (omega (arith, M.long)))

  -- a number that lies in the last location kept
  pub dropped : i < length l → get_or l i 0 < end → Mid m l₀ l count end (i + 1)
  dropped h k = record {
    order = omega (arith, M.order);
    within = omega arith;
    long = M.long;
    rest = λ j g. M.rest j (omega arith);
    each = M.each;
    stack = M.stack;
    ends = M.ends;
    read = read;
    inside = λ j g. M.inside j (omega arith);
  }
    where
      read : (j : ℕ) → j < i + 1 → InStack (tiles l) count (tiles l₀ j)
      read j g = pick (dec_lt j i)
        where
          pick : Dec (j < i) → InStack (tiles l) count (tiles l₀ j)
          pick (yes q) = M.read j q
          pick (no q) = M.inside j (omega arith) (omega (arith, M.long))
              (omega (arith, M.rest j (omega arith), ap (λ (n : ℕ). get_or l n 0) e))
            where
              e : i ≡ j
              e = omega arith

-- a number behind the last location kept: locations are taken off, families joined, and what comes of it goes on top
module _ (m : ℕ) (l₀ l : List ℕ) (count end i : ℕ) (f : TileNumbers location_of l₀) (o : By (λ n. n) l₀) (M : Mid m l₀ l count end i)
    (h : i < length l)
    (w kept c j : ℕ) (low : w ≡ low_of (tiles l i)) (past : end ≤ get_or l i 0) (q : Popped l (get_or l i 0 - w) count kept)
    (r : Joins m l c j kept (get_or l i 0)) where
  abbrev S : Tile → Bool
  S = named location_tile l₀

  abbrev t : Tile
  t = tiles l i

  location : IsLocation (get_or l i 0)
  location = next_location m l₀ l count end i f M h

  behind : (n : ℕ) → n < count → end_of (tiles l n) ≤ location_of t
  behind n g = omega (arith, M.ends n g, location.again)

  off : (n : ℕ) → kept ≤ n → n < count → start_of t < location_of (tiles l n)
  off n a b = omega (arith, q.off n a b, (M.each n b).again, location.again)

  top : Onto m S (tiles l) kept t
  top =
      pop_top m S (tiles l) count kept t M.stack location.of_map behind q.within off
      (listed (names location_tile l₀ (get_or l i 0) t (rw (M.rest i (omega arith)) (get_d_in l₀ i 0 (omega (arith, M.long)))) refl))
      (λ g. omega (arith, q.last g, (M.each (kept - 1) (omega (arith, q.within))).again, location.again))

  done : Joined m S l c j kept (get_or l i 0)
  done = joins_done S r location top

  pub count_less : c ≤ i
  count_less = omega (arith, joins_less r, q.within, M.order)

  same : (n : ℕ) → (n ≡ c → ⊥) → get_or (set l c j) n 0 ≡ get_or l n 0
  same n g = get_or-set_other l c n j 0 g

  new : get_or (set l c j) c 0 ≡ j
  new = get_or-set_same l c j 0 (omega (arith, count_less))

  at_each : (P : ℕ → Type 0) → ((n : ℕ) → n < c → P (get_or l n 0)) → P j → (n : ℕ) → n < c + 1 → P (get_or (set l c j) n 0)
  at_each P a b n g = pick (dec_lt n c)
    where
      pick : Dec (n < c) → P (get_or (set l c j) n 0)
      pick (yes e) = rw (same n (λ u. omega arith)) (a n e)
      pick (no e) = let u : n ≡ c = omega arith in rw (u, new) b

  under : (x : Tile) → InStack (tiles l) c x ⊎ Holds (location_tile j) x → InStack (tiles (set l c j)) (c + 1) x
  under =
      push_under m S (tiles l) c (location_tile j) done.top (tiles (set l c j)) (λ n g. ap location_tile (same n (λ u. omega arith)))
      (ap location_tile new)

  kept_under : (x : Tile) → InStack (tiles l) count x → InStack (tiles (set l c j)) (c + 1) x
  kept_under x u =
      under x (⊎_elim (done.keeps x) (λ g. inr (holds_trans done.holds g))
      (pop_under m S (tiles l) count kept t M.stack location.of_map behind q.within off x u))

  ends : end_of (location_tile j) ≡ get_or l i 0 + w
  ends = omega (arith, done.ends, location.again)

  pub kept_top : Mid m l₀ (set l c j) (c + 1) (get_or l i 0 + w) (i + 1)
  kept_top = record {
    order = omega (arith, count_less);
    within = rw (length-set l c j) (omega arith);
    long = length-set l c j ∙ M.long;
    rest = λ n g. same n (λ u. omega (arith, count_less)) ∙ M.rest n (omega arith);
    each = at_each IsLocation (λ n g. M.each n (omega (arith, joins_less r, q.within))) done.location;
    stack = push m S (tiles l) c (location_tile j) done.top (tiles (set l c j)) (λ n g. ap location_tile (same n (λ u. omega arith)))
        (ap location_tile new) done.none;
    ends = at_each (λ n. end_of (location_tile n) ≤ get_or l i 0 + w) (λ n g. omega (arith, done.top.above n g, ends)) (omega (arith, ends));
    read = read;
    inside = λ n a b g. under (tiles l₀ n) (inr (inside n a b g));
  }
    where
      read : (n : ℕ) → n < i + 1 → InStack (tiles (set l c j)) (c + 1) (tiles l₀ n)
      read n g = pick (dec_lt n i)
        where
          pick : Dec (n < i) → InStack (tiles (set l c j)) (c + 1) (tiles l₀ n)
          pick (yes e) = kept_under (tiles l₀ n) (M.read n e)
          pick (no e) =
              let u : n ≡ i = omega arith in
              rw (u, ← M.rest i (omega arith)) (under t (inr done.holds))

      -- a later number lies behind the start of this one
      inside : (n : ℕ) → i + 1 ≤ n → n < length l₀ → get_or l₀ n 0 < get_or l i 0 + w → Holds (location_tile j) (tiles l₀ n)
      inside n a b g =
          let p = location_at l₀ f n b in
          let z = by_at l₀ o i n (omega arith) b in
          location_held (location_tile j) (tiles l₀ n) done.location.of_map p.of_map
          (omega (
            arith,
            (held_run done.holds location.of_map).0,
            location.again,
            p.again,
            low_pos t,
            low_below t,
            z,
            M.rest i (omega arith),
          ))
          (omega (arith, ends, p.again))

-- at the end of the list
module _ (m : ℕ) (l₀ l : List ℕ) (count end i : ℕ) (M : Mid m l₀ l count end i) (h : length l ≤ i) where
  fits : count ≤ length l
  fits = omega (arith, M.order, M.within)

  abbrev R : Tile → Bool
  R = named location_tile (take count l)

  named_at : (t : Tile) → R t ≡ true → Among (tiles l) count t
  named_at t e =
      let s = named_by location_tile (take count l) t e in
      let a = taken_at l count fits s.1 in
      (a.0, a.1, ap location_tile a.2 ∙ s.2)

  at_named : (n : ℕ) → n < count → R (tiles l n) ≡ true
  at_named n g = names location_tile (take count l) (get_or l n 0) (tiles l n) (at_taken l count fits n g) refl

  locations : TileNumbers location_of (take count l)
  locations k s = let a = taken_at l count fits s in let p = M.each a.0 a.1 in
      record { tile = tiles l a.0; on_map = p.of_map; number = p.again ∙ a.2 }

  covers : (s : Tile) → named location_tile l₀ s ≡ true → (r : Tile) × (R r ≡ true) × Holds r s
  covers s e =
      let n = named_by location_tile l₀ s e in
      let a = in_get_d l₀ 0 n.1 in
      let u = M.read a.0 (omega (arith, a.1, M.long)) in
      (tiles l u.0, at_named u.0 u.1, subst (λ (x : Tile). Holds (tiles l u.0) x) (ap location_tile a.2 ∙ n.2) u.2)

  apart : (a b : Tile) → R a ≡ true → R b ≡ true → Holds a b → a ≡ b
  apart a b p q = rise_apart (tiles l) count M.stack.of_map M.stack.rise (named_at a p) (named_at b q)

  pub ended : Settles m l₀ l count
  ended = record {
    within = fits;
    locations = locations;
    rising = taken_rising l count fits
        (λ a b g k. omega (
          arith,
          M.stack.rise a b g k,
          (M.each a (omega arith)).again,
          (M.each b k).again,
          low_pos (tiles l b),
          low_pos (tiles l a),
        ));
    simplest = record {
      built = λ t e. let a = named_at t e in rw (← a.2) (M.stack.built a.0 a.1);
      covers = covers;
      apart = apart;
      no_four = λ p d e.
          let all = (whole_all R p).0 e in
          M.stack.no_four p d (named_at _ (all 0 0 (omega arith) (omega arith))) (named_at _ (all 1 0 (omega arith) (omega arith)))
          (named_at _ (all 0 1 (omega arith) (omega arith))) (named_at _ (all 1 1 (omega arith) (omega arith)));
    };
  }
