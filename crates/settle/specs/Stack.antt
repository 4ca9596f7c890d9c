-- The stack of the tiles that are kept. What stands on it is built of the listed tiles, its runs rise, and no four siblings stand together.
-- A tile that comes behind it takes off those that lie in it, joins its family, and goes on top.
use Rattle.std.specs.Prelude.{◌≡◌, ◌⊎◌, Bool, ℕ, ◌+◌, ◌-◌, ◌≤◌, ◌<◌}
use Rattle.std.proofs.Common.{sym, ap, ◌∙◌, subst, inl, inr, arith}
use Rattle.std.proofs.Math.Decide.{dec_lt}
use Rattle.constants.specs.Limits.{max_zoom}
use Rattle.quadtree.specs.Numbers.{OfMap, location_of}
use Rattle.tile.specs.declared.Tile.{Tile}
use Rattle.tile_set.specs.Holds.{Holds, holds_trans, child_held}
use Rattle.tile_set.specs.Set.{child}
use Rattle.tile_set.specs.Simplified.{Built, joined}
use Rattle.quadtree.specs.Locations.{start_of, end_of, low_pos, low_below, Lie, holding, held, before, after, lies, held_run, location_held}
use Rattle.quadtree.specs.Locations.{low_child, location_child, parent_of_map}
use Rattle.settle.specs.Settle.{Family}

-- x is one of the first n tiles
abbrev pub Among : (ℕ → Tile) → ℕ → Tile → Type 0
Among T n x = (i : ℕ) × (i < n) × (T i ≡ x)

-- x lies in one of the first n tiles
abbrev pub InStack : (ℕ → Tile) → ℕ → Tile → Type 0
InStack T n x = (i : ℕ) × (i < n) × Holds (T i) x

pub record Stack (m : ℕ) (S : Tile → Bool) (T : ℕ → Tile) (n : ℕ) : Type 0 where
  pub of_map : (i : ℕ) → i < n → OfMap (T i)
  pub built : (i : ℕ) → i < n → Built m S (T i)
  pub rise : (i j : ℕ) → i < j → j < n → end_of (T i) ≤ start_of (T j)
  pub no_four : (p : Tile) → m ≤ p.z → Among T n (child p 0 0) → Among T n (child p 1 0) → Among T n (child p 0 1)
      → Among T n (child p 1 1) → ⊥

-- t may go on top of the n tiles
pub record Onto (m : ℕ) (S : Tile → Bool) (T : ℕ → Tile) (n : ℕ) (t : Tile) : Type 0 where
  pub stack : Stack m S T n
  pub of_map : OfMap t
  pub built : Built m S t
  pub above : (i : ℕ) → i < n → end_of (T i) ≤ start_of t

pub stack_none : (m : ℕ) (S : Tile → Bool) (T : ℕ → Tile) → Stack m S T 0
stack_none m S T = record {
  of_map = λ i h. absurd (omega arith);
  built = λ i h. absurd (omega arith);
  rise = λ i j h k. absurd (omega arith);
  no_four = λ p d a b c e. omega (arith, a.1);
}

stack_front : {m : ℕ} {S : Tile → Bool} {T : ℕ → Tile} {n : ℕ} (k : ℕ) → k ≤ n → Stack m S T n → Stack m S T k
stack_front {m} {S} {T} {n} k l s = record {
  of_map = λ i h. s.of_map i (omega arith);
  built = λ i h. s.built i (omega arith);
  rise = λ i j h g. s.rise i j h (omega arith);
  no_four = λ p d a b c e. s.no_four p d (more a) (more b) (more c) (more e);
}
  where
    more : {x : Tile} → Among T k x → Among T n x
    more (i, h, e) = (i, omega arith, e)

-- the tiles that lie in t are taken off
module _ (m : ℕ) (S : Tile → Bool) (T : ℕ → Tile) (n r : ℕ) (t : Tile) (s : Stack m S T n) (o : OfMap t)
    (past : (i : ℕ) → i < n → end_of (T i) ≤ location_of t) (l : r ≤ n) (off : (i : ℕ) → r ≤ i → i < n → start_of t < location_of (T i)) where
  pub pop_under : (x : Tile) → InStack T n x → InStack T r x ⊎ Holds t x
  pop_under x (i, h, k) = pick (dec_lt i r)
    where
      pick : Dec (i < r) → InStack T r x ⊎ Holds t x
      pick (yes g) = inl (i, g, k)
      pick (no g) =
          inr (holds_trans (location_held t (T i) o (s.of_map i h) (off i (omega arith) h)
          (omega (arith, past i h, low_pos (T i), low_pos t))) k)

  pub pop_top : Built m S t → (0 < r → location_of (T (r - 1)) ≤ start_of t) → Onto m S T r t
  pop_top b last = record { stack = stack_front r l s; of_map = o; built = b; above = above }
    where
      lie : 0 < r → Lie (T (r - 1)) t → end_of (T (r - 1)) ≤ start_of t
      lie h (holding k) = absurd (omega (arith, held_run k o, past (r - 1) (omega arith), low_pos t))
      lie h (held k) =
          absurd (omega (arith, held_run k (s.of_map (r - 1) (omega arith)), last h, low_pos (T (r - 1)), low_below (T (r - 1))))
      lie h (before k) = k
      lie h (after k) = absurd (omega (arith, past (r - 1) (omega arith), low_pos t, low_pos (T (r - 1))))

      above : (i : ℕ) → i < r → end_of (T i) ≤ start_of t
      above i h = pick (dec_lt i (r - 1))
        where
          pick : Dec (i < r - 1) → end_of (T i) ≤ start_of t
          pick (yes g) = omega (arith, s.rise i (r - 1) g (omega arith), last (omega arith))
          pick (no g) =
              let e : i ≡ r - 1 = omega arith in
              rw e (lie (omega arith) (lies (T (r - 1)) t (s.of_map (r - 1) (omega arith)) o))

-- where the four children of p lie
record Four (p : Tile) : Type 0 where
  start : start_of p ≡ start_of (child p 0 0)
  second : end_of (child p 0 0) ≡ start_of (child p 1 0)
  third : end_of (child p 1 0) ≡ start_of (child p 0 1)
  fourth : end_of (child p 0 1) ≡ start_of (child p 1 1)
  end : end_of p ≡ end_of (child p 1 1)

four : (p : Tile) → p.z < max_zoom → Four p
four p h =
    let a = location_child p h 0 0 (omega arith) (omega arith) in
    let b = location_child p h 1 0 (omega arith) (omega arith) in
    let c = location_child p h 0 1 (omega arith) (omega arith) in
    let d = location_child p h 1 1 (omega arith) (omega arith) in
    let w = low_child p h 0 0 in
    let x = low_child p h 1 0 in
    let y = low_child p h 0 1 in
    let z = low_child p h 1 1 in
    record {
      start = omega (arith, a, w);
      second = omega (arith, a, b, w, x, low_below (child p 1 0));
      third = omega (arith, b, c, x, y, low_below (child p 0 1));
      fourth = omega (arith, c, d, y, z, low_below (child p 1 1));
      end = omega (arith, d, z);
    }

-- t and the three tiles below it become their parent
module _ (m : ℕ) (S : Tile → Bool) (T : ℕ → Tile) (n : ℕ) (t p : Tile) (f : Family m T n t p) where
  pub join_holds : Holds p t
  join_holds = rw f.fourth (child_held p 1 1 (omega arith) (omega arith))

  pub join_under : (x : Tile) → InStack T n x → InStack T (n - 3) x ⊎ Holds p x
  join_under x (i, h, k) = pick (dec_lt i (n - 3)) (dec_lt i (n - 2)) (dec_lt i (n - 1))
    where
      into : (a b j : ℕ) → a < 2 → b < 2 → T j ≡ child p a b → i ≡ j → Holds p x
      into a b j g q e u = holds_trans (child_held p a b g q) (subst (λ (v : Tile). Holds v x) (ap T u ∙ e) k)

      pick : Dec (i < n - 3) → Dec (i < n - 2) → Dec (i < n - 1) → InStack T (n - 3) x ⊎ Holds p x
      pick (yes a) b c = inl (i, a, k)
      pick (no a) (yes b) c = inr (into 0 0 (n - 3) (omega arith) (omega arith) f.first (omega arith))
      pick (no a) (no b) (yes c) = inr (into 1 0 (n - 2) (omega arith) (omega arith) f.second (omega arith))
      pick (no a) (no b) (no c) = inr (into 0 1 (n - 1) (omega arith) (omega arith) f.third (omega (arith, f.three)))

  pub join_end : OfMap t → end_of p ≡ end_of t
  join_end o = rw f.fourth (four p (rw f.fourth at o).zoom).end

  pub join_top : Onto m S T n t → Onto m S T (n - 3) p
  join_top g = record { stack = stack_front (n - 3) (omega arith) g.stack; of_map = parent_of_map p o; built = b; above = above }
    where
      o : OfMap (child p 1 1)
      o = rw f.fourth at g.of_map

      on : (k : ℕ) → 0 < k → k ≤ 3 → Built m S (T (n - k))
      on k h l = g.stack.built (n - k) (omega (arith, f.three))

      b : Built m S p
      b = joined f.deep (rw f.first at (on 3 (omega arith) (omega arith))) (rw f.third at (on 1 (omega arith) (omega arith)))
          (rw f.second at (on 2 (omega arith) (omega arith))) (rw f.fourth at g.built)

      above : (i : ℕ) → i < n - 3 → end_of (T i) ≤ start_of p
      above i h =
          rw ((four p o.zoom).start, ← f.first) (g.stack.rise i (n - 3) h (omega (arith, f.three)))

-- tiles whose runs rise
module _ (T : ℕ → Tile) (n : ℕ) (of_map : (i : ℕ) → i < n → OfMap (T i))
    (rise : (i j : ℕ) → i < j → j < n → end_of (T i) ≤ start_of (T j)) where
  -- none of them holds another
  pub rise_apart : {a b : Tile} → Among T n a → Among T n b → Holds a b → a ≡ b
  rise_apart {a} {b} (x, u, d) (y, v, e) g = order (dec_lt x y) (dec_lt y x)
    where
      run : (start_of (T x) ≤ start_of (T y)) × (end_of (T y) ≤ end_of (T x))
      run = held_run (rw (d, e) g) (of_map y v)

      order : Dec (x < y) → Dec (y < x) → a ≡ b
      order (yes s) k = absurd (omega (arith, rise x y s v, run, low_pos (T y)))
      order (no s) (yes k) = absurd (omega (arith, rise y x k u, run, low_pos (T y)))
      order (no s) (no k) = let z : x ≡ y = omega arith in sym d ∙ (ap T z ∙ e)

  -- where one tile's run goes on from another's, the two stand next to each other
  next : (i j : ℕ) → i < n → j < n → end_of (T i) ≡ start_of (T j) → j ≡ i + 1
  next i j h k e = pick (dec_lt i j) (dec_lt (i + 1) j)
    where
      pick : Dec (i < j) → Dec (i + 1 < j) → j ≡ i + 1
      pick (no a) b = absurd (other (dec_lt j i))
        where
          other : Dec (j < i) → ⊥
          other (yes c) = omega (arith, rise j i c h, low_pos (T i), low_pos (T j))
          other (no c) = let d : i ≡ j = omega arith in omega (arith, low_pos (T i), (rw (← d) at e))
      pick (yes a) (yes b) = absurd (omega (arith, rise i (i + 1) (omega arith) (omega arith), rise (i + 1) j b k, low_pos (T (i + 1))))
      pick (yes a) (no b) = omega arith

  -- four siblings among them stand together
  pub together : (m : ℕ) (p : Tile) → m ≤ p.z → Among T n (child p 0 0) → Among T n (child p 1 0) → Among T n (child p 0 1)
      → Among T n (child p 1 1)
      → (l : ℕ) × (l < n) × Family m T l (T l) p
  together m p d (i, hi, ei) (j, hj, ej) (k, hk, ek) (l, hl, el) = (
    l,
    hl,
    record {
      deep = d;
      three = omega (arith, first, second, third);
      first = ap T (omega (arith, first, second, third)) ∙ ei;
      second = ap T (omega (arith, second, third)) ∙ ej;
      third = ap T (omega (arith, third)) ∙ ek;
      fourth = el;
    },
  )
    where
      f : Four p
      f = four p (rw el at (of_map l hl)).zoom

      first : j ≡ i + 1
      first = next i j hi hj (rw (ei, ej) f.second)

      second : k ≡ j + 1
      second = next j k hj hk (rw (ej, ek) f.third)

      third : l ≡ k + 1
      third = next k l hk hl (rw (ek, el) f.fourth)

-- t goes on top: what stands at the first n is as it was, and t is behind it
module _ (m : ℕ) (S : Tile → Bool) (T : ℕ → Tile) (n : ℕ) (t : Tile) (g : Onto m S T n t) (T' : ℕ → Tile)
    (same : (i : ℕ) → i < n → T' i ≡ T i) (top : T' n ≡ t) where
  at_each : (P : Tile → Type 0) → ((i : ℕ) → i < n → P (T i)) → P t → (i : ℕ) → i < n + 1 → P (T' i)
  at_each P f q i h = pick (dec_lt i n)
    where
      pick : Dec (i < n) → P (T' i)
      pick (yes k) = rw (same i k) (f i k)
      pick (no k) = let e : i ≡ n = omega arith in rw (e, top) q

  rise : (i j : ℕ) → i < j → j < n + 1 → end_of (T' i) ≤ start_of (T' j)
  rise i j h k = pick (dec_lt j n)
    where
      pick : Dec (j < n) → end_of (T' i) ≤ start_of (T' j)
      pick (yes l) = rw (same i (omega arith), same j l) (g.stack.rise i j h l)
      pick (no l) = let e : j ≡ n = omega arith in rw (e, top, same i (omega arith)) (g.above i (omega arith))

  pub push_under : (x : Tile) → InStack T n x ⊎ Holds t x → InStack T' (n + 1) x
  push_under x (inl (i, h, k)) = (i, omega arith, rw (same i h) k)
  push_under x (inr k) = (n, omega arith, rw top k)

  pub push : ((p : Tile) → Family m T n t p → ⊥) → Stack m S T' (n + 1)
  push stop = record { of_map = of_map; built = at_each (Built m S) g.stack.built g.built; rise = rise; no_four = no_four }
    where
      of_map : (i : ℕ) → i < n + 1 → OfMap (T' i)
      of_map = at_each OfMap g.stack.of_map g.of_map

      no_four : (p : Tile) → m ≤ p.z → Among T' (n + 1) (child p 0 0) → Among T' (n + 1) (child p 1 0) → Among T' (n + 1) (child p 0 1)
          → Among T' (n + 1) (child p 1 1) → ⊥
      no_four p d a b c e = pick (together T' (n + 1) of_map rise m p d a b c e)
        where
          pick : (l : ℕ) × (l < n + 1) × Family m T' l (T' l) p → ⊥
          pick (l, h, f) = old (dec_lt l n)
            where
              three : 3 ≤ l
              three = f.three

              below : (k : ℕ) → 0 < k → k ≤ l → {x : Tile} → T' (l - k) ≡ x → T (l - k) ≡ x
              below k a b q = sym (same (l - k) (omega arith)) ∙ q

              old : Dec (l < n) → ⊥
              old (yes k) =
                  g.stack.no_four p d (l - 3, omega arith, below 3 (omega arith) three f.first)
                  (l - 2, omega arith, below 2 (omega arith) (omega arith) f.second)
                  (l - 1, omega arith, below 1 (omega arith) (omega arith) f.third) (l, k, sym (same l k) ∙ f.fourth)
              old (no k) =
                  let e : l ≡ n = omega arith in
                  let q : Family m T l t p = record {
                    deep = d;
                    three = three;
                    first = below 3 (omega arith) three f.first;
                    second = below 2 (omega arith) (omega arith) f.second;
                    third = below 1 (omega arith) (omega arith) f.third;
                    fourth = sym top ∙ (sym (ap T' e) ∙ f.fourth);
                  } in
                  stop p (rw e at q)
