-- The walk in the middle of a list: which tiles of those read stay, and which tops are passed.
use Rattle.std.specs.Prelude.{◌≡◌, refl, Bool, true, List, ℕ, ◌+◌, ◌/◌, ◌^◌, ◌≤◌, ◌<◌, length, take, get_or, set}
use Rattle.std.proofs.Common.{sym, ap, ◌∙◌, arith, length-set, get_or-set_same, get_or-set_other}
use Rattle.std.proofs.Math.Decide.{dec_lt}
use Rattle.bits.specs.Tests.{get_d_in, in_get_d}
use Rattle.quadtree.specs.Lists.{TileNumbers}
use Rattle.quadtree.specs.Numbers.{OfMap, morton_of, morton_tile, location_of, location_tile}
use Rattle.quadtree.specs.OneTile.{morton_tile_lem}
use Rattle.sort.specs.At.{taken_at, at_taken, by_at, rising_at}
use Rattle.settle.specs.Middle.{location_at}
use Rattle.quadtree.specs.Locations.{end_of, low_pos, low_below, Lie, holding, held, before, after, lies, held_run, IsLocation, tiles}
use Rattle.sort.specs.Sort.{By}
use Rattle.tile.specs.declared.Tile.{Tile}
use Rattle.tile_list.specs.Laws.{named_by, names}
use Rattle.tile_list.specs.List.{named}
use Rattle.tile_set.specs.Holds.{Holds}
use Rattle.tile_set.specs.Merged.{bool_ext}
use Rattle.tile_set.specs.Set.{uncovered}
use Rattle.tile_set.specs.Uncovered.{uncovered_of}
use Rattle.ancestors.specs.Laws.{AncestorsTested, found_goes, tested_stays}
use Rattle.ancestors.specs.Tops.{Tops, Ahead, FirstTop, Uncovers}

module _ {list tops : List ℕ} (T : Tops list tops) (j : ℕ) (h : j < length tops) where
  pub top_location : IsLocation (get_or tops j 0)
  top_location = location_at tops T.numbers j h

  top_named : named location_tile tops (tiles tops j) ≡ true
  top_named = names location_tile tops (get_or tops j 0) (tiles tops j) (get_d_in tops j 0 h) refl

-- the tops, seen from a tile of the list, of location k, behind all those before `from`
module _ {list tops : List ℕ} (T : Tops list tops) {k : ℕ} (s : IsLocation k) (listed : named location_tile list (location_tile k) ≡ true)
    (from : ℕ) (passed : (j : ℕ) → j < from → end_of (tiles tops j) ≤ k) where
  -- the one that holds it
  record Holder : Type 0 where
    index : ℕ
    within : index < length tops
    holds : Holds (tiles tops index) (location_tile k)

  holder : Holder
  holder =
      let r = T.covers (location_tile k) listed in
      let n = named_by location_tile tops r.0 r.1 in
      let a = in_get_d tops 0 n.1 in
      record { index = a.0; within = a.1; holds = rw (a.2, n.2) r.2 }

  abbrev top : Tile
  top = tiles tops holder.index

  ends : k < end_of top
  ends = omega (arith, held_run holder.holds s.of_map, s.again, low_pos (location_tile k))

  pub ahead : Ahead tops from k
  ahead = record { index = holder.index; later = later (dec_lt holder.index from); within = holder.within; ends = ends }
    where
      later : Dec (holder.index < from) → from ≤ holder.index
      later (yes l) = absurd (omega (arith, passed holder.index l, ends))
      later (no l) = omega arith

  module _ {r : ℕ} (F : FirstTop tops from k r) where
    pub passed_more : (j : ℕ) → j < r → end_of (tiles tops j) ≤ k
    passed_more j l = pick (dec_lt j from)
      where
        pick : Dec (j < from) → end_of (tiles tops j) ≤ k
        pick (yes g) = passed j g
        pick (no g) = F.passed j (omega arith) l

    pub first_holds : Holds (tiles tops r) (location_tile k)
    first_holds = pick (dec_lt holder.index r) (dec_lt r holder.index)
      where
        a : IsLocation (get_or tops r 0)
        a = top_location T r F.within

        b : IsLocation (get_or tops holder.index 0)
        b = top_location T holder.index holder.within

        less : r < holder.index → location_of (tiles tops r) < location_of top
        less l = rw (a.again, b.again) (rising_at tops T.rising r holder.index l holder.within)

        same : tiles tops r ≡ top → r < holder.index → ⊥
        same e l = omega (arith, less l, ap location_of e)

        lie : r < holder.index → Lie (tiles tops r) top → ⊥
        lie l (holding g) = same (T.apart _ _ (top_named T r F.within) (top_named T holder.index holder.within) g) l
        lie l (held g) = same (sym (T.apart _ _ (top_named T holder.index holder.within) (top_named T r F.within) g)) l
        lie l (before g) =
            omega (arith, F.ends, (held_run holder.holds s.of_map).0, s.again, low_pos (location_tile k), low_below (location_tile k))
        lie l (after g) = omega (arith, less l, low_pos top)

        pick : Dec (holder.index < r) → Dec (r < holder.index) → Holds (tiles tops r) (location_tile k)
        pick (yes l) g = absurd (omega (arith, passed_more holder.index l, ends))
        pick (no l) (yes g) = absurd (lie g (lies (tiles tops r) top a.of_map b.of_map))
        pick (no l) (no g) = let u : r ≡ holder.index = omega arith in rw u holder.holds

-- q is the Morton code of one of the first i tiles, and that tile stays
abbrev pub Stays : ℕ → List ℕ → ℕ → ℕ → Type 0
Stays m l₀ i q = (n : ℕ) × (n < i) × (uncovered m (named location_tile l₀) (tiles l₀ n) ≡ true) × (q ≡ morton_of (tiles l₀ n))

-- q is one of the first `count` numbers
abbrev pub Stands : List ℕ → ℕ → ℕ → Type 0
Stands l count q = (j : ℕ) × (j < count) × (get_or l j 0 ≡ q)

-- l is l₀ after i numbers: the Morton codes of the tiles that stay stand at the front, and no tile to come lies in a top before `top`
pub record Walk (m : ℕ) (l₀ tops l : List ℕ) (count top i : ℕ) : Type 0 where
  pub order : count ≤ i
  pub within : i ≤ length l
  pub long : length l ≡ length l₀
  pub rest : (j : ℕ) → i ≤ j → get_or l j 0 ≡ get_or l₀ j 0
  pub stays : (j : ℕ) → j < count → Stays m l₀ i (get_or l j 0)
  pub stands : (n : ℕ) → n < i → uncovered m (named location_tile l₀) (tiles l₀ n) ≡ true → Stands l count (morton_of (tiles l₀ n))
  pub passed : (j n : ℕ) → j < top → i ≤ n → n < length l₀ → end_of (tiles tops j) ≤ get_or l₀ n 0

pub walk_begun : {m : ℕ} {l tops : List ℕ} → Walk m l tops l 0 0 0
walk_begun = record {
  order = omega arith;
  within = omega arith;
  long = refl;
  rest = λ j h. refl;
  stays = λ j h. absurd (omega arith);
  stands = λ n h. absurd (omega arith);
  passed = λ j n h. absurd (omega arith);
}

-- the next number
module _ {m : ℕ} {l₀ tops l : List ℕ} {count top i : ℕ} (f : TileNumbers location_of l₀) (o : By (λ n. n) l₀) (T : Tops l₀ tops)
    (W : Walk m l₀ tops l count top i) (h : i < length l) where
  abbrev S : Tile → Bool
  S = named location_tile l₀

  same : get_or l i 0 ≡ get_or l₀ i 0
  same = W.rest i (omega arith)

  pub next_location : IsLocation (get_or l i 0)
  next_location = rw same (location_at l₀ f i (omega (arith, W.long)))

  listed : S (tiles l i) ≡ true
  listed = names location_tile l₀ (get_or l i 0) (tiles l i) (rw same (get_d_in l₀ i 0 (omega (arith, W.long)))) refl

  behind : (j : ℕ) → j < top → end_of (tiles tops j) ≤ get_or l i 0
  behind j g = rw same (W.passed j i g (omega arith) (omega (arith, W.long)))

  pub next_ahead : Ahead tops top (get_or l i 0)
  next_ahead = ahead T next_location listed top behind

  module _ {r : ℕ} (F : FirstTop tops top (get_or l i 0) r) where
    holds : Holds (tiles tops r) (tiles l i)
    holds = first_holds T next_location listed top behind F

    passed : (j n : ℕ) → j < r → i + 1 ≤ n → n < length l₀ → end_of (tiles tops j) ≤ get_or l₀ n 0
    passed j n a b c =
        omega (arith, passed_more T next_location listed top behind F j a, same, by_at l₀ o i n (omega arith) c)

    -- what the code found of the tile: its Morton code q and zoom z, and the Morton code g of the top
    module _ {q g z : ℕ} (morton : q ≡ morton_of (tiles l i)) (above : g ≡ morton_of (tiles tops r)) (zoom : z ≡ (tiles l i).z) where
      pub skipped : (n : ℕ) → m ≤ n → n < z → q / 4 ^ (n + 1) ≡ g → Walk m l₀ tops l count r (i + 1)
      skipped n a b e = record {
        order = omega (arith, W.order);
        within = omega arith;
        long = W.long;
        rest = λ j k. W.rest j (omega arith);
        stays = λ j k. let s = W.stays j k in (s.0, omega (arith, s.1), s.2, s.3);
        stands = stands;
        passed = passed;
      }
        where
          goes : uncovered m S (tiles l i) ≡ true → ⊥
          goes =
              found_goes m T (top_named T r F.within) holds n (top_location T r F.within).of_map next_location.of_map a
              (omega arith)
              (rw (morton, above) at e)

          stands : (k : ℕ) → k < i + 1 → uncovered m S (tiles l₀ k) ≡ true → Stands l count (morton_of (tiles l₀ k))
          stands k c = pick (dec_lt k i)
            where
              pick : Dec (k < i) → uncovered m S (tiles l₀ k) ≡ true → Stands l count (morton_of (tiles l₀ k))
              pick (yes d) u = W.stands k d u
              pick (no d) u = let v : k ≡ i = omega arith in absurd (goes (rw (same, ← v) u))

      pub kept : (steps : ℕ) → steps ≤ m → AncestorsTested q g z steps → Walk m l₀ tops (set l count q) (count + 1) r (i + 1)
      kept steps a b = record {
        order = omega (arith, W.order);
        within = rw (length-set l count q) (omega arith);
        long = length-set l count q ∙ W.long;
        rest = λ j k. other j (λ u. omega (arith, W.order)) ∙ W.rest j (omega arith);
        stays = stays;
        stands = stands;
        passed = passed;
      }
        where
          u : uncovered m S (tiles l i) ≡ true
          u = tested_stays m T (top_named T r F.within) holds steps listed a (rw (morton, above, zoom) at b)

          other : (j : ℕ) → (j ≡ count → ⊥) → get_or (set l count q) j 0 ≡ get_or l j 0
          other j k = get_or-set_other l count j q 0 k

          new : get_or (set l count q) count 0 ≡ morton_of (tiles l i)
          new = get_or-set_same l count q 0 (omega (arith, W.order)) ∙ morton

          stays : (j : ℕ) → j < count + 1 → Stays m l₀ (i + 1) (get_or (set l count q) j 0)
          stays j k = pick (dec_lt j count)
            where
              pick : Dec (j < count) → Stays m l₀ (i + 1) (get_or (set l count q) j 0)
              pick (yes c) = let s = W.stays j c in (s.0, omega (arith, s.1), s.2, other j (λ v. omega arith) ∙ s.3)
              pick (no c) = let v : j ≡ count = omega arith in (i, omega arith, rw same at u, rw (v, ← same) new)

          stands : (n : ℕ) → n < i + 1 → uncovered m S (tiles l₀ n) ≡ true → Stands (set l count q) (count + 1) (morton_of (tiles l₀ n))
          stands n k e = pick (dec_lt n i)
            where
              pick : Dec (n < i) → Stands (set l count q) (count + 1) (morton_of (tiles l₀ n))
              pick (yes c) = let s = W.stands n c e in (s.0, omega (arith, s.1), other s.0 (λ v. omega (arith, s.1)) ∙ s.2)
              pick (no c) = let v : n ≡ i = omega arith in (count, omega arith, rw (v, ← same) new)

-- at the end of the list
module _ {m : ℕ} {l₀ tops l : List ℕ} {count top i : ℕ} (f : TileNumbers location_of l₀) (W : Walk m l₀ tops l count top i)
    (h : length l ≤ i) where
  fits : count ≤ length l
  fits = omega (arith, W.order, W.within)

  on_map : (n : ℕ) → n < i → OfMap (tiles l₀ n)
  on_map n k = (location_at l₀ f n (omega (arith, W.within, W.long))).of_map

  tile : (j n : ℕ) → n < i → get_or l j 0 ≡ morton_of (tiles l₀ n) → morton_tile (get_or l j 0) ≡ tiles l₀ n
  tile j n k e = ap morton_tile e ∙ morton_tile_lem (tiles l₀ n) (on_map n k)

  there : (t : Tile) → named morton_tile (take count l) t ≡ true → uncovered m (named location_tile l₀) t ≡ true
  there t e =
      let s = named_by morton_tile (take count l) t e in
      let a = taken_at l count fits s.1 in
      let b = W.stays a.0 a.1 in
      rw (← s.2, ← a.2, tile a.0 b.0 b.1 b.3) b.2

  back : (t : Tile) → uncovered m (named location_tile l₀) t ≡ true → named morton_tile (take count l) t ≡ true
  back t e =
      let s = named_by location_tile l₀ t (uncovered_of m (named location_tile l₀) t e).0 in
      let a = in_get_d l₀ 0 s.1 in
      let k : a.0 < i = omega (arith, a.1, W.long) in
      let v : tiles l₀ a.0 ≡ t = ap location_tile a.2 ∙ s.2 in
      let b = W.stands a.0 k (rw v e) in
      names morton_tile (take count l) (get_or l b.0 0) t (at_taken l count fits b.0 b.1) (tile b.0 a.0 k b.2 ∙ v)

  pub ended : Uncovers m l₀ l count
  ended = record {
    within = fits;
    numbers = λ n s.
        let a = taken_at l count fits s in
        let b = W.stays a.0 a.1 in
        record { tile = tiles l₀ b.0; on_map = on_map b.0 b.1; number = sym b.3 ∙ a.2 };
    set = λ j t. bool_ext (named morton_tile (take count l) t) (uncovered m (named location_tile l₀) t) (there t) (back t) j;
  }
