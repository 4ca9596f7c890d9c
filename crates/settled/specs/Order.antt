-- The order of a list's tiles: strictly in order is where each tile stands before the next.
use Rattle.std.specs.Prelude.{◌≡◌, refl, ◌⊎◌, true, false, Option, Some, None, ℕ, zero, suc, ◌+◌, ◌-◌, ◌≤◌, ◌<◌, length, get_or}
use Rattle.std.proofs.Common.{sym, ap, ◌∙◌, subst, inl, inr, arith}
use Rattle.std.specs.Ordering.{is_le}
use Rattle.std.proofs.lemmas.Bool.{false≢true}
use mathlib.Core.List.{List, [], ◌∷◌, map, Memᴰ}
use Rattle.std.proofs.Math.Decide.{dec_lt}
use Rattle.bits.specs.Tests.{and_parts, all_of, all_in, in_all, get_d_in, in_map, in_get_d}
use Rattle.ids.specs.Entry.{entry_tile, is_entry}
use Rattle.quadtree.specs.Lists.{entry_key}
use Rattle.quadtree.specs.OneTile.{location_inj}
use Rattle.quadtree.specs.declared.Key.TheVariants.{Location}
use Rattle.sort.specs.Rising.{insert_rising}
use Rattle.sort.specs.Sort.{sort_n, Rising}
use Rattle.sort.specs.Sorted.{sort_in}
use Rattle.tile.specs.Order.{Before, tile_order, less_if_before, greater_if_after, equal_if_same, one_before, before_if_less}
use Rattle.std.specs.declared.cmp.Ordering.{Ordering}
use Rattle.std.specs.declared.cmp.Ordering.TheVariants.{Less, Equal, Greater}
use Rattle.tile.specs.declared.Tile.{Tile}
use Rattle.tile_list.specs.Laws.{entry_map}
use Rattle.tile_set.specs.InOrder.{before_irrefl, before_trans}
use Rattle.tile_set.specs.Merged.{is_false}
use Rattle.settled.specs.Settled.{is_less, is_before, strictly_in_order}

pub is_before_lem : (s t : Tile) → is_before s t ≡ true → Before s t
is_before_lem s t e = before_if_less s t (less (tile_order s t) e)
  where
    less : (o : Ordering) → is_less o ≡ true → o ≡ Less
    less Less e = refl
    less Equal e = absurd (false≢true e)
    less Greater e = absurd (false≢true e)

pub before_is : {s t : Tile} → Before s t → is_before s t ≡ true
before_is b = ap is_less (less_if_before b)

-- the i-th tile
abbrev pub tile_at : List ℕ → ℕ → Tile
tile_at list i = entry_tile (get_or list i 0)

rest_entries : (a : ℕ) (l : List ℕ) → all_of is_entry (a ∷ l) ≡ true → all_of is_entry l ≡ true
unfolding all_of
rest_entries a l e = (and_parts (is_entry a) (all_of is_entry l) e).1

-- what the test says of the first entry, and of the others
parts : (a : ℕ) (l : List ℕ) → strictly_in_order (a ∷ l) ≡ true
    → ((n : ℕ) → Memᴰ n l → Before (entry_tile a) (entry_tile n)) × (strictly_in_order l ≡ true)
unfolding strictly_in_order
parts a l e =
    let p = and_parts (all_of (λ b. is_before (entry_tile a) (entry_tile b)) l) (strictly_in_order l) e in
    (λ n m. is_before_lem (entry_tile a) (entry_tile n) (all_in (λ b. is_before (entry_tile a) (entry_tile b)) l p.0 m), p.1)

ordered_rise : (list : List ℕ) → strictly_in_order list ≡ true → (i j : ℕ) → i < j → j < length list → Before (tile_at list i) (tile_at list j)
ordered_rise [] o i j h k = absurd (omega arith)
ordered_rise (a ∷ l) o i zero h k = absurd (omega arith)
ordered_rise (a ∷ l) o zero (suc j) h k = (parts a l o).0 _ (get_d_in l j 0 (omega arith))
ordered_rise (a ∷ l) o (suc i) (suc j) h k = ordered_rise l (parts a l o).1 i j (omega arith) (omega arith)

rise_ordered : (list : List ℕ) → ((i j : ℕ) → i < j → j < length list → Before (tile_at list i) (tile_at list j)) → strictly_in_order list ≡ true
unfolding strictly_in_order
rise_ordered [] f = refl
rise_ordered (a ∷ l) f = rw (first, rise_ordered l (λ i j h k. f (suc i) (suc j) (omega arith) (omega arith)))
  where
    first : all_of (λ b. is_before (entry_tile a) (entry_tile b)) l ≡ true
    first =
        in_all (λ b. is_before (entry_tile a) (entry_tile b)) l (λ n m.
        let s = in_get_d l 0 m in
        before_is (rw s.2 at (f 0 (suc s.0) (omega arith) (omega (arith, s.1)))))

-- the locations of tiles strictly in order are each of one tile, so that in their own order they rise
pub locations_rise : (list : List ℕ) → all_of is_entry list ≡ true → strictly_in_order list ≡ true
    → Rising (sort_n (map (entry_key Location) list))
unfolding sort_n Rising
locations_rise [] e o = tt
locations_rise (a ∷ l) e o =
    insert_rising (entry_key Location a) (sort_n (map (entry_key Location) l)) (locations_rise l (rest_entries a l e) (parts a l o).1) once
  where
    once : Memᴰ (entry_key Location a) (sort_n (map (entry_key Location) l)) → ⊥
    once m =
        let s = in_map (entry_key Location) l (sort_in (map (entry_key Location) l) m) in
        let p = entry_map (a ∷ l) e a (Memᴰ.head refl) in
        let q = entry_map (a ∷ l) e s.0 (Memᴰ.tail s.1) in
        before_irrefl (subst (λ (t : Tile). Before t (entry_tile s.0)) (location_inj (entry_tile a) (entry_tile s.0) p q s.2) ((parts a l o).0 s.0 s.1))

-- what stands before the i-th entry
abbrev pub Last : List ℕ → Option Tile → ℕ → Type 0
Last list None i = i ≡ 0
Last list (Some s) i = (0 < i) × (s ≡ tile_at list (i - 1))

-- the first i tiles rise to `last`
pub record Risen (list : List ℕ) (last : Option Tile) (i : ℕ) : Type 0 where
  pub within : i ≤ length list
  pub rise : (a b : ℕ) → a < b → b < i → Before (tile_at list a) (tile_at list b)
  pub top : Last list last i

pub risen_none : (list : List ℕ) → Risen list None 0
risen_none list = record { within = omega arith; rise = λ a b h k. absurd (omega arith); top = refl }

module _ (list : List ℕ) (last : Option Tile) (i : ℕ) (t : Tile) (R : Risen list last i) (h : i < length list) (e : t ≡ tile_at list i) where
  pub risen_next : ((s : Tile) → last ≡ Some s → Before s t) → Risen list (Some t) (i + 1)
  risen_next below = record { within = omega arith; rise = rise; top = let u : i + 1 - 1 ≡ i = omega arith in (omega arith, rw u e) }
    where
      from : (a : ℕ) → a < i → Before (tile_at list a) t
      from a k = go last refl R.top
        where
          go : (o : Option Tile) → last ≡ o → Last list o i → Before (tile_at list a) t
          go None q z = absurd (omega arith)
          go (Some s) q z = pick (dec_lt a (i - 1))
            where
              b : Before (tile_at list (i - 1)) t
              b = rw z.1 at (below s q)

              pick : Dec (a < i - 1) → Before (tile_at list a) t
              pick (yes l) = before_trans (R.rise a (i - 1) l (omega arith)) b
              pick (no l) = let u : a ≡ i - 1 = omega arith in rw u b

      rise : (a b : ℕ) → a < b → b < i + 1 → Before (tile_at list a) (tile_at list b)
      rise a b k g = pick (dec_lt b i)
        where
          pick : Dec (b < i) → Before (tile_at list a) (tile_at list b)
          pick (yes q) = R.rise a b k q
          pick (no q) = let u : b ≡ i = omega arith in rw (u, ← e) (from a (omega arith))

  pub risen_off : (s : Tile) → last ≡ Some s → (Before s t → ⊥) → false ≡ strictly_in_order list
  risen_off s q off = sym (is_false (strictly_in_order list) never)
    where
      z : Last list (Some s) i
      z = rw q at R.top

      never : strictly_in_order list ≡ true → ⊥
      never o = off (rw (e, z.1) (ordered_rise list o (i - 1) i (omega (arith, z.0)) h))

pub risen_all : (list : List ℕ) (last : Option Tile) (i : ℕ) → Risen list last i → length list ≤ i → true ≡ strictly_in_order list
risen_all list last i R h = sym (rise_ordered list (λ a b k g. R.rise a b k (omega arith)))

-- what comparing two tiles tells
pub not_before : (s t : Tile) → is_le (tile_order t s) ≡ true → Before s t → ⊥
not_before s t e b = false≢true (sym (ap is_le (greater_if_after b)) ∙ e)

pub is_after : (s t : Tile) → is_le (tile_order t s) ≡ false → Before s t
is_after s t e = pick (one_before t s)
  where
    pick : Before t s ⊎ ((t ≡ s) ⊎ Before s t) → Before s t
    pick (inl b) = absurd (false≢true (sym e ∙ ap is_le (less_if_before b)))
    pick (inr (inl f)) = absurd (false≢true (sym e ∙ (ap (λ (u : Tile). is_le (tile_order t u)) (sym f) ∙ ap is_le (equal_if_same t))))
    pick (inr (inr b)) = b
