-- A list is settled exactly where the locations of its tiles, in order, lie apart with no four siblings among them.
use Rattle.std.specs.Prelude.{◌≡◌, Bool, false, not, ◌&&◌, List, map, ℕ, ◌≤◌, ◌<◌, length, get_or}
use Rattle.std.proofs.Math.Path.{refl}
use Rattle.std.proofs.Common.{sym, ap, ◌∙◌, arith}
use Rattle.std.proofs.Math.Bool.{true}
use Rattle.std.proofs.lemmas.Bool.{false≢true}
use Rattle.bits.specs.Tests.{and_parts, not_true, not_false, all_of}
use Rattle.ids.specs.Entry.{is_entry}
use Rattle.quadtree.specs.Lists.{entry_key, TileNumbers, keys_of_tiles}
use Rattle.quadtree.specs.Numbers.{location_of, location_tile}
use Rattle.quadtree.specs.declared.Key.TheVariants.{Location}
use Rattle.sort.specs.At.{rising_at}
use Rattle.settle.specs.Middle.{location_at}
use Rattle.quadtree.specs.Locations.{start_of, end_of, low_pos, Lie, holding, held, before, after, lies, IsLocation, tiles, Runs}
use Rattle.settle.specs.Stack.{rise_apart}
use Rattle.sort.specs.Sort.{sort_n, Rising}
use Rattle.tile_list.specs.Laws.{keys_named, sort_named, sort_numbers}
use Rattle.tile_list.specs.List.{named, listed}
use Rattle.tile_set.specs.Merged.{Apart, bool_ext}
use Rattle.settled.specs.Answers.{Lone, Tested}
use Rattle.settled.specs.EntryTests.{none_beside, none_with, apart_beside, beside_apart, four_with, with_four}
use Rattle.settled.specs.Order.{locations_rise}
use Rattle.settled.specs.Settled.{strictly_in_order, is_settled}
use Rattle.settled.specs.Walk.{named_among, at_named}

-- runs that follow each other are those of tiles of which none holds another
pub runs_apart : {l : List ℕ} → Runs l → Apart (named location_tile l)
runs_apart {l} r a b p q = rise_apart (tiles l) (length l) (λ i h. (r.each i h).of_map) r.rise (named_among l a p) (named_among l b q)

apart_runs : (l : List ℕ) → TileNumbers location_of l → Rising l → Apart (named location_tile l) → Runs l
apart_runs l numbers up apart = record { each = location_at l numbers; rise = rise }
  where
    rise : (i j : ℕ) → i < j → j < length l → end_of (tiles l i) ≤ start_of (tiles l j)
    rise i j h k = pick (lies (tiles l i) (tiles l j) a.of_map b.of_map)
      where
        a : IsLocation (get_or l i 0)
        a = location_at l numbers i (omega arith)

        b : IsLocation (get_or l j 0)
        b = location_at l numbers j k

        less : location_of (tiles l i) < location_of (tiles l j)
        less = rw (a.again, b.again) (rising_at l up i j h k)

        pick : Lie (tiles l i) (tiles l j) → end_of (tiles l i) ≤ start_of (tiles l j)
        pick (before g) = g
        pick (after g) = absurd (omega (arith, less, low_pos (tiles l i), low_pos (tiles l j)))
        pick (holding g) =
            let e = apart (tiles l i) (tiles l j) (at_named l i (omega arith) refl) (at_named l j k refl) g in
            absurd (omega (arith, less, ap location_of e))
        pick (held g) =
            let e = apart (tiles l j) (tiles l i) (at_named l j k refl) (at_named l i (omega arith) refl) g in
            absurd (omega (arith, less, ap location_of e))

-- the locations of a list's tiles, in order, name the tiles that the list names
pub locations_named : (list : List ℕ) → all_of is_entry list ≡ true → named location_tile (sort_n (map (entry_key Location) list)) ≡ listed list
locations_named list e = sort_named location_tile (map (entry_key Location) list) ∙ keys_named Location list e

-- what the code's steps tell: b says whether the list is strictly in order, and the locations of its tiles are sorted
pub not_in_order : (list locations : List ℕ) (b : Bool) → b ≡ strictly_in_order list → not b ≡ true → Tested list locations false
unfolding is_settled
not_in_order list locations b e f = let g = sym e ∙ not_true b f in
    record { answer = rw g; in_order = λ h. absurd (false≢true h); runs = λ h. absurd (false≢true h) }

module _ (list keys locations : List ℕ) (e : all_of is_entry list ≡ true) (k : keys ≡ map (entry_key Location) list)
    (s : locations ≡ sort_n keys) where
  sorted : locations ≡ sort_n (map (entry_key Location) list)
  sorted = s ∙ ap sort_n k

  pub sorted_locations : TileNumbers location_of locations
  sorted_locations = rw sorted (sort_numbers location_of (map (entry_key Location) list) (keys_of_tiles Location list e))

  same : named location_tile locations ≡ listed list
  same = ap (named location_tile) sorted ∙ locations_named list e

  -- of a settled list the runs follow each other
  pub settled_runs : is_settled list ≡ true → Runs locations
  unfolding is_settled
  settled_runs h =
      let a = and_parts (strictly_in_order list) _ h in
      let b = and_parts (none_beside list) (none_with list) a.1 in
      apart_runs locations sorted_locations (rw sorted (locations_rise list e a.0)) (rw same (beside_apart list b.0))

  module _ (b : Bool) (f : b ≡ strictly_in_order list) (g : not b ≡ false) (r : Bool) (l : Lone locations r) where
    order : strictly_in_order list ≡ true
    order = sym f ∙ not_false b g

    forth : r ≡ true → is_settled list ≡ true
    unfolding is_settled
    forth h =
        let p = l.fine h in
        rw (order, apart_beside list (rw same at (runs_apart p.0)), four_with list (rw same at p.1))

    back : is_settled list ≡ true → r ≡ true
    unfolding is_settled
    back h = pick r refl
      where
        rest : (none_beside list && none_with list) ≡ true
        rest = (and_parts (strictly_in_order list) _ h).1

        pick : (c : Bool) → r ≡ c → r ≡ true
        pick true q = q
        pick false q = absurd (l.off q (settled_runs h) (rw same (with_four list (and_parts (none_beside list) (none_with list) rest).1)))

    pub tested : Tested list locations r
    tested = record { answer = bool_ext r (is_settled list) forth back; in_order = λ h. sorted; runs = λ h. (l.fine h).0 }
