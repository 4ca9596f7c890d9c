-- From the tiles of a set, in any order and some of them twice, to the set as a list: their ranks in order, each once, are its entries.
use Rattle.std.specs.Prelude.{◌≡◌, refl, Bool, true, ℕ, ◌-◌, ◌≤◌, length, take, drop, replicate}
use Rattle.std.proofs.Common.{sym, ap, ◌∙◌, arith, length-append, length-take-le, take_at}
use mathlib.Core.List.Memᴰ
use mathlib.Core.List.{List, [], ◌∷◌, ◌++◌, map, append_assoc, Memᴰ}
use Rattle.std.proofs.lemmas.List.{length-map, length-replicate, take-append-le}
use Rattle.bits.specs.Tests.{in_map, into_map}
use Rattle.constants.specs.Limits.{max_zoom}
use Rattle.ids.specs.Entry.{entries_of}
use Rattle.quadtree.specs.Lists.{sort_key, sort_tile, key_tile_lem, key_rank, rank_entry, TileNumbers}
use Rattle.quadtree.specs.Numbers.{OfMap, rank_of, rank_tile}
use Rattle.quadtree.specs.OneTile.{rank_tile_lem}
use Rattle.quadtree.specs.RankOrder.{before_rank}
use Rattle.sort.specs.Sort.{Rising, Once, sort_n, once_of}
use Rattle.sort.specs.EachOnce.{in_once, once_in}
use Rattle.sort.specs.Rising.{once_rising}
use Rattle.sort.specs.Sorted.{in_sort, sort_in}
use Rattle.quadtree.specs.declared.Key.{Key}
use Rattle.tile.specs.Order.{Before}
use Rattle.tile.specs.declared.Tile.{Tile}
use Rattle.tile_set.specs.Holds.{Valid}
use Rattle.tile_set.specs.InOrder.{Ordered, in_order_is}
use Rattle.tile_list.specs.Laws.{named_by, names, named_within}
use Rattle.quadtree.specs.Locations.{map_tile}
use Rattle.tile_list.specs.List.{named, entries_in_order, filled}

-- tiles, by their ranks, as a list
abbrev pub finished : List Tile → List ℕ
finished ts = map rank_entry (once_of (sort_n (map rank_of ts)))

ranks_entries : (rs : List ℕ) → map rank_entry rs ≡ entries_of (map rank_tile rs)
ranks_entries [] = refl
ranks_entries (r ∷ rs) = ap (λ (l : List ℕ). rank_entry r ∷ l) (ranks_entries rs)

ranks_ordered : (rs : List ℕ) → Rising rs → TileNumbers rank_of rs → Ordered (map rank_tile rs)
unfolding Rising
ranks_ordered [] h k = tt
ranks_ordered (r ∷ rs) h k = (first, ranks_ordered rs h.1 (λ q m. k q (Memᴰ.tail m)))
  where
    first : (t : Tile) → Memᴰ t (map rank_tile rs) → Before (rank_tile r) t
    first t m =
        let s = in_map rank_tile rs m in
        let a = k r (Memᴰ.head refl) in
        let b = k s.0 (Memᴰ.tail s.1) in
        let e : rank_tile r ≡ a.tile = ap rank_tile (sym a.number) ∙ rank_tile_lem a.tile a.on_map in
        let f : t ≡ b.tile = s.2 ∙ (ap rank_tile (sym b.number) ∙ rank_tile_lem b.tile b.on_map) in
        rw (e, f) (before_rank a.tile b.tile a.on_map b.on_map (rw (a.number, b.number) (h.0 s.0 s.1)))

module _ (ts : List Tile) (S : Tile → Bool) (of : (t : Tile) → Memᴰ t ts → OfMap t × (S t ≡ true))
    (in' : (t : Tile) → Valid max_zoom t → S t ≡ true → Memᴰ t ts) where
  abbrev ranks : List ℕ
  ranks = once_of (sort_n (map rank_of ts))

  their : (r : ℕ) → Memᴰ r ranks → (t : Tile) × Memᴰ t ts × (r ≡ rank_of t)
  their r m = in_map rank_of ts (sort_in (map rank_of ts) (once_in (sort_n (map rank_of ts)) m))

  each : TileNumbers rank_of ranks
  each r m = let s = their r m in record { tile = s.0; on_map = (of s.0 s.1).0; number = sym s.2 }

  pub finish_is : finished ts ≡ entries_in_order S
  finish_is = ranks_entries ranks
      ∙ ap entries_of (in_order_is max_zoom S (map rank_tile ranks) (ranks_ordered ranks (once_rising (map rank_of ts)) each) back forth)
    where
      back : (t : Tile) → Memᴰ t (map rank_tile ranks) → Valid max_zoom t × (S t ≡ true)
      back t m =
          let s = in_map rank_tile ranks m in
          let u = their s.0 s.1 in
          let o = of u.0 u.1 in
          let e : t ≡ u.0 = s.2 ∙ (ap rank_tile u.2 ∙ rank_tile_lem u.0 o.0) in
          rw e (record { zoom = o.0.zoom; column = o.0.column; row = o.0.row }, o.1)

      forth : (t : Tile) → Valid max_zoom t → S t ≡ true → Memᴰ t (map rank_tile ranks)
      forth t v e =
          let m = in' t v e in
          Memᴰ.cast (sym (rank_tile_lem t (of t m).0))
          (into_map rank_tile ranks (in_once (sort_n (map rank_of ts)) (in_sort (map rank_of ts) (into_map rank_of ts m))))

-- the keys of a set's tiles, finished, are the set as a list
pub keys_finished : (by : Key) (keys : List ℕ) → TileNumbers (sort_key by) keys
    → finished (map (sort_tile by) keys) ≡ entries_in_order (named (sort_tile by) keys)
keys_finished by keys h = finish_is (map (sort_tile by) keys) (named (sort_tile by) keys) of in'
  where
    of : (t : Tile) → Memᴰ t (map (sort_tile by) keys) → OfMap t × (named (sort_tile by) keys t ≡ true)
    of t m =
        let s = in_map (sort_tile by) keys m in
        let e = names (sort_tile by) keys s.0 t s.1 (sym s.2) in
        (map_tile t (named_within by keys h t e), e)

    in' : (t : Tile) → Valid max_zoom t → named (sort_tile by) keys t ≡ true → Memᴰ t (map (sort_tile by) keys)
    in' t v e = let s = named_by (sort_tile by) keys t e in Memᴰ.cast (sym s.2) (into_map (sort_tile by) keys s.1)

-- the steps of the code: ranks, in order, each once, and the first r of them as entries
map_twice : (by : Key) (keys : List ℕ) → map rank_of (map (sort_tile by) keys) ≡ map (key_rank by) keys
map_twice by [] = refl
map_twice by (k ∷ keys) = ap (λ (l : List ℕ). rank_of (sort_tile by k) ∷ l) (map_twice by keys)

module _ (by : Key) (keys ranked sorted once : List ℕ) (r : ℕ) (h : TileNumbers (sort_key by) keys)
    (e : ranked ≡ map (key_rank by) keys) (f : sorted ≡ sort_n ranked) (o : Once sorted once r) where
  front : take r once ≡ once_of (sort_n (map rank_of (map (sort_tile by) keys)))
  front = o.front ∙ ap once_of (f ∙ ap sort_n (e ∙ sym (map_twice by keys)))

  pub front_ranks : TileNumbers rank_of (take r once)
  front_ranks n m =
      let s = in_map (key_rank by) keys (sort_in _ (once_in _ (rw (o.front ∙ ap once_of (f ∙ ap sort_n e)) at m))) in
      let u = h s.0 s.1 in
      let g : sort_tile by s.0 ≡ u.tile = ap (sort_tile by) (sym u.number) ∙ key_tile_lem by u.tile u.on_map in
      record { tile = u.tile; on_map = u.on_map; number = ap rank_of (sym g) ∙ sym s.2 }

  pub front_entries : (part rest : List ℕ) → part ≡ map rank_entry (take r once)
      → (r ≤ length (part ++ rest)) × (take r (part ++ rest) ≡ finished (map (sort_tile by) keys))
  front_entries part rest g =
      (rw (length-append part rest) (omega (arith, size)), take_at part rest r size ∙ (g ∙ ap (map rank_entry) front))
    where
      size : length part ≡ r
      size = ap length g ∙ (length-map (take r once) rank_entry ∙ length-take-le r once o.within)

-- lent memory that holds a set as a list, with 0 in every place behind it, and how many entries that is
pub record Listed (S : Tile → Bool) (memory : List ℕ) (count : ℕ) : Type 0 where
  pub counted : count ≡ length (entries_in_order S)
  pub left : memory ≡ entries_in_order S ++ replicate (length memory - count) 0

pub finish_listed : (by : Key) (keys part memory : List ℕ) (r : ℕ) (rest : List ℕ) → TileNumbers (sort_key by) keys → r ≤ length part
    → take r part ≡ finished (map (sort_tile by) keys)
    → memory ≡ take r (part ++ rest) ++ replicate (length (part ++ rest) - r) 0 → Listed (named (sort_tile by) keys) memory r
finish_listed by keys part memory r rest h k e f = record {
  counted = sym (length-take-le r part k) ∙ ap length items;
  left = f ∙ (ap (λ (l : List ℕ). l ++ replicate (length (part ++ rest) - r) 0) (take-append-le r part rest k ∙ items)
      ∙ ap (λ (n : ℕ). entries_in_order (named (sort_tile by) keys) ++ replicate (n - r) 0) (sym size));
}
  where
    items : take r part ≡ entries_in_order (named (sort_tile by) keys)
    items = e ∙ keys_finished by keys h

    size : length memory ≡ length (part ++ rest)
    size =
        let g : r ≤ length (part ++ rest) = rw (length-append part rest) (omega arith) in
        ap length f ∙ (length-append (take r (part ++ rest)) (replicate (length (part ++ rest) - r) 0)
        ∙ rw (length-take-le r (part ++ rest) g, length-replicate {A = ℕ} (length (part ++ rest) - r) 0) (omega arith))

-- the answer stands in the part of the memory that was asked for
pub listed_filled : {S : Tile → Bool} {after : List ℕ} {count : ℕ} (places : ℕ) (memory : List ℕ) → Listed S after count
    → length after ≡ places
    → after ++ drop places memory ≡ filled places (entries_in_order S) memory
listed_filled {S} {after} {count} places memory l e =
    ap (λ (k : List ℕ). k ++ drop places memory) (l.left ∙ ap (λ (n : ℕ). entries_in_order S ++ replicate n 0) room)
    ∙ append_assoc (entries_in_order S) (replicate (places - length (entries_in_order S)) 0) (drop places memory)
  where
    room : length after - count ≡ places - length (entries_in_order S)
    room = rw (e, l.counted)
