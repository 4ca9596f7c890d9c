-- Locations whose runs follow each other: they are the numbers of tiles, rise, and name as many tiles as they are.
use Rattle.std.specs.Prelude.{◌≡◌, refl, ℕ, length}
use Rattle.std.proofs.Common.{sym, ap, ◌∙◌, subst, arith}
use mathlib.Core.List.{List, [], ◌∷◌, map, Memᴰ}
use Rattle.std.proofs.lemmas.List.{length-map}
use Rattle.bits.specs.Tests.{in_map, in_get_d}
use Rattle.quadtree.specs.Lists.{rank_entry, TileNumbers}
use Rattle.quadtree.specs.Locations.{low_pos, IsLocation, tiles, Runs}
use Rattle.quadtree.specs.Numbers.{location_of, location_tile, rank_of}
use Rattle.quadtree.specs.OneTile.{rank_inj}
use Rattle.quadtree.specs.declared.Key.TheVariants.{Location}
use Rattle.sort.specs.At.{rising_by_at}
use Rattle.sort.specs.EachOnce.{in_once, once_in}
use Rattle.sort.specs.Rising.{once_rising, insert_rising, rising_sorted, rising_ext}
use Rattle.sort.specs.Sort.{sort_n, once_of, Rising, By}
use Rattle.sort.specs.Sorted.{sort_in, sort_length, sorted_by_lem}
use Rattle.tile_list.specs.Finish.{keys_finished}
use Rattle.tile_list.specs.List.{named, entries_in_order}

pub runs_numbers : (l : List ℕ) → Runs l → TileNumbers location_of l
runs_numbers l r n m =
    let s = in_get_d l 0 m in
    let p = r.each s.0 s.1 in
    record { tile = tiles l s.0; on_map = p.of_map; number = p.again ∙ s.2 }

runs_rising : (l : List ℕ) → Runs l → Rising l
runs_rising l r =
    rising_by_at l
    (λ i j h k. omega (arith, r.rise i j h k, (r.each i (omega arith)).again, (r.each j k).again, low_pos (tiles l i)))

pub runs_by : (l : List ℕ) → Runs l → By (λ n. n) l
runs_by l r = subst (By (λ n. n)) (rising_sorted l (runs_rising l r)) (sorted_by_lem l)

-- tiles of different locations differ in rank
ranks_rising : (l : List ℕ) → Rising l → ((k : ℕ) → Memᴰ k l → IsLocation k) → Rising (sort_n (map rank_of (map location_tile l)))
unfolding Rising sort_n
ranks_rising [] r each = tt
ranks_rising (x ∷ l) r each =
    insert_rising (rank_of (location_tile x)) (sort_n (map rank_of (map location_tile l)))
    (ranks_rising l r.1 (λ k m. each k (Memᴰ.tail m))) other
  where
    other : Memᴰ (rank_of (location_tile x)) (sort_n (map rank_of (map location_tile l))) → ⊥
    other m =
        let s = in_map rank_of (map location_tile l) (sort_in _ m) in
        let u = in_map location_tile l s.1 in
        let a = each x (Memᴰ.head refl) in
        let b = each u.0 (Memᴰ.tail u.1) in
        let same : location_tile x ≡ location_tile u.0 =
        rank_inj (location_tile x) (location_tile u.0) a.of_map b.of_map (s.2 ∙ ap rank_of u.2) in
        let e : x ≡ u.0 = sym a.again ∙ (ap location_of same ∙ b.again) in
        omega (arith, r.0 u.0 u.1)

pub runs_count : (l : List ℕ) → Runs l → length (entries_in_order (named location_tile l)) ≡ length l
runs_count l r =
    sym (ap length (keys_finished Location l (runs_numbers l r)))
    ∙ (length-map (once_of (sort_n ranks)) rank_entry ∙ (ap length once ∙ (sort_length ranks ∙ as_many)))
  where
    ranks : List ℕ
    ranks = map rank_of (map location_tile l)

    as_many : length ranks ≡ length l
    as_many = length-map (map location_tile l) rank_of ∙ length-map l location_tile

    location : (k : ℕ) → Memᴰ k l → IsLocation k
    location k m = let s = in_get_d l 0 m in rw (← s.2) (r.each s.0 s.1)

    once : once_of (sort_n ranks) ≡ sort_n ranks
    once =
        rising_ext (once_of (sort_n ranks)) (sort_n ranks) (once_rising ranks) (ranks_rising l (runs_rising l r) location)
        (λ n m. once_in (sort_n ranks) m) (λ n m. in_once (sort_n ranks) m)
