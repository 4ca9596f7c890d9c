-- Lists of tiles' numbers: what the calls ask of a list, and what they leave.
use Rattle.std.specs.Prelude.{◌≡◌, refl, ◌⊎◌, Bool, true, false, not, List, [], ◌∷◌, map, ℕ, zero, suc, ◌+◌, ◌≤◌, ◌<◌, length, take, drop, get_or, set}
use Rattle.std.proofs.Common.{sym, ap, subst, ◌∙◌, inl, inr, append-nil, add-one, arith, drop_of_length-le, take_all, length-take-le, get_or-drop, get_or-append-add, eqb-true}
use mathlib.Core.List.Memᴰ
use mathlib.Core.List.{Memᴰ}
use Rattle.std.proofs.lemmas.List.{length-map}
use Rattle.bits.specs.Tests.{not_true, not_false, all_of, all_in, get_d_in}
use Rattle.errors.specs.Memory.{front, front_length, front_more}
use Rattle.ids.specs.Entry.{entry_of, entry_tile, is_entry}
use Rattle.ids.proofs.EntryLemmas.{accepted_entry}
use Rattle.tile.specs.declared.Tile.{Tile}
use Rattle.quadtree.specs.OneTile.{morton_tile_lem, location_tile_lem}
use Rattle.quadtree.specs.declared.Key.{Key}
use Rattle.quadtree.specs.declared.Key.TheVariants.{Location, Morton}
use Rattle.quadtree.specs.Numbers.{OfMap, morton_of, location_of, rank_of, morton_tile, location_tile, rank_tile}

-- the key that a list is sorted by: the location or the Morton code
abbrev pub sort_key : Key → Tile → ℕ
sort_key Location t = location_of t
sort_key Morton t = morton_of t

abbrev pub sort_tile : Key → ℕ → Tile
sort_tile Location k = location_tile k
sort_tile Morton k = morton_tile k

abbrev pub entry_key : Key → ℕ → ℕ
entry_key by e = sort_key by (entry_tile e)

abbrev pub key_rank : Key → ℕ → ℕ
key_rank by k = rank_of (sort_tile by k)

abbrev pub tile_entry : Tile → ℕ
tile_entry t = entry_of t.x t.y t.z

abbrev pub rank_entry : ℕ → ℕ
rank_entry r = tile_entry (rank_tile r)

-- n is the number f of a tile of the map
pub record TileNumber (f : Tile → ℕ) (n : ℕ) : Type 0 where
  pub tile : Tile
  pub on_map : OfMap tile
  pub number : f tile ≡ n

-- what holds of the number of each tile of the map
pub by_tile : {f : Tile → ℕ} {n : ℕ} (P : ℕ → Type 0) → TileNumber f n → ((t : Tile) → OfMap t → P (f t)) → P n
by_tile P k each = subst P k.number (each k.tile k.on_map)

abbrev pub TileNumbers : (Tile → ℕ) → List ℕ → Type 0
TileNumbers f l = (n : ℕ) → Memᴰ n l → TileNumber f n

-- what `keys` answers of a list, and leaves where all of it are entries
pub record Keyed (by : Key) (list left : List ℕ) (fine : Bool) : Type 0 where
  pub answer : fine ≡ all_of is_entry list
  pub keys : fine ≡ true → left ≡ map (entry_key by) list

-- laws

module _ (by : Key) (fine : Bool) (list left : List ℕ) (k : Keyed by list left fine) where
  pub keys_refused : not fine ≡ true → false ≡ all_of is_entry list
  keys_refused e = sym (not_true fine e) ∙ k.answer

  pub keys_fine : not fine ≡ false → true ≡ all_of is_entry list
  keys_fine e = sym (not_false fine e) ∙ k.answer

pub number_at : {f : Tile → ℕ} (l : List ℕ) (i : ℕ) → TileNumbers f l → i < length l → TileNumber f (get_or l i 0)
number_at l i all h = all (get_or l i 0) (get_d_in l i 0 h)

pub key_tile_lem : (by : Key) (t : Tile) → OfMap t → sort_tile by (sort_key by t) ≡ t
key_tile_lem Location t m = location_tile_lem t m
key_tile_lem Morton t m = morton_tile_lem t m

-- what one call leaves, the next may take

map_numbers : {f : Tile → ℕ} (g : ℕ → ℕ) (l : List ℕ) → ((n : ℕ) → Memᴰ n l → TileNumber f (g n)) → TileNumbers f (map g l)
map_numbers g [] each n m = absurd (Memᴰ.not-nil m)
map_numbers {f} g (a ∷ l) each n m = pick (Memᴰ.cases_cons m) (map_numbers g l (λ b i. each b (Memᴰ.tail i)))
  where
    pick : (n ≡ g a) ⊎ Memᴰ n (map g l) → TileNumbers f (map g l) → TileNumber f n
    pick (inl e) rest = rw e (each a (Memᴰ.head refl))
    pick (inr i) rest = rest n i

pub keys_of_tiles : (by : Key) (list : List ℕ) → all_of is_entry list ≡ true → TileNumbers (sort_key by) (map (entry_key by) list)
keys_of_tiles by list e =
    map_numbers (entry_key by) list
    (λ n m. record { tile = entry_tile n; on_map = accepted_entry n (eqb-true _ _ (all_in is_entry list e m)); number = refl })

map_at : (f : ℕ → ℕ) (l : List ℕ) (i : ℕ) → i < length l → get_or (map f l) i 0 ≡ f (get_or l i 0)
map_at f [] i h = absurd (omega arith)
map_at f (n ∷ l) zero h = refl
map_at f (n ∷ l) (suc i) h = map_at f l i (omega arith)

-- memory of the list's length whose first i places have been written over with f of the list's
pub record Mapped (f : ℕ → ℕ) (list memory : List ℕ) (i : ℕ) (left : List ℕ) : Type 0 where
  pub same : length list ≡ length memory
  pub within : i ≤ length list
  pub written : left ≡ front i (map f list) memory

module _ {f : ℕ → ℕ} {list memory left : List ℕ} {i : ℕ} (m : Mapped f list memory i left) where
  pub mapped_length : length left ≡ length memory
  mapped_length =
      let e = length-map list f in
      ap length m.written ∙ front_length i (map f list) memory (omega (arith, m.within)) (omega (arith, m.within, m.same))

  -- the next place stands as it was
  pub mapped_at : get_or left i 0 ≡ get_or memory i 0
  mapped_at =
      let e = length-map list f in
      let l : length (take i (map f list)) ≡ i = length-take-le i (map f list) (omega (arith, m.within)) in
      let z : i + 0 ≡ i = omega arith in
      ap (λ (s : List ℕ). get_or s i 0) m.written
      ∙ (rw (l, z) at (get_or-append-add (take i (map f list)) (drop i memory) 0 0) ∙ rw z at (get_or-drop i memory 0 0))

  pub mapped_next : {v : ℕ} → i < length list → v ≡ f (get_or list i 0) → Mapped f list memory (i + 1) (set left i v)
  mapped_next {v} h e =
      let l = length-map list f in
      let n = front_more i (map f list) memory (omega arith) (omega (arith, m.same)) in
      let s : set left i v ≡ front (i + 1) (map f list) memory = rw (m.written, e, add-one i, ← map_at f list i h) n in
      record { same = m.same; within = omega arith; written = s }

  pub mapped_all : length list ≤ i → left ≡ map f list
  mapped_all h =
      let e = length-map list f in
      m.written ∙ rw (take_all i (map f list) (omega arith), drop_of_length-le memory {i = i} (omega (arith, m.same)))
      (append-nil (map f list))
