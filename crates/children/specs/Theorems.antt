-- What the definitions of this crate come to, in document 01's words, and that the Rust gives the same. Nothing is assumed.
use Rattle.std.specs.Prelude.{◌≡◌, refl, ◌↔◌, ℕ, suc, ◌+◌, ◌-◌, ◌*◌, ◌/◌, ◌%◌, ◌^◌, ◌≤◌, ◌<◌, length, take, drop, get_or, Option, unwrap_or}
use Rattle.std.proofs.Common.{sym, ap, ◌∙◌, div-one, arith, lt-ltb, le-ltb}
use mathlib.Core.List.{List, [], ◌∷◌, ◌++◌, map, flat_map, Memᴰ}
use Rattle.std.proofs.lemmas.List.{length-map}
use Rattle.bits.specs.Bits.{bit}
use Rattle.bits.specs.Checked.{Run, returns, fits}
use Rattle.constants.specs.Limits.{max_zoom}
use Rattle.ids.specs.Entry.{entry_of, entry_tile, entry_refusal, entries_of}
use Rattle.ids.proofs.EntryLemmas.{entry_accepted, entry_tile_again}
use Rattle.ids.specs.Rmid.{level_start}
use Rattle.tile.specs.OnMap.{OnMap, tile_at, on_map_accepted}
use Rattle.tile.specs.Rust.{To29}
use Rattle.tile.specs.declared.Tile.{Tile}
use Rattle.children.specs.Children.{clockwise, z_order, gather, descendants, children_of}
use Rattle.children.specs.Family.{descend_length}
use Rattle.children.specs.Members.{once_at, once_map, gather_part}
use Rattle.children.specs.Queue.{descend_deeper, FindsChildren, queue_all, new_made, rust_clockwise_lem, rust_z_order}
use Rattle.children.specs.Rust.{rust_clockwise, rust_zOrder, rust_descend, rust_children, rust_children_zOrder}
use Rattle.children.specs.Under.{Under, IsFamily, descend_under, under_descend, under_small, descend_once, in_either_order}

-- "each family clockwise (digits 0, 1, 3, 2)", and "0, 1, 2, 3": both orders have each child once
pub clockwise_is_a_family : IsFamily clockwise
clockwise_is_a_family = in_either_order 3 2 (omega arith) (omega arith) (omega arith) (omega arith) (λ e. omega arith)

pub z_order_is_a_family : IsFamily z_order
z_order_is_a_family = in_either_order 2 3 (omega arith) (omega arith) (omega arith) (omega arith) (λ e. omega arith)

-- the last digit of a tile's quadkey
abbrev pub last_digit : Tile → ℕ
last_digit t = 2 * bit t.y 0 + bit t.x 0

child_digits : (x y z : ℕ) (qs : List ℕ) → ((q : ℕ) → Memᴰ q qs → q < 4)
    → map last_digit (gather (λ q. tile_at (2 * x + q % 2) (2 * y + q / 2) (suc z) ∷ []) qs) ≡ qs
unfolding gather
child_digits x y z [] h = refl
child_digits x y z (q ∷ qs) h =
    let l = h q (Memᴰ.head refl) in
    let e : 2 * bit (2 * y + q / 2) 0 + bit (2 * x + q % 2) 0 ≡ q = rw (div-one (2 * y + q / 2), div-one (2 * x + q % 2)) (omega arith) in
    rw (e, child_digits x y z qs (λ r m. h r (Memᴰ.tail m)))

-- "`children` walks each family clockwise (digits 0, 1, 3, 2)"
pub children_walk_clockwise : (x y z : ℕ) → map last_digit (descendants clockwise 1 x y z) ≡ 0 ∷ 1 ∷ 3 ∷ 2 ∷ []
unfolding descendants
children_walk_clockwise x y z = child_digits x y z clockwise (λ q m. (clockwise_is_a_family.digits q).0 m)

-- "`children_zorder` 0, 1, 2, 3"
pub children_in_z_order : (x y z : ℕ) → map last_digit (descendants z_order 1 x y z) ≡ 0 ∷ 1 ∷ 2 ∷ 3 ∷ []
unfolding descendants
children_in_z_order x y z = child_digits x y z z_order (λ q m. (z_order_is_a_family.digits q).0 m)

-- a zoom deeper, each tile gives way to its own children, in the family's order
pub each_family_in_its_order : (family : List ℕ) (d x y z : ℕ)
    → descendants family (suc d) x y z ≡ flat_map (λ t. descendants family 1 t.x t.y t.z) (descendants family d x y z)
each_family_in_its_order = descend_deeper

-- "A target zoom ≤ z gives the tile itself"
pub a_target_above_gives_the_tile : (family : List ℕ) (x y z target : ℕ) → target ≤ z
    → descendants family (target - z) x y z ≡ tile_at x y z ∷ []
unfolding descendants
a_target_above_gives_the_tile family x y z target h = let e : target - z ≡ 0 = omega arith in rw e

-- "For a deeper target each child's descendants fill one quarter": the k-th quarter is the k-th child's
pub each_child_fills_a_quarter : (family : List ℕ) → length family ≡ 4 → (d x y z k : ℕ) → k < 4
    → take (4 ^ d) (drop (k * 4 ^ d) (descendants family (suc d) x y z))
    ≡ descendants family d (2 * x + get_or family k 0 % 2) (2 * y + get_or family k 0 / 2) (suc z)
unfolding descendants
each_child_fills_a_quarter family e d x y z k h = gather_part _ (4 ^ d) (λ q. descend_length family e d _ _ _) family k (rw e h)

-- the descendants are the tiles that lie d zooms under the tile, all of them
pub the_descendants : (family : List ℕ) → IsFamily family → (d x y z : ℕ) (t : Tile)
    → Memᴰ t (descendants family d x y z) ↔ Under d x y z t
the_descendants family f d x y z t =
    (descend_under family (λ q m. (f.digits q).0 m) d x y z t, under_descend family (λ q h. (f.digits q).1 h) d x y z t)

-- and each of them once: at two places there are two tiles
pub each_descendant_once : (family : List ℕ) → IsFamily family → (d x y z i j : ℕ) (none : Tile)
    → i < length (descendants family d x y z) → j < length (descendants family d x y z)
    → get_or (descendants family d x y z) i none ≡ get_or (descendants family d x y z) j none → i ≡ j
each_descendant_once family f d x y z i j none = once_at (descendants family d x y z) (descend_once family f d x y z) i j none

-- so there are 4^d
pub as_many_descendants : (family : List ℕ) → length family ≡ 4 → (d x y z : ℕ) → length (descendants family d x y z) ≡ 4 ^ d
as_many_descendants = descend_length

-- all on the map, where their zoom is
pub descendants_on_the_map : {x y z d : ℕ} {t : Tile} → OnMap x y z → z + d ≤ max_zoom → Under d x y z t → OnMap t.x t.y t.z
descendants_on_the_map m h u = let s = under_small m.column m.row u in record { zoom = rw u.zoom h; column = s.0; row = s.1 }

-- the numbers written are entries, each of its tile
pub entries_lead_back : {x y z d : ℕ} {t : Tile} → OnMap x y z → z + d ≤ max_zoom → Under d x y z t
    → (entry_refusal (entry_of t.x t.y t.z) ≡ 0) × (entry_tile (entry_of t.x t.y t.z) ≡ t)
entries_lead_back {t = t} m h u =
    let n = descendants_on_the_map m h u in
    let e = entry_tile_again t.x t.y t.z n in
    (entry_accepted _ (rw e n), e)

-- and no number is there twice
pub each_entry_once : (family : List ℕ) → IsFamily family → (d : ℕ) {x y z : ℕ} → OnMap x y z → z + d ≤ max_zoom → (i j : ℕ)
    → i < length (entries_of (descendants family d x y z)) → j < length (entries_of (descendants family d x y z))
    → get_or (entries_of (descendants family d x y z)) i 0 ≡ get_or (entries_of (descendants family d x y z)) j 0 → i ≡ j
each_entry_once family f d {x} {y} {z} m h i j =
    once_at _ (once_map _ (descendants family d x y z) (descend_once family f d x y z) same) i j 0
  where
    back : (t : Tile) → Memᴰ t (descendants family d x y z) → entry_tile (entry_of t.x t.y t.z) ≡ t
    back t k = (entries_lead_back m h ((the_descendants family f d x y z t).0 k)).1

    same : (s t : Tile) → Memᴰ s (descendants family d x y z) → Memᴰ t (descendants family d x y z)
        → entry_of s.x s.y s.z ≡ entry_of t.x t.y t.z → s ≡ t
    same s t k l e = sym (back s k) ∙ (ap entry_tile e ∙ back t l)

-- document 03: "a target above 29 is 1 before 2 and 12", above 30 by document 02, whatever else is wrong; the memory is left as it was
pub a_target_too_deep : (family : List ℕ) (x y z target : ℕ) (memory : List ℕ) → max_zoom < target
    → children_of family x y z target memory ≡ record { number = 1; value = 0; memory = memory }
a_target_too_deep family x y z target memory h = rw (lt-ltb _ _ h)

-- a call needs as many places as the tile has descendants at the target zoom: with them it writes them all, and says how many; with
-- fewer it is 12
module _ (family : List ℕ) (size : length family ≡ 4) {x y z : ℕ} (m : OnMap x y z) (target : ℕ) (h : target ≤ max_zoom)
    (memory : List ℕ) where
  count : length (entries_of (descendants family (target - z) x y z)) ≡ 4 ^ (target - z)
  count = length-map (descendants family (target - z) x y z) _ ∙ descend_length family size (target - z) x y z

  pub all_are_written : 4 ^ (target - z) ≤ length memory
      → children_of family x y z target memory
      ≡ record {
        number = 0;
        value = 4 ^ (target - z);
        memory =
            entries_of (descendants family (target - z) x y z) ++ drop (4 ^ (target - z)) memory;
      }
  all_are_written l = rw (le-ltb _ _ h, on_map_accepted m, count, le-ltb _ _ l, count)

  pub memory_too_short : length memory < 4 ^ (target - z)
      → children_of family x y z target memory ≡ record { number = 12; value = 0; memory = memory }
  memory_too_short l = rw (le-ltb _ _ h, on_map_accepted m, count, lt-ltb _ _ l)

-- The Rust is held to tiles of zoom 0 to 29 and targets to 29. On them no check fails, and after as many turns as the zooms between have
-- tiles, or more, its loop has ended with the descendants in our order.
module _ (x y z : ℕ) (zoom : Option ℕ) (turns : ℕ) (on_map : To29 x y z)
    (target : unwrap_or zoom (z + 1) ≤ 29) (enough : level_start (unwrap_or zoom (z + 1) - z) ≤ turns) where
  descended : (family : List ℕ) → IsFamily family → length family ≡ 4 → (four : Tile → Run (List Tile)) → FindsChildren four family
      → rust_descend four turns x y z zoom ≡ returns (descendants family (unwrap_or zoom (z + 1) - z) x y z)
  descended family f e four g =
      let l : z + 1 < 2 ^ 8 = omega (arith, on_map.zoom) in
      rw (fits 8 (z + 1) l, new_made x y z on_map) (queue_all family f e four g (unwrap_or zoom (z + 1)) target x y z on_map turns enough)

  pub rust_children_lem : rust_children turns x y z zoom ≡ returns (descendants clockwise (unwrap_or zoom (z + 1) - z) x y z)
  rust_children_lem = descended clockwise clockwise_is_a_family refl rust_clockwise rust_clockwise_lem

  pub rust_children_zorder : rust_children_zOrder turns x y z zoom ≡ returns (descendants z_order (unwrap_or zoom (z + 1) - z) x y z)
  rust_children_zorder = descended z_order z_order_is_a_family refl rust_zOrder rust_z_order

-- `children1_zorder`: the four tiles that the Rust names
pub rust_children1_zorder : (x y z : ℕ) → To29 x y z → z + 1 ≤ 29
    → rust_zOrder (tile_at x y z) ≡ returns (descendants z_order (z + 1 - z) x y z)
rust_children1_zorder x y z m h = let e : z + 1 - z ≡ 1 = omega arith in rw e (rust_z_order (tile_at x y z) (omega arith) m)
