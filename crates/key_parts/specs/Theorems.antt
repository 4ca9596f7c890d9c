-- What the definitions of this crate come to, in the words of document 01. Nothing is assumed.
use Rattle.std.specs.Prelude.{◌≡◌, refl, ◌↔◌, List, ℕ, suc, ◌+◌, ◌-◌, ◌/◌, ◌^◌, ◌≤◌, ◌<◌, length, take}
use Rattle.std.proofs.Common.{sym, add-one, length-take-le, lt-ltb}
use Rattle.tile.specs.OnMap.{tile_at}
use Rattle.tile.specs.declared.Tile.{Tile}
use Rattle.quadkey.specs.Key.{key_of, column_of, row_of, tile_of, key_refusal}
use Rattle.quadkey.specs.Refusals.{accepted_key}
use Rattle.key_parts.specs.Parts.{ancestor_refusal, shared_length, shared_refusal}
use Rattle.key_parts.specs.Leading.{key_above, ancestor_accepted}
use Rattle.key_parts.specs.Shared.{shared_within, shared_accepted}
use Rattle.key_parts.specs.Ancestor.{Ancestor, above_part, shared_above_first, shared_above_second, shared_deepest}

-- the key of a parent is the key without its last digit
pub the_parents_key : (x y z : ℕ) → key_of (x / 2) (y / 2) z ≡ take z (key_of x y (suc z))
the_parents_key x y z = rw (← add-one z) (key_above 48 x y z 1)

-- and n zooms up, without its last n digits
pub the_key_above : (x y z n : ℕ) → key_of (x / 2 ^ n) (y / 2 ^ n) z ≡ take z (key_of x y (z + n))
the_key_above x y z n = key_above 48 x y z n

-- "an ancestor's key is the leading part of the caller's own bytes, for a length up to the key's":
-- n digits are the key of the tile at zoom n, which is the ancestor of the key's tile
pub an_ancestors_key : (key : List ℕ) (n : ℕ) → ancestor_refusal key n ≡ 0
    → (take n key ≡ key_of (column_of key / 2 ^ (length key - n)) (row_of key / 2 ^ (length key - n)) n)
    × Ancestor (tile_at (column_of key / 2 ^ (length key - n)) (row_of key / 2 ^ (length key - n)) n) (tile_of key)
an_ancestors_key key n e =
    let h = ancestor_accepted key n e in
    let up = length key - n in
    let above = tile_at (column_of key / 2 ^ up) (row_of key / 2 ^ up) n in
    let a : Ancestor above (tile_of key) = record { zoom = h.0; column = refl; row = refl } in
    (sym (above_part _ key (accepted_key key h.1).1 a), a)

-- "(longer is 3)", which is tested before the key
pub longer_is_three : (key : List ℕ) (n : ℕ) → length key < n → ancestor_refusal key n ≡ 3
longer_is_three key n h = rw (lt-ltb _ _ h)

-- "of two keys, the key of their deepest shared ancestor is handed back as a part of the first":
-- the tile of that part is an ancestor of both tiles, and every tile that is has no deeper zoom
pub the_deepest_shared_ancestor : (a b : List ℕ) → shared_refusal a b ≡ 0
    → Ancestor (tile_of (take (shared_length a b) a)) (tile_of a)
    × Ancestor (tile_of (take (shared_length a b) a)) (tile_of b)
    × ((s : Tile) → Ancestor s (tile_of a) → Ancestor s (tile_of b) → s.z ≤ (tile_of (take (shared_length a b) a)).z)
the_deepest_shared_ancestor a b e =
    let k = (shared_accepted a b).0 e in
    let l : length (take (shared_length a b) a) ≡ shared_length a b = length-take-le (shared_length a b) a (shared_within a b) in
    (shared_above_first a b, shared_above_second a b, rw l (shared_deepest a b (accepted_key a k.0).1 (accepted_key b k.1).1))

-- two keys are refused together where one of them is
pub two_keys_accepted : (a b : List ℕ) → shared_refusal a b ≡ 0 ↔ (key_refusal a ≡ 0) × (key_refusal b ≡ 0)
two_keys_accepted = shared_accepted
