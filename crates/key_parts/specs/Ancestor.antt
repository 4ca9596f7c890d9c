-- Ancestors of tiles, by division, and the leading parts of keys as their keys.
use Rattle.std.specs.Prelude.{◌≡◌, true, List, ℕ, ◌-◌, ◌/◌, ◌^◌, ◌≤◌, length, take}
use Rattle.std.proofs.Common.{sym, ◌∙◌, length-take-le}
use Rattle.tile.specs.declared.Tile.{Tile}
use Rattle.quadkey.specs.Key.{key_of, all_digits_of, tile_of}
use Rattle.quadkey.specs.Spelling.{key_again}
use Rattle.key_parts.specs.Parts.{shared_length}
use Rattle.key_parts.specs.Leading.{digits_take, spelled_take}
use Rattle.key_parts.specs.Shared.{shared_within, shared_within_second, shared_same, shared_longest}

-- s is t or one of its ancestors: t's x and y, divided by as many twos as zooms lie between, remainders dropped, are its x and y
pub record Ancestor (s t : Tile) : Type 0 where
  pub zoom : s.z ≤ t.z
  pub column : t.x / 2 ^ (t.z - s.z) ≡ s.x
  pub row : t.y / 2 ^ (t.z - s.z) ≡ s.y

pub part_above : (key : List ℕ) (n : ℕ) → n ≤ length key → Ancestor (tile_of (take n key)) (tile_of key)
part_above key n h =
    let l : length (take n key) ≡ n = length-take-le n key h in
    record {
      zoom = rw l h;
      column = rw l (spelled_take 0 n key h);
      row = rw l (spelled_take 1 n key h);
    }

-- an ancestor's own key is the leading part
pub above_part : (s : Tile) (key : List ℕ) → all_digits_of key ≡ true → Ancestor s (tile_of key) → key_of s.x s.y s.z ≡ take s.z key
above_part s key e a =
    let l : length (take s.z key) ≡ s.z = length-take-le s.z key a.zoom in
    let k = key_again (take s.z key) (digits_take s.z key e) in
    rw (← a.column, ← a.row, spelled_take 0 s.z key a.zoom, spelled_take 1 s.z key a.zoom) (rw l at k)

pub shared_above_first : (a b : List ℕ) → Ancestor (tile_of (take (shared_length a b) a)) (tile_of a)
shared_above_first a b = part_above a (shared_length a b) (shared_within a b)

pub shared_above_second : (a b : List ℕ) → Ancestor (tile_of (take (shared_length a b) a)) (tile_of b)
shared_above_second a b = rw (shared_same a b) (part_above b (shared_length a b) (shared_within_second a b))

pub shared_deepest : (a b : List ℕ) → all_digits_of a ≡ true → all_digits_of b ≡ true → (s : Tile) → Ancestor s (tile_of a) → Ancestor s (tile_of b)
    → s.z ≤ shared_length a b
shared_deepest a b d e s f g = shared_longest s.z a b f.zoom g.zoom (sym (above_part s a d f) ∙ above_part s b e g)
