-- Request K12, "The same claim above a floor": what `simplify` at a minimum zoom m answers where every tile listed has zoom m or more. All
-- that is claimed stands in this file; proofs/Theorems.antt proves it, with nothing assumed. What comes back of a call is by `simplify_of`,
-- the definition that `simplify` promises; ground stands in the crate `ground`, descendants in `children`.
-- The floor is the request's word for m: a tile above it has a zoom less than m.
use Rattle.std.specs.Prelude.{◌≡◌, ◌↔◌, cond, ℕ, ◌-◌, ◌≤◌, ltb, length}
use mathlib.Core.List.{List, [], ◌∷◌, Memᴰ}
use Rattle.area.specs.Area.{tiles_of, ground_of}
use Rattle.children.specs.Children.{z_order, gather, descendants}
use Rattle.constants.specs.Limits.{max_zoom}
use Rattle.errors.specs.Gives.{answer_of}
use Rattle.ground.specs.Ground.{ground, Same, SettledFrom}
use Rattle.ids.specs.Entry.{entry_tile, entries_of}
use Rattle.merge.specs.Merge.{simplify_of, simplify_v1_of}
use Rattle.plate_table.specs.Kept.{tile, first_child, both, one}
use Rattle.tile.specs.declared.Tile.{Tile}
use Rattle.tile_list.specs.List.{listed, entries_in_order}
use Rattle.tile_set.specs.Holds.{Holds, Valid}

-- "settle with `simplify` at that m": the answer of the call that lends this memory
abbrev pub settled_at : ℕ → List ℕ → List ℕ → List ℕ
settled_at m list memory = answer_of (simplify_of list m memory)

-- a call of the kind that the request speaks of
pub record AtFloor (m : ℕ) (list memory : List ℕ) : Type 0 where
  -- "a chosen zoom m from 0 to the limit"
  pub limit : m ≤ max_zoom
  -- "Where every tile listed has zoom m or more"
  pub floor : (n : ℕ) → Memᴰ n list → m ≤ (entry_tile n).z
  -- the call is not refused
  pub accepted : (simplify_of list m memory).number ≡ 0

-- in place of a tile above the floor "its descendants at m", those of `children`; any other tile stays
abbrev pub in_place_of : ℕ → Tile → List Tile
in_place_of m t = cond (ltb t.z m) (descendants z_order (m - t.z) t.x t.y t.z) (t ∷ [])

-- "each tile above the floor replaced by its descendants at m"
abbrev pub cut_down_of : ℕ → List ℕ → List ℕ
cut_down_of m list = entries_of (gather (λ n. in_place_of m (entry_tile n)) list)

-- "all put in list order": the tiles that are named, each once
abbrev pub in_list_order : List ℕ → List ℕ
in_list_order list = entries_in_order (listed list)

pub record AboveTheFloor (m : ℕ) (list memory : List ℕ) : Type 0 where
  -- "equal ground gives equal lists": of any two lists of that kind, and only equal ground does
  pub same_ground : (other lent : List ℕ) → AtFloor m other lent
      → (settled_at m list memory ≡ settled_at m other lent) ↔ Same max_zoom (ground_of list) (ground_of other)
  -- "no exact cover by tiles of zoom m or deeper is shorter": repeats and overlaps allowed
  pub least : (tiles : List Tile) → ((t : Tile) → Memᴰ t tiles → Valid max_zoom t) → ((t : Tile) → Memᴰ t tiles → m ≤ t.z)
      → Same max_zoom (ground max_zoom tiles) (ground_of list) → (simplify_of list m memory).value ≤ length tiles
  -- the answer is such a cover itself, of as many tiles as the count says, in order, no tile beside its own ancestor, and no four siblings
  -- together where their parent has zoom m or more
  pub covers : Same max_zoom (ground_of (settled_at m list memory)) (ground_of list)
  pub counted : (simplify_of list m memory).value ≡ length (settled_at m list memory)
  pub settled : SettledFrom m max_zoom (tiles_of (settled_at m list memory))
  -- "the list settled at 0": that call, on the same list and memory, is not refused either
  pub also_at_0 : AtFloor 0 list memory
  -- "it is the list settled at 0 with each tile above the floor replaced by its descendants at m, all put in list order"
  pub cut_down : settled_at m list memory ≡ in_list_order (cut_down_of m (settled_at 0 list memory))
  -- putting them in order drops none: no tile comes twice
  pub none_twice : length (cut_down_of m (settled_at 0 list memory)) ≡ (simplify_of list m memory).value
  -- settling the answer once more, in any memory that has room for it, is not refused and changes nothing
  pub once_more : (lent : List ℕ) → length (settled_at m list memory) ≤ length lent
      → AtFloor m (settled_at m list memory) lent × (settled_at m (settled_at m list memory) lent ≡ settled_at m list memory)

-- "`simplify_v1` is left out, since above m = 0 it can keep a tile beside its ancestor": document 01's plate at m = 1. Of a tile of zoom 1
-- and its first child `simplify_v1` keeps both; the tile alone has the same ground, and is what `simplify` answers.
pub record LeftOut (memory : List ℕ) : Type 0 where
  pub ancestor : Holds tile first_child
  pub of_the_kind : AtFloor 1 (entries_of both) memory
  pub keeps_both : answer_of (simplify_v1_of (entries_of both) 1 memory) ≡ entries_of both
  pub shorter : settled_at 1 (entries_of both) memory ≡ entries_of one
  pub same_ground : Same max_zoom (ground_of (entries_of one)) (ground_of (entries_of both))
