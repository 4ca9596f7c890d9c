-- What the definitions of this crate come to, in document 01's words. Nothing is assumed.
use Rattle.std.specs.Prelude.{◌≡◌, ◌↔◌, Bool, true, ℕ, ◌+◌, ◌≤◌, ◌<◌, length}
use Rattle.std.proofs.Common.{sym, ap, ◌∙◌, subst, arith, lt-ltb, le-ltb}
use mathlib.Core.List.{List, Memᴰ}
use Rattle.errors.specs.Answer.{Answer}
use Rattle.tile.specs.Cursor.{step_ended}
use Rattle.tile.specs.OnMap.{OnMap, on_map_accepted}
use Rattle.tile.specs.declared.Tile.{Tile}
use Rattle.tile_zbox.specs.Box.{IsBox, in_box, HoldsTile, contains_of, box_length}
use Rattle.tile_zbox.specs.Laws.{box_accepted, holds_in, in_holds}
use Rattle.tile_zbox.specs.declared.TileZBox.{TileZBox}
use Rattle.tile_zbox_iter.specs.Cursor.{cursor_at, kth_tile, next_of, size_hint_of}
use Rattle.tile_zbox_iter.specs.Tiles.{box_tiles, numbered_from, numbered_all, numbered_length, member_number, number_member}
use Rattle.tile_zbox_iter.specs.Tiles.{kth_holds, index_of, index_below, kth_of_index, index_of_kth, CursorGives, next_ends}
use Rattle.tile_zbox_iter.specs.Tiles.{gives_numbered}

-- "the iterator runs x first, then y": from the start a cursor gives the box's tiles row by row, and is then at its end
pub the_cursor_gives_the_tiles_row_by_row : (b : TileZBox) → IsBox b → CursorGives (cursor_at b 0) (box_tiles b) (cursor_at b (box_length b))
the_cursor_gives_the_tiles_row_by_row b i =
    let e : 0 + box_length b ≡ box_length b = omega arith in
    subst (λ (l : List Tile). CursorGives (cursor_at b 0) l (cursor_at b (box_length b))) (numbered_all b)
    (rw e at (gives_numbered b 0 (box_length b) i (omega arith)))

-- at its end it gives no tile, and stays there
pub then_it_has_ended_for_ever : (b : TileZBox) → IsBox b
    → next_of (cursor_at b (box_length b)) ≡ record { number = 0; value = step_ended (cursor_at b (box_length b)) }
then_it_has_ended_for_ever = next_ends

-- one more given than the box holds is 10
pub past_the_end_is_refused : (b : TileZBox) (k : ℕ) → IsBox b → box_length b < k → (next_of (cursor_at b k)).number ≡ 10
past_the_end_is_refused b k i h = rw (box_accepted i, lt-ltb _ _ h)

-- every tile of the box is given exactly once
pub every_tile_exactly_once : (b : TileZBox) (t : Tile) → HoldsTile b t
    → (k : ℕ) × (k < box_length b) × (kth_tile b k ≡ t) × ((j : ℕ) → kth_tile b j ≡ t → j ≡ k)
every_tile_exactly_once b t h = (index_of b t, index_below b t h, kth_of_index b t h, λ j e. sym (index_of_kth b j) ∙ ap (index_of b) e)

-- and no other is
pub no_other_tile : (b : TileZBox) (k : ℕ) → IsBox b → k < box_length b → HoldsTile b (kth_tile b k)
no_other_tile = kth_holds

-- `length` counts them
pub length_counts_the_tiles : (b : TileZBox) → length (box_tiles b) ≡ box_length b
length_counts_the_tiles b = ap length (sym (numbered_all b)) ∙ numbered_length b 0 (box_length b)

-- `contains_tile` is true exactly for the tiles of the list
pub in_the_list_exactly_if_in_the_box : (b : TileZBox) (t : Tile) → IsBox b → Memᴰ t (box_tiles b) ↔ HoldsTile b t
in_the_list_exactly_if_in_the_box b t i = (there, back)
  where
    there : Memᴰ t (box_tiles b) → HoldsTile b t
    there m =
        let r = member_number b t 0 (box_length b) (subst (λ (l : List Tile). Memᴰ t l) (sym (numbered_all b)) m) in
        let h = r.1 in
        subst (HoldsTile b) r.2 (kth_holds b r.0 i (omega arith))

    back : HoldsTile b t → Memᴰ t (box_tiles b)
    back h =
        let e : 0 + index_of b t ≡ index_of b t = omega arith in
        let m = number_member b 0 (box_length b) (index_of b t) (index_below b t h) in
        subst (λ (l : List Tile). Memᴰ t l) (numbered_all b)
        (subst (λ (s : Tile). Memᴰ s (numbered_from b 0 (box_length b))) (ap (kth_tile b) e ∙ kth_of_index b t h) m)

pub contains_exactly_the_tiles : (b : TileZBox) (t : Tile) → IsBox b → OnMap t.x t.y t.z
    → contains_of b t.x t.y t.z ≡ record { number = 0; value = true } ↔ Memᴰ t (box_tiles b)
contains_exactly_the_tiles b t i m = (
  λ e. (in_the_list_exactly_if_in_the_box b t i).1 (in_holds b t (sym told ∙ ap (λ (a : Answer Bool). a.value) e)),
  λ k. rw (le-ltb _ _ i.zoom, on_map_accepted m, box_accepted i, holds_in b t ((in_the_list_exactly_if_in_the_box b t i).0 k)),
)
  where
    told : (contains_of b t.x t.y t.z).value ≡ in_box b t.x t.y t.z
    told = rw (le-ltb _ _ i.zoom, on_map_accepted m, box_accepted i)

-- `size_hint`: the hint never falls: it is not how many tiles are left
pub the_hint_never_falls : (b : TileZBox) (k : ℕ) → IsBox b → k ≤ box_length b
    → size_hint_of (cursor_at b k) ≡ record { number = 0; value = box_length b }
the_hint_never_falls b k i h = rw (box_accepted i, le-ltb _ _ h)
