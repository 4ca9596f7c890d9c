-- What the Rust does with the tiles of several boxes, as functions on values, and that it comes to the same.
use Rattle.std.specs.Prelude.{◌≡◌, refl, ℕ, ◌^◌, ◌≤◌, length}
use Rattle.std.proofs.Common.{ap₂, arith}
use mathlib.Core.List.{List, [], ◌∷◌, ◌++◌, Memᴰ}
use Rattle.tile.specs.declared.Tile.{Tile}
use Rattle.tile_zbox.specs.Laws.{length_small}
use Rattle.tile_zbox.specs.Rust.{boxes_compared}
use Rattle.tile_zbox.specs.declared.TileZBox.{TileZBox}
use Rattle.tile_zbox_iter.specs.RustNext.{state_at, rust_drained, rust_drained_lem}
use Rattle.tile_zbox_numbers.specs.Accepted.{Fine, fine_first, accepted_all_boxes}
use Rattle.tile_zbox_numbers.specs.Boxes.{boxes_of, numbers_refusal}
use Rattle.tile_zboxes_iter.specs.Cursor.{boxes_cursor_at, tiles_of_all}
use Rattle.tile_zboxes_iter.specs.Laws.{as_many_as_the_sum}
use Rattle.tile_zboxes_iter.specs.Theorems.{BoxesCursorGives, every_box_in_its_turn}

-- `flat_map` of the boxes' iterators, each from its start, collected into one `Vec`
unfoldable pub rust_collected : ℕ → List TileZBox → List Tile
rust_collected calls [] = []
rust_collected calls (b ∷ bs) = rust_drained calls b (state_at b.minx b.miny) ++ rust_collected calls bs

-- several of zoom 0 to 29: no box has as many tiles as calls are allowed
abbrev pub AllTo29 : List TileZBox → Type 0
AllTo29 bs = (b : TileZBox) → Memᴰ b bs → b.zoom ≤ 29

pub rust_collected_lem : (bs : List TileZBox) (calls : ℕ) → Fine bs → AllTo29 bs → 2 ^ 61 ≤ calls → rust_collected calls bs ≡ tiles_of_all bs
unfolding rust_collected tiles_of_all
rust_collected_lem [] calls f z h = refl
rust_collected_lem (b ∷ bs) calls f z h =
    let p = fine_first b bs f in
    let c = boxes_compared p.0 (z b (Memᴰ.head refl)) in
    ap₂ ◌++◌ (rust_drained_lem b calls c (omega (arith, length_small p.0)))
    (rust_collected_lem bs calls p.1 (λ b m. z b (Memᴰ.tail m)) h)

-- the `Vec` is then walked from its front to its end: the cursor gives the same tiles in the same order, and no more
pub rust_into_iter : (l : List ℕ) (calls : ℕ) → numbers_refusal l ≡ 0 → AllTo29 (boxes_of l) → 2 ^ 61 ≤ calls
    → BoxesCursorGives l (boxes_cursor_at 0) (rust_collected calls (boxes_of l)) (boxes_cursor_at (length (rust_collected calls (boxes_of l))))
rust_into_iter l calls e z h =
    rw (rust_collected_lem (boxes_of l) calls (accepted_all_boxes l e).fine z h, as_many_as_the_sum (boxes_of l)) (every_box_in_its_turn l e)
