-- What the Rust does with several boxes, as functions on values, and that for boxes of zoom 0 to 29 it comes to the definitions.
use Rattle.std.specs.Prelude.{◌≡◌, refl, ℕ, ◌+◌, ◌*◌, ◌%◌, ◌^◌, ◌≤◌, ◌<◌, length}
use Rattle.std.proofs.Common.{◌∙◌, mod-eq_of_lt, arith}
use mathlib.Core.List.{List, [], ◌∷◌, map, Memᴰ}
use Rattle.tile_zbox.specs.Box.{flipped, box_length}
use Rattle.tile_zbox.specs.Rust.{Compared, rust_length, rust_box_flipy, rust_length_lem, rust_flipy_lem}
use Rattle.tile_zbox.specs.declared.TileZBox.{TileZBox}
use Rattle.tile_zbox_numbers.specs.Boxes.{sum_lengths}

-- `TileZBoxes::length`: a sum of 64 bits over the boxes
unfoldable pub rust_sum : ℕ → List TileZBox → ℕ
rust_sum total [] = total
rust_sum total (b ∷ bs) = rust_sum ((total + rust_length b) % 2 ^ 64) bs

summed : (bs : List TileZBox) (total : ℕ) → ((b : TileZBox) → Memᴰ b bs → Compared b × (box_length b < 2 ^ 32))
    → total + length bs * 2 ^ 32 ≤ 2 ^ 63
    → rust_sum total bs ≡ total + sum_lengths bs
unfolding rust_sum sum_lengths
summed [] total h l = omega arith
summed (b ∷ bs) total h l =
    let k = h b (Memᴰ.head refl) in
    let e = rust_length_lem b k.0 k.1 in
    let f : (total + box_length b) % 2 ^ 64 ≡ total + box_length b = mod-eq_of_lt (omega (arith, k.1)) in
    rw (e, f) (summed bs (total + box_length b) (λ c m. h c (Memᴰ.tail m)) (omega (arith, k.1)) ∙ omega arith)

-- of up to 32 boxes, each with a product below 2^32
pub rust_boxes_length : (bs : List TileZBox) → ((b : TileZBox) → Memᴰ b bs → Compared b × (box_length b < 2 ^ 32)) → length bs ≤ 32
    → rust_sum 0 bs ≡ sum_lengths bs
rust_boxes_length bs h l = summed bs 0 h (omega arith) ∙ omega arith

-- `TileZBoxes::flipy`
pub rust_boxes_flipy : (bs : List TileZBox) → ((b : TileZBox) → Memᴰ b bs → Compared b) → map rust_box_flipy bs ≡ map flipped bs
rust_boxes_flipy [] h = refl
rust_boxes_flipy (b ∷ bs) h = rw (rust_flipy_lem b (h b (Memᴰ.head refl)), rust_boxes_flipy bs (λ c m. h c (Memᴰ.tail m)))
