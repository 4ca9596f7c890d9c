-- What the definitions of this crate come to, in document 01's words, and that the Rust gives the same lists. Nothing is assumed.
use Rattle.std.specs.Prelude.{◌≡◌, refl, Bool, true, false, cond, ◌&&◌, ◌↔◌, ℕ, zero, suc, ◌+◌, ◌-◌, ◌*◌, ◌/◌, ◌%◌, ◌^◌, ◌≤◌, ◌<◌, eqb}
use Rattle.std.proofs.Common.{sym, ap, ◌∙◌, pow-suc, arith, pow_pos, ne_eqb}
use mathlib.Core.List.Memᴰ
use mathlib.Core.List.Pairwise
use mathlib.Core.List.{Memᴰ, Nodup}
use Rattle.bits.specs.Checked.{returns, read, fits}
use Rattle.children.specs.Members.{in_gather, into_gather}
use Rattle.children.specs.Children.{gather}
use Rattle.siblings.specs.Laws.{side_most}
use Rattle.siblings.specs.Siblings.{siblings_of}
use Rattle.siblings.specs.Theorems.{rust_siblings_lem, Sibling, exactly_the_others_of_the_family, siblings_on_the_map, each_sibling_once}
use Rattle.tile.specs.OnMap.{OnMap, tile_at}
use Rattle.tile.specs.Rust.{To29}
use Rattle.tile.proofs.Theorems.{power_fits}
use Rattle.tile.specs.declared.Tile.{Tile}
use Rattle.neighbors.specs.Neighbors.{around, near, near_of, order_of, neighbors_of}
use Rattle.neighbors.specs.declared.Seam.{Seam}
use Rattle.neighbors.specs.declared.Seam.TheVariants.{Cut, Wrapped}
use Rattle.neighbors.specs.Squares.{neighbors_deep}
use Rattle.neighbors.specs.AsRust.{none_struck, arm_struck, arm_within, arm_fits, wrapped_block}
use Rattle.neighbors.specs.Members.{around_square, square_around, OnSquare, near_on_square, on_square_near, mem_on_map, square_back}
use Rattle.neighbors.specs.Members.{square_self, around_once}
use Rattle.neighbors.specs.Rust.{TopLeft, edge_by, rust_edge, neighbors_arm, rust_neighbors, rust_neighbors_wrap_x, arm_by, arm_of, tiles_at}
use Rattle.neighbors.specs.Rust.{struck}

-- The Rust is held to tiles of zoom 0 to 29. On them no check fails.

-- "`neighbors`: zoom 0 none, zoom 1 the siblings. Both are compared throughout."
pub rust_neighbors_zoom_0 : (x y : ℕ) → rust_neighbors x y 0 ≡ returns (neighbors_of Cut x y 0)
rust_neighbors_zoom_0 x y = refl

pub rust_neighbors_zoom_1 : (x y : ℕ) → To29 x y 1 → rust_neighbors x y 1 ≡ returns (neighbors_of Cut x y 1)
rust_neighbors_zoom_1 x y = rust_siblings_lem x y 1

-- "From zoom 2 `tile_edge_info` compares with 2^z, so a tile on the right or bottom edge is taken for another kind": of the nine only
-- four are met
pub the_kinds_of_the_map : (x y z : ℕ) → To29 x y z → rust_edge x y z ≡ returns (arm_of x y)
the_kinds_of_the_map x y z m =
    let c = m.column in
    let r = m.row in
    rw (fits 32 (2 ^ z) (power_fits m.zoom), ne_eqb x (2 ^ z) (λ e. omega arith), ne_eqb y (2 ^ z) (λ e. omega arith))
    (pick (eqb x 0) (eqb y 0))
  where
    pick : (a b : Bool) → cond (a && b) (returns TopLeft) (returns (edge_by a b false false)) ≡ returns (arm_by a b)
    pick true true = refl
    pick true false = refl
    pick false true = refl
    pick false false = refl

-- "on those edges our list is that arm's list with off-map tiles struck out", and so it is everywhere
pub that_arms_list_struck_out : (x y z : ℕ) → 2 ≤ z → struck (tiles_at (neighbors_arm (arm_of x y)) x y z) ≡ neighbors_of Cut x y z
that_arms_list_struck_out x y z d =
    arm_struck x y z (eqb x 0) refl (eqb y 0) refl ∙ sym (neighbors_deep Cut x y z (λ e. omega arith) (λ e. omega arith))

-- the list that the Rust gives is that of the arm
pub the_rusts_arm : (x y z : ℕ) → To29 x y z → 2 ≤ z → rust_neighbors x y z ≡ returns (tiles_at (neighbors_arm (arm_of x y)) x y z)
the_rusts_arm x y zero m d = absurd (omega arith)
the_rusts_arm x y (suc zero) m d = absurd (omega arith)
the_rusts_arm x y (suc (suc z)) m d =
    let s = side_most m.zoom in
    rw (the_kinds_of_the_map x y (suc (suc z)) m)
    (arm_fits x y (suc (suc z)) (eqb x 0) refl (eqb y 0) refl (omega (arith, m.column)) (omega (arith, m.row)))

pub rust_neighbors_struck_out : (x y z : ℕ) → To29 x y z → 2 ≤ z → read struck (rust_neighbors x y z) ≡ returns (neighbors_of Cut x y z)
rust_neighbors_struck_out x y z m d = rw (the_rusts_arm x y z m d) (ap returns (that_arms_list_struck_out x y z d))

-- "There the Rust is compared for x and y below 2^z − 1"
pub rust_neighbors_lem : (x y z : ℕ) → 2 ≤ z → z ≤ 29 → x < 2 ^ z - 1 → y < 2 ^ z - 1 → rust_neighbors x y z ≡ returns (neighbors_of Cut x y z)
rust_neighbors_lem x y z d e h k =
    let arm = tiles_at (neighbors_arm (arm_of x y)) x y z in
    the_rusts_arm x y z (record { zoom = e; column = omega arith; row = omega arith }) d
    ∙ ap returns (sym (none_struck arm (arm_within x y z (eqb x 0) (eqb y 0) h k)) ∙ that_arms_list_struck_out x y z d)

-- "`neighbors_wrap_x`, `flipy` as in the Rust."
pub rust_neighbors_wrap_x_lem : (x y z : ℕ) → To29 x y z → rust_neighbors_wrap_x x y z ≡ returns (neighbors_of Wrapped x y z)
rust_neighbors_wrap_x_lem x y zero m = refl
rust_neighbors_wrap_x_lem x y (suc zero) m = rust_siblings_lem x y 1 m
rust_neighbors_wrap_x_lem x y (suc (suc z)) m = wrapped_block x y (suc (suc z)) m

-- a tile of the map beside (x, y, z): of its zoom, at most one column and one row away, and not that tile
pub record Beside (x y z : ℕ) (t : Tile) : Type 0 where
  pub zoom : t.z ≡ z
  pub on_map : (t.x < 2 ^ z) × (t.y < 2 ^ z)
  pub columns : (t.x ≤ x + 1) × (x ≤ t.x + 1)
  pub rows : (t.y ≤ y + 1) × (y ≤ t.y + 1)
  pub another : t.x ≡ x → t.y ≡ y → ⊥

beside_around : (x y z : ℕ) (t : Tile) → Memᴰ t (gather (near x y z) around) ↔ Beside x y z t
beside_around x y z t = (there, back)
  where
    there : Memᴰ t (gather (near x y z) around) → Beside x y z t
    there m =
        let r = in_gather (near x y z) around m in
        let n = around_square Cut r.1 in
        let p = near_on_square x y z r.0 t r.2 in
        record { zoom = p.zoom; on_map = omega arith; columns = omega arith; rows = omega arith; another = λ e f. n.1 (omega arith) }

    back : Beside x y z t → Memᴰ t (gather (near x y z) around)
    back b =
        let s = 3 * (t.x + 1 - x) + (t.y + 1 - y) in
        let c : s / 3 ≡ t.x + 1 - x = omega (arith, b.rows) in
        let r : s % 3 ≡ t.y + 1 - y = omega (arith, b.rows) in
        let p : OnSquare x y z s t =
        record { column = omega arith; row = omega arith; zoom = b.zoom; column_small = b.on_map.0; row_small = b.on_map.1 } in
        into_gather (near x y z) s around
        (square_around s (omega (arith, b.columns, b.rows)) (λ e. b.another (omega arith) (omega arith))) (on_square_near x y z s t p)

-- the neighbours of a tile are just the tiles of the map beside it, at every zoom
pub exactly_the_tiles_beside_it : (x y z : ℕ) (t : Tile) → OnMap x y z → Memᴰ t (neighbors_of Cut x y z) ↔ Beside x y z t
exactly_the_tiles_beside_it x y zero t m =
    let c = m.column in
    let r = m.row in
    (λ k. absurd (Memᴰ.not-nil k), λ b. absurd (b.another (omega (arith, b.on_map)) (omega (arith, b.on_map))))
exactly_the_tiles_beside_it x y (suc zero) t m = (λ k. there (family.0 k), λ b. family.1 (back b))
  where
    family : Memᴰ t (siblings_of x y 1) ↔ Sibling x y 1 t
    family = exactly_the_others_of_the_family x y 1 t

    there : Sibling x y 1 t → Beside x y 1 t
    there s =
        let c = m.column in
        let r = m.row in
        record {
          zoom = s.zoom;
          on_map = omega (arith, s.parent);
          columns = omega (arith, s.parent);
          rows =
              omega (arith, s.parent);
          another = s.another;
        }

    back : Beside x y 1 t → Sibling x y 1 t
    back b =
        let c = m.column in
        let r = m.row in
        record { zoom = b.zoom; parent = omega (arith, b.on_map); another = b.another }
exactly_the_tiles_beside_it x y (suc (suc z)) t m = beside_around x y (suc (suc z)) t

wide : (z : ℕ) → 4 ≤ 2 ^ suc (suc z)
wide z = omega (arith, pow-suc 2 (suc z), pow-suc 2 z, pow_pos z)

-- on either kind of map every neighbour is a tile of the map, ..
pub neighbors_on_the_map : (seam : Seam) (x y z : ℕ) (t : Tile) → OnMap x y z → Memᴰ t (neighbors_of seam x y z)
    → OnMap t.x t.y t.z
neighbors_on_the_map seam x y zero t m k = absurd (Memᴰ.not-nil k)
neighbors_on_the_map seam x y (suc zero) t m k = siblings_on_the_map x y 1 t m (omega arith) k
neighbors_on_the_map seam x y (suc (suc z)) t m k =
    let r = in_gather (near_of seam x y (suc (suc z))) (order_of seam) k in
    mem_on_map seam x y (suc (suc z)) r.0 t m r.2

-- .. none is the tile itself, ..
pub never_the_tile_itself : (seam : Seam) (x y z : ℕ) → OnMap x y z → Memᴰ (tile_at x y z) (neighbors_of seam x y z) → ⊥
never_the_tile_itself seam x y zero m k = Memᴰ.not-nil k
never_the_tile_itself seam x y (suc zero) m k = ((exactly_the_others_of_the_family x y 1 (tile_at x y 1)).0 k).another refl refl
never_the_tile_itself seam x y (suc (suc z)) m k =
    let r = in_gather (near_of seam x y (suc (suc z))) (order_of seam) k in
    let n = around_square seam r.1 in
    let e = square_back seam x y (suc (suc z)) r.0 (tile_at x y (suc (suc z))) m.column (wide z) n.0 r.2 in
    n.1 (sym e ∙ square_self seam x y (suc (suc z)) m.column (wide z))

-- .. and each is there once
pub each_neighbour_once : (seam : Seam) (x y z : ℕ) → OnMap x y z → Nodup (neighbors_of seam x y z)
each_neighbour_once seam x y zero m = Pairwise.nil
each_neighbour_once seam x y (suc zero) m = each_sibling_once x y 1
each_neighbour_once seam x y (suc (suc z)) m = around_once seam x y (suc (suc z)) m.column (wide z)
