-- Laws of the Rust's queue: a whole zoom of tiles is worked off in as many turns as it has tiles, and all that is computed fits its bits.
use Rattle.std.specs.Prelude.{◌≡◌, refl, length}
use Rattle.std.proofs.Common.{sym, ◌∙◌, zero-add, suc-add, pow-suc, add-one, pow_mono, lt-ltb, le-ltb}
use Rattle.std.proofs.Math.Path.{ap}
use mathlib.Core.List.{List, [], ◌∷◌, ◌++◌, append_assoc, append-nil, flat_map, Memᴰ}
use Prim.Native.Nat.{ℕ, zero, suc, ◌+◌, ◌-◌, ◌*◌, ◌/◌, ◌%◌, ◌^◌, ◌≤◌, ◌<◌}
use native.Mathlib.Omega.{arith}
use Rattle.bits.specs.Checked.{Run, returns, fits, one_shifted}
use Rattle.ids.specs.Levels.{power_start, start_next}
use Rattle.ids.specs.Rmid.{level_start}
use Rattle.tile.specs.OnMap.{tile_at}
use Rattle.tile.specs.Rust.{To29, rust_new}
use Rattle.tile.specs.declared.Tile.{Tile}
use Rattle.children.specs.Children.{clockwise, z_order, gather, descendants}
use Rattle.children.specs.Family.{descend_length}
use Rattle.children.specs.Members.{flat_gather, gather_same}
use Rattle.children.specs.Rust.{even, odd, rust_child, vec, rust_clockwise, rust_zOrder, rust_queue}
use Rattle.children.specs.Under.{IsFamily, descend_under, under_small, descend_zoom}

-- the children of a tile
abbrev pub children_in : List ℕ → Tile → List Tile
children_in family t = descendants family 1 t.x t.y t.z

-- one zoom deeper: each tile's children in its place
pub descend_deeper : (family : List ℕ) (d x y z : ℕ)
    → descendants family (suc d) x y z ≡ flat_map (children_in family) (descendants family d x y z)
unfolding descendants flat_map
descend_deeper family zero x y z = sym (append-nil _)
descend_deeper family (suc d) x y z =
    gather_same _ _ (λ q. descend_deeper family d (2 * x + q % 2) (2 * y + q / 2) (suc z)) family
    ∙ sym (flat_gather (children_in family) _ family)

-- a tile of the front of the queue: it is worked off, and its four children are found
record Worked (four : Tile → Run (List Tile)) (family : List ℕ) (zoom : ℕ) (t : Tile) : Type 0 where
  above : t.z < zoom
  found : four t ≡ returns (children_in family t)

-- as many turns as tiles at the front, and the queue has their children behind the others
queue_turns : (four : Tile → Run (List Tile)) (family : List ℕ) (zoom n : ℕ) (a b : List Tile)
    → ((t : Tile) → Memᴰ t a → Worked four family zoom t)
    → rust_queue four zoom (length a + n) (a ++ b) ≡ rust_queue four zoom n (b ++ flat_map (children_in family) a)
unfolding rust_queue flat_map
queue_turns four family zoom n [] b h = rw (zero-add n, append-nil b)
queue_turns four family zoom n (t ∷ a) b h =
    let w = h t (Memᴰ.head refl) in
    let l = children_in family t in
    rw (suc-add (length a) n, lt-ltb _ _ w.above, w.found)
    (ap (rust_queue four zoom (length a + n)) (append_assoc a b l)
    ∙ (queue_turns four family zoom n a (b ++ l) (λ u m. h u (Memᴰ.tail m)) ∙ rw (append_assoc b l (flat_map (children_in family) a))))

-- a queue whose tiles have reached the zoom
queue_done : (four : Tile → Run (List Tile)) (zoom n : ℕ) (l : List Tile) → 0 < length l → ((t : Tile) → Memᴰ t l → zoom ≤ t.z)
    → rust_queue four zoom n l ≡ returns l
unfolding rust_queue
queue_done four zoom zero l s h = refl
queue_done four zoom (suc n) [] s h = absurd (omega arith)
queue_done four zoom (suc n) (t ∷ l) s h = rw (le-ltb _ _ (h t (Memᴰ.head refl)))

-- the four tiles that a model names are the children of every tile of the map above zoom 29
abbrev pub FindsChildren : (Tile → Run (List Tile)) → List ℕ → Type 0
FindsChildren four family = (t : Tile) → t.z < 29 → To29 t.x t.y t.z → four t ≡ returns (children_in family t)

module _ (family : List ℕ) (isFamily : IsFamily family) (size : length family ≡ 4)
    (four : Tile → Run (List Tile)) (finds : FindsChildren four family)
    (target : ℕ) (deepest : target ≤ 29) (x y z : ℕ) (on_map : To29 x y z) where
  worked : (d : ℕ) → z + d < target → (t : Tile) → Memᴰ t (descendants family d x y z) → Worked four family target t
  worked d h t m =
      let u = descend_under family (λ q i. (isFamily.digits q).0 i) d x y z t m in
      let s = under_small on_map.column on_map.row u in
      let n : To29 t.x t.y t.z = record { zoom = omega (arith, u.zoom); column = s.0; row = s.1 } in
      record { above = omega (arith, u.zoom); found = finds t (omega (arith, u.zoom)) n }

  -- the turns that take the queue from a tile to its descendants: one for each tile of the zooms between
  queue_level : (n d : ℕ) → d ≤ target - z
      → rust_queue four target (level_start d + n) (tile_at x y z ∷ []) ≡ rust_queue four target n (descendants family d x y z)
  unfolding descendants level_start
  queue_level n zero h = rw (zero-add n)
  queue_level n (suc d) h =
      let l = descendants family d x y z in
      let e : level_start (suc d) + n ≡ level_start d + (length l + n) = omega (arith, start_next d, descend_length family size d x y z) in
      let k : z + d < target = omega arith in
      rw e (queue_level (length l + n) d (omega arith)
      ∙ (rw (append-nil l) at (queue_turns four family target n l [] (worked d k))
      ∙ ap (rust_queue four target n) (sym (descend_deeper family d x y z))))

  pub queue_all : (turns : ℕ) → level_start (target - z) ≤ turns
      → rust_queue four target turns (tile_at x y z ∷ []) ≡ returns (descendants family (target - z) x y z)
  queue_all turns h =
      let d = target - z in
      let l = descendants family d x y z in
      let e : turns ≡ level_start d + (turns - level_start d) = omega arith in
      let s : 0 < length l = omega (arith, descend_length family size d x y z, power_start d) in
      rw e (queue_level (turns - level_start d) d (omega arith)
      ∙ queue_done four target (turns - level_start d) l s (λ t m. omega (arith, descend_zoom family d x y z t m)))

-- `Tile::new` of a tile of zoom 0 to 29
pub new_made : (x y z : ℕ) → To29 x y z → rust_new x y z ≡ returns (tile_at x y z)
new_made x y z m = rw (one_shifted 32 z (omega (arith, m.zoom)), lt-ltb _ _ m.column, lt-ltb _ _ m.row)

-- how a column or a row is computed from the parent's, and how far it stands from twice the parent's
data Half : (ℕ → Run ℕ) → ℕ → Type 0 where
  first : Half even 0
  second : Half odd 1

-- what is computed of a tile above zoom 29 fits its bits
module _ (t : Tile) (above : t.z < 29) (on_map : To29 t.x t.y t.z) where
  side : 2 ^ t.z ≤ 2 ^ 28
  side = pow_mono {j = 28} (omega arith)

  doubled : {f : ℕ → Run ℕ} {i : ℕ} → Half f i → (n : ℕ) → n < 2 ^ t.z → (f n ≡ returns (2 * n + i)) × (2 * n + i < 2 ^ suc t.z)
  doubled first n l =
      let e : n * 2 ≡ 2 * n + 0 = omega arith in
      (fits 32 (n * 2) (omega (arith, side)) ∙ ap returns e, omega (arith, pow-suc 2 t.z))
  doubled second n l =
      let e : n * 2 + 1 ≡ 2 * n + 1 = omega arith in (
        rw (fits 32 (n * 2) (omega (arith, side)), fits 32 (n * 2 + 1) (omega (arith, side))) (ap returns e),
        omega (arith, pow-suc 2 t.z),
      )

  made : {f g : ℕ → Run ℕ} {i j : ℕ} → Half f i → Half g j → rust_child f g t ≡ returns (tile_at (2 * t.x + i) (2 * t.y + j) (suc t.z))
  made p q =
      let c = doubled p t.x on_map.column in
      let r = doubled q t.y on_map.row in
      rw (c.0, r.0, fits 8 (t.z + 1) (omega arith), add-one t.z)
      (new_made _ _ _ (record { zoom = omega arith; column = c.1; row = r.1 }))

pub rust_clockwise_lem : FindsChildren rust_clockwise clockwise
unfolding descendants gather vec
rust_clockwise_lem t h m = rw (made t h m first first, made t h m second first, made t h m second second, made t h m first second)

pub rust_z_order : FindsChildren rust_zOrder z_order
unfolding descendants gather vec
rust_z_order t h m = rw (made t h m first first, made t h m second first, made t h m first second, made t h m second second)
