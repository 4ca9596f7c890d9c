-- The Rust's `merge`, `simplify_v1` and `simplify` give the sets of the definitions, in whatever order its loops go. D is the map's deepest
-- zoom. The first two hold of all tiles that the Rust has; `simplify` computes children and is held to tiles of zoom 0 to 29.
use Rattle.std.specs.Prelude.{◌≡◌, refl, ◌↔◌, Bool, true, false, ℕ, zero, suc, ◌≤◌, ◌<◌, ltb, length}
use Rattle.std.proofs.Common.{ap, subst, arith, ltb-true, lt-ltb}
use Rattle.std.proofs.Math.Path.{fun_ext}
use mathlib.Core.List.Memᴰ
use mathlib.Core.List.{List, [], ◌∷◌, Memᴰ}
use Rattle.tile.specs.Order.{Before, by_z, by_x, by_y}
use Rattle.tile.specs.declared.Tile.{Tile}
use Rattle.tile_set.specs.Holds.{Valid, valid_parent}
use Rattle.tile_set.specs.InOrder.{before_irrefl, Ordered, in_order_of, in_order_in, in_order_ordered}
use Rattle.tile_set.specs.Merged.{Within, still_joins}
use Rattle.tile_set.specs.Rust.{rust_filed, rust_merge, Orders, rust_roots, rust_simplify_v1, rust_simplify}
use Rattle.tile_set.specs.Rust.{NoRepeats, LoopOrder, Keys, ByZoom, Fair}
use Rattle.tile_set.specs.RustMerge.{rust_merged, rust_changed, group_of}
use Rattle.tile_set.specs.RustSimplify.{rust_simplest}
use Rattle.tile_set.specs.RustSimplifyV1.{rust_roots_lem, while_ends}
use Rattle.tile_set.specs.Set.{joins, merged, uncovered, simplified, simplified_v1, tiles_in_order}
use Rattle.tile_set.specs.Simplified.{simplified_is}
use Rattle.tile_set.specs.Uncovered.{uncovered_within}

-- `merge`: one pass, and `changed` says whether any did
pub the_rusts_merge : (m : ℕ) (S : Tile → Bool) (tiles supertiles : List Tile) → LoopOrder S tiles → Keys m tiles supertiles
    → ((t : Tile) → (rust_merge m tiles supertiles).current t ≡ merged m S t)
    × (((rust_merge m tiles supertiles).changed ≡ true) ↔ ((t : Tile) × (joins m S t ≡ true)))
the_rusts_merge m S tiles supertiles w k = (rust_merged m S tiles supertiles w k, rust_changed m S tiles supertiles w k)

-- `simplify_v1`: under any bound above D on the turns of its second loop, that loop ends by itself
pub the_rusts_simplify_v1 : {D : ℕ} (m : ℕ) (S : Tile → Bool) → Within D S → (tiles : List Tile) → LoopOrder S tiles → ByZoom tiles
    → (o : Orders) → Fair D m o → (turns : ℕ) → D < turns
    → ((t : Tile) → (rust_simplify_v1 turns m o tiles).current t ≡ simplified_v1 D m S t) × ((rust_simplify_v1 turns m o tiles).changed ≡ false)
unfolding simplified_v1
the_rusts_simplify_v1 {D} m S w tiles walk order o fair zero l = absurd (omega arith)
the_rusts_simplify_v1 {D} m S w tiles walk order o fair (suc n) l =
    let roots : rust_roots m tiles ≡ uncovered m S = fun_ext (rust_roots_lem m S tiles walk order) in
    let v = uncovered_within m S w in
    let e = while_ends D m o fair n D (uncovered m S) (omega arith) v (still_joins D m (uncovered m S) v) in
    rw roots (λ t. ap (λ (R : Tile → Bool). R t) e.0, e.1)

-- `simplify`
pub the_rusts_simplify : {D : ℕ} (m : ℕ) (S : Tile → Bool) → Within D S → Within 29 S → (tiles : List Tile)
    → LoopOrder S tiles → ByZoom tiles → (t : Tile) → rust_simplify m tiles t ≡ simplified D m S t
the_rusts_simplify m S w small tiles walk order = simplified_is w (rust_simplest m S small tiles walk order)

-- Orders as these theorems ask for exist: that of `tiles_in_order` is one.
ordered_once : (l : List Tile) → Ordered l → NoRepeats l
ordered_once [] o = tt
ordered_once (a ∷ l) o = (λ i. before_irrefl (o.0 a i), ordered_once l o.1)

before_zoom : {s t : Tile} → Before s t → s.z ≤ t.z
before_zoom (by_z h) = omega arith
before_zoom (by_x e h) = omega arith
before_zoom (by_y e f h) = omega arith

ordered_by_zoom : (l : List Tile) → Ordered l → ByZoom l
ordered_by_zoom [] o = tt
ordered_by_zoom (a ∷ l) o = (λ t i. before_zoom (o.0 t i), ordered_by_zoom l o.1)

pub in_order_walk : {D : ℕ} (S : Tile → Bool) → Within D S → LoopOrder S (tiles_in_order D S) × ByZoom (tiles_in_order D S)
in_order_walk {D} S w =
    let o = in_order_ordered D S in (
      record { just = λ t. (λ i. (in_order_of D S i).1, λ e. in_order_in D S (w t e) e); once = ordered_once (tiles_in_order D S) o },
      ordered_by_zoom (tiles_in_order D S) o,
    )

-- the tiles that have a group
abbrev met : ℕ → List Tile → Tile → Bool
met m tiles p = ltb 0 (length ((rust_filed m tiles).upwards p))

some_in : {A : Type 0} (l : List A) → 0 < length l → (a : A) × Memᴰ a l
some_in [] h = absurd (omega arith)
some_in (a ∷ l) h = (a, Memᴰ.head refl)

in_some : {A : Type 0} {a : A} (l : List A) → Memᴰ a l → 0 < length l
in_some [] i = absurd (Memᴰ.not-nil i)
in_some (b ∷ l) i = omega arith

pub in_order_fair : (D m : ℕ) → (o : Orders) × Fair D m o
in_order_fair D m = (
  record { tiles = λ turn S. tiles_in_order D S; supertiles = λ turn S. tiles_in_order D (met m (tiles_in_order D S)) },
  record {
    walks = λ turn S w. (in_order_walk S w).0;
    keys = λ turn S w p. (
      λ i. some_in (group S p) (ltb-true _ _ (in_order_of D (met m (tiles_in_order D S)) i).1),
      λ (t, i). in_order_in D (met m (tiles_in_order D S)) (valid S w p t i) (lt-ltb _ _ (in_some (group S p) i)),
    );
  },
)
  where
    group : (Tile → Bool) → Tile → List Tile
    group S p = (rust_filed m (tiles_in_order D S)).upwards p

    valid : (S : Tile → Bool) → Within D S → (p t : Tile) → Memᴰ t (group S p) → Valid D p
    valid S w p t i =
        let g = group_of m S (tiles_in_order D S) (in_order_walk S w).0 p t i in
        subst (λ (q : Tile). Valid D q) g.1 (valid_parent (w t g.0))
