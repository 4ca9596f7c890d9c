-- Which tiles the test `largest_from` keeps, and that the tiles of a cover that no four of which are siblings are those.
use Rattle.std.proofs.Math.Path.{◌≡◌, refl, subst}
use Rattle.std.proofs.Common.{sym, ap, ◌∙◌, true≢false}
use Rattle.std.specs.Prelude.{Bool, ◌&&◌, leb, ltb}
use Rattle.std.proofs.Math.Bool.{true, false, not}
use Prim.Native.Nat.{ℕ, zero, suc, ◌+◌, ◌-◌, ◌≤◌, ◌<◌}
use Rattle.std.proofs.Math.Decide.{dec_lt}
use native.Mathlib.Omega.{arith}
use borrow.Author.Tests.{leb-true, le-leb, lt-ltb, le-ltb}
use Rattle.bits.specs.Tests.{and_parts, not_true}
use Rattle.ground.proofs.Cells.{first_cell, cell_on_map, full_cells, cells_full, full_under}
use Rattle.ground.specs.Ground.{NoFour, full, largest_from}
use Rattle.tile.specs.OnMap.{tile_at}
use Rattle.tile.specs.Order.{tile_ext}
use Rattle.tile.specs.declared.Tile.{Tile}
use Rattle.tile_set.specs.Holds.{Holds, holds_refl, holds_trans, holds_both, holds_level, parent_holds, held_by_four}
use Rattle.tile_set.specs.Holds.{Valid, valid_parent, valid_child}
use Rattle.tile_set.specs.Merged.{is_false, whole_all}
use Rattle.tile_set.specs.Set.{parent_tile, child}
use Rattle.ground.specs.Largest.{Full, Largest, Cover}

module _ (D : ℕ) (G : ℕ → ℕ → Bool) where
  -- what holds a tile strictly, and is full, makes the parent full
  pub parent_full : (s t : Tile) → Holds s t → s.z < t.z → t.z ≤ D → Full D G s → Full D G (parent_tile t)
  parent_full s t h g l = full_under D G s (parent_tile t) (holds_both h (parent_holds t (omega arith)) (omega arith)) (omega arith)

  -- four full siblings make their parent full
  pub four_full : (p : Tile) → p.z < D → ((i j : ℕ) → i < 2 → j < 2 → Full D G (child p i j)) → Full D G p
  unfolding full
  four_full p l f =
      let e : D - p.z ≡ suc (D - suc p.z) = omega arith in
      rw e ((whole_all (full G (D - suc p.z)) p).1 f)

module _ (m D : ℕ) (G : ℕ → ℕ → Bool) where
  above : (t : Tile) → m < t.z → t.z ≤ D → suc (D - t.z) ≡ D - (parent_tile t).z
  above t h l = omega arith

  pub largest_when : (t : Tile) → t.z ≤ D → largest_from m D G t ≡ true → Largest m D G t
  unfolding largest_from
  largest_when t l e =
      let f = and_parts (leb m t.z) _ e in
      let p = and_parts (full G (D - t.z) t) _ f.1 in
      record { floor = leb-true m t.z f.0; filled = p.0; top = λ h k. clash h (rw (← above t h l) at k) (not_true _ p.1) }
    where
      clash : m < t.z → full G (suc (D - t.z)) (parent_tile t) ≡ true
          → (ltb m t.z && full G (suc (D - t.z)) (parent_tile t)) ≡ false → ⊥
      clash h f n = let s = lt-ltb m t.z h in let z : ◌≡◌ {A = ℕ} 0 1 = cc in omega arith

  pub when_largest : (t : Tile) → t.z ≤ D → Largest m D G t → largest_from m D G t ≡ true
  unfolding largest_from
  when_largest t l k = pick (dec_lt m t.z)
    where
      pick : Dec (m < t.z) → (leb m t.z && (full G (D - t.z) t && not (ltb m t.z && full G (suc (D - t.z)) (parent_tile t)))) ≡ true
      pick (yes h) =
          let f = is_false (full G (suc (D - t.z)) (parent_tile t)) (λ e. k.top h (rw (above t h l) at e)) in
          rw (le-leb m t.z k.floor, k.filled, lt-ltb m t.z h, f)
      pick (no h) = rw (le-leb m t.z k.floor, k.filled, le-ltb m t.z (omega arith))

  -- a full tile of zoom m or more lies in a largest one
  pub climb : (z : ℕ) (t : Tile) → t.z ≡ z → m ≤ z → Valid D t → Full D G t → (r : Tile) × Valid D r × Largest m D G r × Holds r t
  climb zero t e g v f = (t, v, record { floor = omega arith; filled = f; top = λ h. absurd (omega arith) }, holds_refl t)
  climb (suc z) t e g v f = pick (full G (D - (parent_tile t).z) (parent_tile t)) refl (dec_lt m t.z) (climb z (parent_tile t))
    where
      Above : Tile → Type 0
      Above u = (r : Tile) × Valid D r × Largest m D G r × Holds r u

      pick : (b : Bool) → full G (D - (parent_tile t).z) (parent_tile t) ≡ b → Dec (m < t.z)
          → ((parent_tile t).z ≡ z → m ≤ z → Valid D (parent_tile t) → Full D G (parent_tile t) → Above (parent_tile t)) → Above t
      pick true k (yes l) up =
          let r = up (omega arith) (omega arith) (valid_parent v) k in
          (r.0, r.1, r.2, holds_trans r.3 (parent_holds t (omega arith)))
      pick true k (no l) up = (t, v, record { floor = omega arith; filled = f; top = λ h. absurd (l h) }, holds_refl t)
      pick false k d up = (t, v, record { floor = omega arith; filled = f; top = λ h p. true≢false (sym p ∙ k) }, holds_refl t)

module _ {D : ℕ} {G : ℕ → ℕ → Bool} {P : Tile → Type 0} (C : Cover D G P) where
  pub fills : (t : Tile) → P t → Full D G t
  fills t p = cells_full D G t (C.of_map t p).zoom (λ X Y h. C.covered X Y t p h)

  module _ (m : ℕ) where
    -- what they cover whole lies in one of them, if no four siblings are of the kind
    whole_held : NoFour m P → (d : ℕ) (t : Tile) → m ≤ t.z → t.z + d ≡ D → Valid D t → full G d t ≡ true → (r : Tile) × P r × Holds r t
    unfolding full
    whole_held none zero t g e v f =
        let k : t.z ≡ D = omega arith in
        let c : tile_at t.x t.y D ≡ t = tile_ext (tile_at t.x t.y D) t refl refl (sym k) in
        let r = C.covers t.x t.y (rw (← k) v.column) (rw (← k) v.row) f in
        (r.0, r.1, subst (λ (u : Tile). Holds r.0 u) c r.2)
    whole_held none (suc d) t g e v f =
        held_by_four P t (none t g)
        (λ i j a b. whole_held none d (child t i j) (omega arith) (omega arith) (valid_child i j v (omega arith) a b)
        ((whole_all (full G d) t).0 f i j a b))

    -- tiles apart from each other, and no four of them siblings: no parent of one is full
    pub parents_not_full : ((s t : Tile) → P s → P t → Holds s t → s ≡ t) → NoFour m P
        → (t : Tile) → P t → m < t.z → Full D G (parent_tile t) → ⊥
    parents_not_full apart none t p h f =
        let v = C.of_map t p in
        let r = whole_held none (D - (parent_tile t).z) (parent_tile t) (omega arith) (omega (arith, v.zoom)) (valid_parent v) f in
        let e : r.0 ≡ t = apart r.0 t r.1 p (holds_trans r.2 (parent_holds t (omega arith))) in
        let z : r.0.z ≡ t.z = ap (λ (u : Tile). u.z) e in
        omega (arith, r.2.above)

    module _ (floor : (t : Tile) → P t → m ≤ t.z) where
      -- a largest tile holds one of them
      pub held_by_largest : (t : Tile) → Valid D t → Largest m D G t → (r : Tile) × P r × Holds t r
      held_by_largest t v k =
          let c = first_cell t v.zoom in
          let b = cell_on_map v c in
          let r = C.covers _ _ b.0 b.1 (full_cells D G t k.filled c) in
          (r.0, r.1, below c r.0 r.1 r.2 (dec_lt r.0.z t.z))
        where
          below : {X Y : ℕ} → Holds t (tile_at X Y D) → (r : Tile) → P r → Holds r (tile_at X Y D) → Dec (r.z < t.z) → Holds t r
          below c r p h (yes a) =
              absurd (k.top (omega (arith, floor r p)) (parent_full D G r t (holds_both h c (omega arith)) a v.zoom (fills r p)))
          below c r p h (no a) = holds_both c h (omega arith)

      -- where no parent is full, they are the largest tiles
      module _ (tops : (t : Tile) → P t → m < t.z → Full D G (parent_tile t) → ⊥) where
        pub is_largest : (t : Tile) → P t → largest_from m D G t ≡ true
        is_largest t p = when_largest m D G t (C.of_map t p).zoom (record { floor = floor t p; filled = fills t p; top = tops t p })

        pub largest_is : (t : Tile) → Valid D t → largest_from m D G t ≡ true → P t
        largest_is t v e =
            let k = largest_when m D G t v.zoom e in
            let r = held_by_largest t v k in
            pick k r.0 r.1 r.2 (dec_lt t.z r.0.z)
          where
            pick : Largest m D G t → (r : Tile) → P r → Holds t r → Dec (t.z < r.z) → P t
            pick k r p h (yes b) = absurd (tops r p (omega (arith, k.floor)) (parent_full D G t r h b (C.of_map r p).zoom k.filled))
            pick k r p h (no b) = subst P (sym (holds_level h (omega arith))) p
