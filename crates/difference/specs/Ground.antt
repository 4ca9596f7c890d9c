-- What is left covers: of the deepest tiles under t those that no tile taken away holds. And no tile that is left could be larger.
use Rattle.std.specs.Prelude.{◌≡◌, refl, Bool, true, false, ◌⊎◌, ◌↔◌, ℕ, zero, suc, ◌+◌, ◌-◌, ◌≤◌, ◌<◌}
use Rattle.std.proofs.Common.{sym, ap, ◌∙◌, subst, true≢false, inl, inr, arith}
use mathlib.Core.List.Memᴰ
use mathlib.Core.List.{List, [], ◌∷◌, ◌++◌, Memᴰ}
use Rattle.std.proofs.Math.Decide.{dec_le}
use Rattle.bits.specs.Tests.{any_of, in_any, any_in}
use Rattle.tile.specs.declared.Tile.{Tile}
use Rattle.tile_set.specs.Holds.{Holds, holds_refl, holds_trans, holds_both, holds_level, child_held, in_a_child, parent_of_child, Valid}
use Rattle.tile_set.specs.Holds.{valid_child}
use Rattle.tile_set.specs.Set.{child, parent_tile}
use Rattle.difference.specs.Left.{holds, of_four, left_of, left_of_all}
use Rattle.difference.specs.Holding.{Bare, holds_true, true_holds, left_dropped, left_kept, left_four}

-- a tile of the list holds c
abbrev pub HeldBy : List Tile → Tile → Type 0
HeldBy l c = (s : Tile) × Memᴰ s l × Holds s c

in_four : (f : Tile → List Tile) (t : Tile) {s : Tile} → Memᴰ s (of_four f t)
    → (i : ℕ) × (j : ℕ) × (i < 2) × (j < 2) × Memᴰ s (f (child t i j))
in_four f t {s} m = one (Memᴰ.append_cases (f (child t 0 0)) m)
  where
    three : Memᴰ s (f (child t 0 1)) ⊎ Memᴰ s (f (child t 1 1))
        → (i : ℕ) × (j : ℕ) × (i < 2) × (j < 2) × Memᴰ s (f (child t i j))
    three (inl k) = (0, 1, omega arith, omega arith, k)
    three (inr k) = (1, 1, omega arith, omega arith, k)

    two : Memᴰ s (f (child t 1 0)) ⊎ Memᴰ s (f (child t 0 1) ++ f (child t 1 1))
        → (i : ℕ) × (j : ℕ) × (i < 2) × (j < 2) × Memᴰ s (f (child t i j))
    two (inl k) = (1, 0, omega arith, omega arith, k)
    two (inr k) = three (Memᴰ.append_cases (f (child t 0 1)) k)

    one : Memᴰ s (f (child t 0 0)) ⊎ Memᴰ s (f (child t 1 0) ++ (f (child t 0 1) ++ f (child t 1 1)))
        → (i : ℕ) × (j : ℕ) × (i < 2) × (j < 2) × Memᴰ s (f (child t i j))
    one (inl k) = (0, 0, omega arith, omega arith, k)
    one (inr k) = two (Memᴰ.append_cases (f (child t 1 0)) k)

four_in : (f : Tile → List Tile) (t : Tile) {s : Tile} (i j : ℕ) → i < 2 → j < 2 → Memᴰ s (f (child t i j)) → Memᴰ s (of_four f t)
four_in f t zero zero a b m = Memᴰ.append_left _ m
four_in f t (suc zero) zero a b m = Memᴰ.append_right (f (child t 0 0)) (Memᴰ.append_left _ m)
four_in f t zero (suc zero) a b m = Memᴰ.append_right (f (child t 0 0)) (Memᴰ.append_right (f (child t 1 0)) (Memᴰ.append_left _ m))
four_in f t (suc zero) (suc zero) a b m =
    Memᴰ.append_right (f (child t 0 0)) (Memᴰ.append_right (f (child t 1 0)) (Memᴰ.append_right (f (child t 0 1)) m))
four_in f t (suc (suc i)) j a b m = absurd (omega arith)
four_in f t zero (suc (suc j)) a b m = absurd (omega arith)
four_in f t (suc zero) (suc (suc j)) a b m = absurd (omega arith)

module _ (D : ℕ) (gone : List Tile) (deep : (g : Tile) → Memᴰ g gone → g.z ≤ D) where
  -- the three ways that it goes with a tile
  data Way (t : Tile) (d : ℕ) : Type 0 where
    dropped : (g : Tile) → Memᴰ g gone → Holds g t → left_of d gone t ≡ [] → Way t d
    kept : Bare gone t → ((g : Tile) → Memᴰ g gone → Holds t g → ⊥) → left_of d gone t ≡ t ∷ [] → Way t d
    parted : (g : Tile) → Memᴰ g gone → Holds t g → (e : ℕ) → d ≡ suc e → left_of d gone t ≡ of_four (left_of e gone) t → Way t d

  way : (d : ℕ) (t : Tile) → t.z + d ≡ D → Way t d
  way d t e = first (any_of (λ g. holds g t) gone) refl
    where
      under : (d : ℕ) → t.z + d ≡ D → Bare gone t → (g : Tile) → Memᴰ g gone → Holds t g → Way t d
      under zero e f g m h =
          let l : g.z ≤ t.z = omega (arith, deep g m) in
          absurd (f g m (subst (λ (u : Tile). Holds u t) (holds_level h l) (holds_refl t)))
      under (suc d) e f g m h = parted g m h d refl (left_four gone t d g m h f)

      second : (b : Bool) → any_of (holds t) gone ≡ b → Bare gone t → Way t d
      second true a f = let s = any_in (holds t) gone a in under d e f s.0 s.1 (holds_true t s.0 s.2)
      second false a f =
          let none : (g : Tile) → Memᴰ g gone → Holds t g → ⊥ =
          λ g m h. true≢false (sym (in_any (holds t) gone m (true_holds h)) ∙ a) in
          kept f none (left_kept gone t d f none)

      first : (b : Bool) → any_of (λ g. holds g t) gone ≡ b → Way t d
      first true a =
          let s = any_in (λ g. holds g t) gone a in
          let h = holds_true s.0 t s.2 in
          dropped s.0 s.1 h (left_dropped gone t d s.0 s.1 h)
      first false a =
          second (any_of (holds t) gone) refl (λ g m h. true≢false (sym (in_any (λ g. holds g t) gone m (true_holds h)) ∙ a))

  -- what holds of a tile if it holds of its children where it is parted
  by_levels : (P : ℕ → Tile → Type 0)
      → ((d : ℕ) (t : Tile) → t.z + d ≡ D → Way t d → ((e : ℕ) → d ≡ suc e → (i j : ℕ) → i < 2 → j < 2 → P e (child t i j)) → P d t)
      → (d : ℕ) (t : Tile) → t.z + d ≡ D → P d t
  by_levels P f zero t e = f zero t e (way zero t e) (λ n h i j a b. absurd (omega arith))
  by_levels P f (suc d) t e = f (suc d) t e (way (suc d) t e) (λ n h i j a b. let k : d ≡ n = omega arith in
      subst (λ (m : ℕ). P m (child t i j)) k (by_levels P f d (child t i j) (omega arith)))

  -- no tile that is taken away holds c
  abbrev Spared : Tile → Type 0
  Spared c = (g : Tile) → Memᴰ g gone → Holds g c → ⊥

  module _ (c : Tile) (level : c.z ≡ D) where
    covered_then : (d : ℕ) (t : Tile) → t.z + d ≡ D → HeldBy (left_of d gone t) c → Holds t c × Spared c
    covered_then = by_levels (λ d t. HeldBy (left_of d gone t) c → Holds t c × Spared c) step
      where
        step : (d : ℕ) (t : Tile) → t.z + d ≡ D → Way t d
            → ((e : ℕ) → d ≡ suc e → (i j : ℕ) → i < 2 → j < 2 → HeldBy (left_of e gone (child t i j)) c → Holds (child t i j) c × Spared c)
            → HeldBy (left_of d gone t) c → Holds t c × Spared c
        step d t e (dropped g n k f) below v = absurd (Memᴰ.not-nil (rw f at v.1))
        step d t e (kept bare none f) below v =
            let h : Holds t c = subst (λ (u : Tile). Holds u c) (Memᴰ.eq_of_singleton (rw f at v.1)) v.2 in
            (h, λ g m k. apart g m k h (dec_le g.z t.z))
          where
            apart : (g : Tile) → Memᴰ g gone → Holds g c → Holds t c → Dec (g.z ≤ t.z) → ⊥
            apart g m k h (yes l) = bare g m (holds_both k h l)
            apart g m k h (no l) = none g m (holds_both h k (omega arith))
        step d t e (parted g n k b q f) below v =
            let s = in_four (left_of b gone) t (rw f at v.1) in
            let r = below b q s.0 s.1 s.2 s.3 (v.0, s.4, v.2) in
            (holds_trans (child_held t s.0 s.1 s.2 s.3) r.0, r.1)

    then_covered : (d : ℕ) (t : Tile) → t.z + d ≡ D → Holds t c → Spared c → HeldBy (left_of d gone t) c
    then_covered = by_levels (λ d t. Holds t c → Spared c → HeldBy (left_of d gone t) c) step
      where
        step : (d : ℕ) (t : Tile) → t.z + d ≡ D → Way t d
            → ((e : ℕ) → d ≡ suc e → (i j : ℕ) → i < 2 → j < 2 → Holds (child t i j) c → Spared c → HeldBy (left_of e gone (child t i j)) c)
            → Holds t c → Spared c → HeldBy (left_of d gone t) c
        step d t e (dropped g n k f) below h w = absurd (w g n (holds_trans k h))
        step d t e (kept bare none f) below h w = (t, rw f (Memᴰ.head refl), h)
        step d t e (parted g n k b q f) below h w =
            let s = in_a_child h (omega arith) in
            let r = below b q s.0 s.1 s.2 s.3 s.4 w in
            (r.0, rw f (four_in (left_of b gone) t s.0 s.1 s.2 s.3 r.1), r.2)

    pub left_covers : (t : Tile) → t.z ≤ D
        → HeldBy (left_of (D - t.z) gone t) c ↔ (Holds t c × ((g : Tile) → Memᴰ g gone → Holds g c → ⊥))
    left_covers t h = (covered_then (D - t.z) t (omega arith), λ w. then_covered (D - t.z) t (omega arith) w.0 w.1)

  -- s is t, or its parent lies in t and holds a tile that is taken away
  abbrev pub Needed : Tile → Tile → Type 0
  Needed t s = (s ≡ t) ⊎ (Holds t (parent_tile s) × ((g : Tile) × Memᴰ g gone × Holds (parent_tile s) g))

  left_needed_at : (d : ℕ) (t : Tile) → t.z + d ≡ D → (s : Tile) → Memᴰ s (left_of d gone t) → Needed t s
  left_needed_at = by_levels (λ d t. (s : Tile) → Memᴰ s (left_of d gone t) → Needed t s) step
    where
      step : (d : ℕ) (t : Tile) → t.z + d ≡ D → Way t d
          → ((e : ℕ) → d ≡ suc e → (i j : ℕ) → i < 2 → j < 2 → (s : Tile) → Memᴰ s (left_of e gone (child t i j))
          → Needed (child t i j) s)
          → (s : Tile) → Memᴰ s (left_of d gone t) → Needed t s
      step d t e (dropped g n k f) below s m = absurd (Memᴰ.not-nil (rw f at m))
      step d t e (kept bare none f) below s m = inl (Memᴰ.eq_of_singleton (rw f at m))
      step d t e (parted g n k b q f) below s m =
          let r = in_four (left_of b gone) t (rw f at m) in
          up r.0 r.1 r.2 r.3 (below b q r.0 r.1 r.2 r.3 s r.4)
        where
          up : (i j : ℕ) → i < 2 → j < 2 → Needed (child t i j) s → Needed t s
          up i j x y (inl a) =
              let p : parent_tile s ≡ t = ap parent_tile a ∙ parent_of_child t i j x y in
              inr (rw p (holds_refl t), (g, n, rw p k))
          up i j x y (inr a) = inr (holds_trans (child_held t i j x y) a.0, a.1)

  pub left_needed : (t : Tile) → t.z ≤ D → (s : Tile) → Memᴰ s (left_of (D - t.z) gone t) → Needed t s
  left_needed t h = left_needed_at (D - t.z) t (omega arith)

  left_valid_at : (d : ℕ) (t : Tile) → t.z + d ≡ D → Valid D t → (s : Tile) → Memᴰ s (left_of d gone t) → Valid D s
  left_valid_at = by_levels (λ d t. Valid D t → (s : Tile) → Memᴰ s (left_of d gone t) → Valid D s) step
    where
      step : (d : ℕ) (t : Tile) → t.z + d ≡ D → Way t d
          → ((e : ℕ) → d ≡ suc e → (i j : ℕ) → i < 2 → j < 2 → Valid D (child t i j) → (s : Tile)
          → Memᴰ s (left_of e gone (child t i j)) → Valid D s)
          → Valid D t → (s : Tile) → Memᴰ s (left_of d gone t) → Valid D s
      step d t e (dropped g n k f) below v s m = absurd (Memᴰ.not-nil (rw f at m))
      step d t e (kept bare none f) below v s m = rw (Memᴰ.eq_of_singleton (rw f at m)) v
      step d t e (parted g n k b q f) below v s m =
          let r = in_four (left_of b gone) t (rw f at m) in
          below b q r.0 r.1 r.2 r.3 (valid_child r.0 r.1 v (omega arith) r.2 r.3) s r.4

  pub left_valid : (t : Tile) → Valid D t → (s : Tile) → Memᴰ s (left_of (D - t.z) gone t) → Valid D s
  left_valid t v = left_valid_at (D - t.z) t (omega (arith, v.zoom)) v

-- what is left of a list is what is left of its tiles
pub in_left_all : (D : ℕ) (gone l : List Tile) {s : Tile} → Memᴰ s (left_of_all D gone l)
    → (t : Tile) × Memᴰ t l × Memᴰ s (left_of (D - t.z) gone t)
unfolding left_of_all
in_left_all D gone [] m = absurd (Memᴰ.not-nil m)
in_left_all D gone (t ∷ l) {s} m = pick (Memᴰ.append_cases (left_of (D - t.z) gone t) m) (in_left_all D gone l)
  where
    pick : Memᴰ s (left_of (D - t.z) gone t) ⊎ Memᴰ s (left_of_all D gone l)
        → (Memᴰ s (left_of_all D gone l) → (u : Tile) × Memᴰ u l × Memᴰ s (left_of (D - u.z) gone u))
        → (u : Tile) × Memᴰ u (t ∷ l) × Memᴰ s (left_of (D - u.z) gone u)
    pick (inl k) below = (t, Memᴰ.head refl, k)
    pick (inr k) below = let r = below k in (r.0, Memᴰ.tail r.1, r.2)

pub left_all_in : (D : ℕ) (gone l : List Tile) {s t : Tile} → Memᴰ t l → Memᴰ s (left_of (D - t.z) gone t)
    → Memᴰ s (left_of_all D gone l)
unfolding left_of_all
left_all_in D gone [] m n = absurd (Memᴰ.not-nil m)
left_all_in D gone (u ∷ l) {s} {t} m n = pick (Memᴰ.cases_cons m) (λ k. left_all_in D gone l k n)
  where
    pick : (t ≡ u) ⊎ Memᴰ t l → (Memᴰ t l → Memᴰ s (left_of_all D gone l))
        → Memᴰ s (left_of (D - u.z) gone u ++ left_of_all D gone l)
    pick (inl e) below = Memᴰ.append_left (left_of_all D gone l) (rw e at n)
    pick (inr k) below = Memᴰ.append_right (left_of (D - u.z) gone u) (below k)
