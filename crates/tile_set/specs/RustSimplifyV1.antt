-- That the Rust's `simplify_v1` keeps the uncovered tiles and then merges until nothing changes, in whatever order its loops go.
use Rattle.std.specs.Prelude.{◌≡◌, ◌⊎◌, ◌↔◌, Bool, true, false, cond, ◌&&◌, leb}
use Rattle.std.proofs.Math.Path.{refl, sym, fun_ext}
use Rattle.std.proofs.Common.{ap, ◌∙◌, ⊎_elim, true≢false, arith, leb-true, le-leb}
use Rattle.std.proofs.Math.Logic.{inr}
use Rattle.std.proofs.lemmas.Bool.{false≢true}
use Rattle.std.proofs.Math.Bool.{and-eq-true_iff}
use mathlib.Core.List.{List, [], ◌∷◌, Memᴰ}
use Prim.Native.Nat.{ℕ, zero, suc, ◌-◌, ◌≤◌, ◌<◌}
use Rattle.tile.specs.declared.Tile.{Tile}
use Rattle.tile_set.specs.Holds.{Holds, holds_trans, ancestor_holds, holder_is_ancestor}
use Rattle.tile_set.specs.Merged.{Within, is_false, bool_ext, merged_same, merged_within}
use Rattle.tile_set.specs.Rust.{empty, insert_tile, parent, MergeResult, rust_merge, holds_some, keep_root, rust_roots, Orders, rust_while}
use Rattle.tile_set.specs.Rust.{ByZoom, LoopOrder, Fair}
use Rattle.tile_set.specs.RustMerge.{rust_merged, rust_changed}
use Rattle.tile_set.specs.RustParents.{parent_is}
use Rattle.tile_set.specs.RustSets.{insert_cases, insert_here, insert_old, loop_keeps, after_turn, at_end, same_zoom}
use Rattle.tile_set.specs.Set.{any_below, ancestor, joins, merged, passes, uncovered}
use Rattle.tile_set.specs.Uncovered.{any_below_of, any_below_in, uncovered_of, uncovered_or, uncovered_covers}

any_below_same : (n : ℕ) (p q : ℕ → Bool) → ((i : ℕ) → i < n → p i ≡ q i) → any_below n p ≡ any_below n q
unfolding any_below
any_below_same zero p q e = refl
any_below_same (suc n) p q e = rw (e n (omega arith), any_below_same n p q (λ i l. e i (omega arith)))

module _ (m : ℕ) (S : Tile → Bool) where
  -- the first loop, with `rest` still to come
  record Rooting (roots : Tile → Bool) (rest : List Tile) : Type 0 where
    sound : (t : Tile) → roots t ≡ true → uncovered m S t ≡ true
    kept : (t : Tile) → uncovered m S t ≡ true → (roots t ≡ true) ⊎ Memᴰ t rest
    rest_of : (t : Tile) → Memᴰ t rest → S t ≡ true
    order : ByZoom rest

  root_keeps : (roots : Tile → Bool) (t : Tile) (rest : List Tile) → Rooting roots (t ∷ rest) → Rooting (keep_root m roots t) rest
  root_keeps roots t rest h =
      rw (any_below_same t.z asked found (λ i l. rw (parent_is t i l))) (pick (leb t.z m) refl (any_below t.z found) refl)
    where
      asked : ℕ → Bool
      asked i = leb m i && holds_some roots (parent t i)

      found : ℕ → Bool
      found i = leb m i && roots (ancestor t (t.z - 1 - i))

      here : S t ≡ true
      here = h.rest_of t (Memᴰ.head refl)

      in_roots : uncovered m S t ≡ true → Rooting (insert_tile t roots) rest
      in_roots e = record {
        sound = λ u k. ⊎_elim (λ q. ap (uncovered m S) q ∙ e) (h.sound u) (insert_cases t roots u k);
        kept = λ u k. after_turn (insert_old t roots u) (insert_here t roots u) (h.kept u k);
        rest_of = λ u i. h.rest_of u (Memᴰ.tail i);
        order = h.order.1;
      }

      left_out : (uncovered m S t ≡ true → ⊥) → Rooting roots rest
      left_out n = record {
        sound = h.sound;
        kept = λ u k. after_turn (λ c. c) (λ q. absurd (n (sym (ap (uncovered m S) q) ∙ k))) (h.kept u k);
        rest_of = λ u i. h.rest_of u (Memᴰ.tail i);
        order = h.order.1;
      }

      shallow : t.z ≤ m → uncovered m S t ≡ true
      shallow l = ⊎_elim (λ e. e) (λ c. absurd (omega (arith, c.1))) (uncovered_or m S t here)

      -- an ancestor that stays has a lower zoom, so that the loop has met it
      met : (u : Tile) → uncovered m S u ≡ true → Holds u t → u.z < t.z - m → any_below t.z found ≡ true
      met u e g l =
          let k : t.z - 1 - (t.z - 1 - u.z) ≡ u.z = omega arith in
          let r : roots u ≡ true = ⊎_elim (λ c. c) later (after_turn (λ c. c) now (h.kept u e)) in
          let a : roots (ancestor t u.z) ≡ true = sym (ap roots (holder_is_ancestor g)) ∙ r in
          any_below_in t.z found (t.z - 1 - u.z) (omega arith) (rw (k, le-leb m (t.z - 1 - u.z) (omega arith)) a)
        where
          now : u ≡ t → roots u ≡ true
          now q = absurd (omega (arith, same_zoom q))

          later : Memᴰ u rest → roots u ≡ true
          later i = absurd (omega (arith, h.order.0 u i))

      -- what the set holds above t is under a tile that stays
      bare : any_below t.z found ≡ false → uncovered m S t ≡ true
      bare e = ⊎_elim (λ k. k) (λ c. absurd (true≢false (sym (above c) ∙ e))) (uncovered_or m S t here)
        where
          above : (s : ℕ) × (s < t.z - m) × (S (ancestor t s) ≡ true) → any_below t.z found ≡ true
          above (s, l, a) =
              let r = uncovered_covers m S (ancestor t s) a in
              met r.0 r.1 (holds_trans r.2 (ancestor_holds t s (omega arith))) (omega (arith, r.2.above))

      under_root : any_below t.z found ≡ true → uncovered m S t ≡ true → ⊥
      under_root e k =
          let i = any_below_of t.z found e in
          let f = (and-eq-true_iff (leb m i.0) (roots (ancestor t (t.z - 1 - i.0)))).0 i.2 in
          let l = leb-true m i.0 f.0 in
          let u = ancestor t (t.z - 1 - i.0) in
          (uncovered_of m S t k).1 u.z (omega (arith, i.1)) (uncovered_of m S u (h.sound u f.1)).0

      pick : (b : Bool) → leb t.z m ≡ b → (c : Bool) → any_below t.z found ≡ c
          → Rooting (cond b (insert_tile t roots) (cond c roots (insert_tile t roots))) rest
      pick true e c k = in_roots (shallow (leb-true _ _ e))
      pick false e true k = left_out (under_root k)
      pick false e false k = in_roots (bare k)

  pub rust_roots_lem : (tiles : List Tile) → LoopOrder S tiles → ByZoom tiles → (t : Tile) → rust_roots m tiles t ≡ uncovered m S t
  unfolding rust_roots
  rust_roots_lem tiles w order t = bool_ext (rust_roots m tiles t) (uncovered m S t) (end.sound t) (λ e. at_end (end.kept t e))
    where
      end : Rooting (rust_roots m tiles) []
      end = loop_keeps Rooting (keep_root m) root_keeps empty tiles (record {
        sound = λ u e. absurd (false≢true e);
        kept = λ u e. inr ((w.just u).1 (uncovered_of m S u e).0);
        rest_of = λ u i. (w.just u).0 i;
        order = order;
      })

-- a set that no pass changes
pub passes_same : (n m : ℕ) (S : Tile → Bool) → ((t : Tile) → joins m S t ≡ false) → passes n m S ≡ S
unfolding passes
passes_same zero m S none = refl
passes_same (suc n) m S none = ap (merged m) (passes_same n m S none) ∙ fun_ext (merged_same m S none)

-- the first pass is one of them
passes_first : (n m : ℕ) (S : Tile → Bool) → passes n m (merged m S) ≡ passes (suc n) m S
unfolding passes
passes_first zero m S = refl
passes_first (suc n) m S = ap (merged m) (passes_first n m S)

-- the loop has ended by itself, with the set R
abbrev pub LoopEnds : MergeResult → (Tile → Bool) → Type 0
LoopEnds s R = (s.current ≡ R) × (s.changed ≡ false)

module _ (D m : ℕ) (o : Orders) (fair : Fair D m o) where
  turn : (n : ℕ) (S R : Tile → Bool) → Within D S → (((t : Tile) → joins m S t ≡ false) → S ≡ R)
      → ((t : Tile) × (joins m S t ≡ true) → LoopEnds (rust_while n m o (merged m S)) R) → LoopEnds (rust_while (suc n) m o S) R
  unfolding rust_while
  turn n S R w stop go = pick (rust_merge m (o.tiles n S) (o.supertiles n S)).changed refl
    where
      merges : (rust_merge m (o.tiles n S) (o.supertiles n S)).current ≡ merged m S
      merges = fun_ext (rust_merged m S (o.tiles n S) (o.supertiles n S) (fair.walks n S w) (fair.keys n S w))

      changes : ((rust_merge m (o.tiles n S) (o.supertiles n S)).changed ≡ true) ↔ ((t : Tile) × (joins m S t ≡ true))
      changes = rust_changed m S (o.tiles n S) (o.supertiles n S) (fair.walks n S w) (fair.keys n S w)

      none : (rust_merge m (o.tiles n S) (o.supertiles n S)).changed ≡ false → (t : Tile) → joins m S t ≡ false
      none e t = is_false (joins m S t) (λ k. true≢false (sym (changes.1 (t, k)) ∙ e))

      pick : (b : Bool) → (rust_merge m (o.tiles n S) (o.supertiles n S)).changed ≡ b
          → LoopEnds (cond b (rust_while n m o (rust_merge m (o.tiles n S) (o.supertiles n S)).current)
          (rust_merge m (o.tiles n S) (o.supertiles n S))) R
      pick true e = rw merges (go (changes.0 e))
      pick false e = (merges ∙ (fun_ext (merged_same m S (none e)) ∙ stop (none e)), e)

  -- where k passes are enough, so are k + 1 turns of the loop, the last of which changes nothing
  pub while_ends : (n k : ℕ) (S : Tile → Bool) → k ≤ n → Within D S → ((t : Tile) → joins m (passes k m S) t ≡ false)
      → LoopEnds (rust_while (suc n) m o S) (passes k m S)
  unfolding passes
  while_ends n zero S l w settled = turn n S S w (λ none. refl) (λ j. absurd (true≢false (sym j.1 ∙ settled j.0)))
  while_ends zero (suc k) S l w settled = absurd (omega arith)
  while_ends (suc n) (suc k) S l w settled =
      turn (suc n) S (passes (suc k) m S) w (λ none. sym (passes_same (suc k) m S none))
      (λ j. rw (passes_first k m S) at (while_ends n k (merged m S) (omega arith) (merged_within m S w) (rw (passes_first k m S) settled)))
