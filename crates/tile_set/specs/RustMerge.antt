-- That the Rust's `merge` is one pass of merging, in whatever order its two loops go.
use Rattle.std.specs.Prelude.{◌≡◌, refl, ◌⊎◌, ◌↔◌, Bool, cond, ◌&&◌, ℕ, ◌≤◌, ◌<◌, eqb, leb, ltb, length}
use Rattle.std.proofs.Common.{sym, ap, ◌∙◌, inl, ⊎_elim, true≢false, arith, eqb-true, eq-eqb, leb-true, le-leb, ltb-true, ltb-false}
use Rattle.std.proofs.Math.Logic.{inr}
use Rattle.std.proofs.Math.Bool.{true, false, and-eq-true_iff}
use Rattle.std.proofs.lemmas.Bool.{false≢true}
use mathlib.Core.List.Memᴰ
use mathlib.Core.List.{List, [], ◌∷◌, Memᴰ}
use Rattle.std.proofs.Math.Decide.{dec_le}
use Rattle.tile.specs.declared.Tile.{Tile}
use Rattle.tile_set.specs.Holds.{parent_of_child}
use Rattle.tile_set.specs.Merged.{is_false, bool_ext, whole_all, joins_when, joined_when, joined_four, joins_joined, joined_joins}
use Rattle.tile_set.specs.Merged.{merged_cases, merged_kept, merged_joined}
use Rattle.tile_set.specs.Rust.{same_tile, empty, insert_tile, extend, parent, Filed, file_under, file, rust_filed, MergeResult}
use Rattle.tile_set.specs.Rust.{merge_group, rust_merge, NoRepeats, LoopOrder, Keys}
use Rattle.tile_set.specs.RustParents.{has_parent}
use Rattle.tile_set.specs.RustSets.{same_means_equal, same_as_itself, insert_cases, insert_here, insert_old}
use Rattle.tile_set.specs.RustSets.{extend_old, extend_in, extend_cases}
use Rattle.tile_set.specs.RustSets.{loop_keeps, after_turn, at_end, same_zoom, four_all, all_four}
use Rattle.tile_set.specs.Set.{parent_tile, child, whole, joins, joined, merged}

module _ (m : ℕ) (S : Tile → Bool) where
  -- a tile that stands in the group of p, with `rest` still to come
  abbrev Under : Tile → List Tile → Tile → Type 0
  Under p rest t = (S t ≡ true) × (m < t.z) × (parent_tile t ≡ p) × (Memᴰ t rest → ⊥)

  -- the first loop
  record Filing (s : Filed) (rest : List Tile) : Type 0 where
    grouped : (p t : Tile) → Memᴰ t (s.upwards p) → Under p rest t
    high : (t : Tile) → S t ≡ true → m < t.z → Memᴰ t (s.upwards (parent_tile t)) ⊎ Memᴰ t rest
    once : (p : Tile) → NoRepeats (s.upwards p)
    low_of_lem : (t : Tile) → s.current t ≡ true → (S t ≡ true) × (t.z ≤ m)
    low : (t : Tile) → S t ≡ true → t.z ≤ m → (s.current t ≡ true) ⊎ Memᴰ t rest
    rest_of : (t : Tile) → Memᴰ t rest → S t ≡ true
    rest_once : NoRepeats rest

  file_keeps : (s : Filed) (t : Tile) (rest : List Tile) → Filing s (t ∷ rest) → Filing (file m s t) rest
  file_keeps s t rest h = pick (ltb m t.z) refl
    where
      group : Tile → Bool → List Tile
      group p b = cond b (t ∷ s.upwards p) (s.upwards p)

      old_under : (p u : Tile) → Memᴰ u (s.upwards p) → Under p rest u
      old_under p u i = let g = h.grouped p u i in (g.0, g.1, g.2, λ k. g.3 (Memᴰ.tail k))

      under : (p u : Tile) (b : Bool) → same_tile p (parent_tile t) ≡ b → m < t.z → Memᴰ u (group p b) → Under p rest u
      under p u false e l i = old_under p u i
      under p u true e l i = ⊎_elim new (old_under p u) (Memᴰ.cases_cons i)
        where
          new : u ≡ t → Under p rest u
          new k = rw k (h.rest_of t (Memᴰ.head refl), l, sym (same_means_equal p (parent_tile t) e), h.rest_once.0)

      grown : (p u : Tile) (b : Bool) → Memᴰ u (s.upwards p) → Memᴰ u (group p b)
      grown p u true i = Memᴰ.tail i
      grown p u false i = i

      here : (u : Tile) → u ≡ t → Memᴰ u (group (parent_tile u) (same_tile (parent_tile u) (parent_tile t)))
      here u e =
          let k : same_tile (parent_tile u) (parent_tile t) ≡ true =
          ap (λ (v : Tile). same_tile (parent_tile v) (parent_tile t)) e ∙ same_as_itself (parent_tile t) in
          rw k (Memᴰ.head e)

      grown_once : (p : Tile) (b : Bool) → NoRepeats (group p b)
      grown_once p true = (λ i. (h.grouped p t i).3 (Memᴰ.head refl), h.once p)
      grown_once p false = h.once p

      pick : (b : Bool) → ltb m t.z ≡ b
          → Filing (cond b (file_under s t (parent t 0)) (record { upwards = s.upwards; current = insert_tile t s.current })) rest
      pick true e = rw (has_parent t (omega (arith, ltb-true m t.z e))) (record {
        grouped = λ p u. under p u (same_tile p (parent_tile t)) refl (ltb-true m t.z e);
        high = λ u k l. after_turn (grown (parent_tile u) u (same_tile (parent_tile u) (parent_tile t))) (here u) (h.high u k l);
        once = λ p. grown_once p (same_tile p (parent_tile t));
        low_of_lem = h.low_of_lem;
        low = λ u k l. after_turn (λ c. c) (λ q. absurd (omega (arith, ltb-true m t.z e, same_zoom q))) (h.low u k l);
        rest_of = λ u i. h.rest_of u (Memᴰ.tail i);
        rest_once = h.rest_once.1;
      })
      pick false e = record {
        grouped = old_under;
        high = λ u k l. after_turn (λ i. i) (λ q. absurd (omega (arith, ltb-false m t.z e, same_zoom q))) (h.high u k l);
        once = h.once;
        low_of_lem = λ u k. ⊎_elim (λ q. (ap S q ∙ h.rest_of t (Memᴰ.head refl), omega (arith, ltb-false m t.z e, same_zoom q)))
            (h.low_of_lem u) (insert_cases t s.current u k);
        low = λ u k l. after_turn (insert_old t s.current u) (insert_here t s.current u) (h.low u k l);
        rest_of = λ u i. h.rest_of u (Memᴰ.tail i);
        rest_once = h.rest_once.1;
      }

  -- the second loop, with the supertiles `rest` still to come
  record Joining (s : MergeResult) (rest : List Tile) : Type 0 where
    sound : (t : Tile) → s.current t ≡ true → merged m S t ≡ true
    low : (t : Tile) → S t ≡ true → t.z ≤ m → s.current t ≡ true
    kept : (t : Tile) → S t ≡ true → m < t.z → joins m S t ≡ false → (s.current t ≡ true) ⊎ Memᴰ (parent_tile t) rest
    made : (p : Tile) → joined m S p ≡ true → (s.current p ≡ true) ⊎ Memᴰ p rest
    changed_of : s.changed ≡ true → (t : Tile) × (joins m S t ≡ true)
    changes : (p : Tile) → joined m S p ≡ true → (s.changed ≡ true) ⊎ Memᴰ p rest

  module _ (f : Filed) (filed : Filing f []) where
    in_group : (t : Tile) → S t ≡ true → m < t.z → Memᴰ t (f.upwards (parent_tile t))
    in_group t e l = at_end (filed.high t e l)

    child_in_group : (p : Tile) → joined m S p ≡ true → (i j : ℕ) → i < 2 → j < 2 → Memᴰ (child p i j) (f.upwards p)
    child_in_group p k i j a b =
        let l = ((joined_when m S p).0 k).0 in
        rw (parent_of_child p i j a b) at (in_group (child p i j) (joined_four m S p k i j a b) (omega arith))

    -- `children.len() == 4 && supertile.z() >= minzoom`
    group_joined : (p : Tile) → (eqb (length (f.upwards p)) 4 && leb m p.z) ≡ joined m S p
    group_joined p = bool_ext (eqb (length (f.upwards p)) 4 && leb m p.z) (joined m S p) to from
      where
        children : (t : Tile) → Memᴰ t (f.upwards p) → (0 < t.z) × (parent_tile t ≡ p)
        children t i = let g = filed.grouped p t i in (omega (arith, g.1), g.2)

        to : (eqb (length (f.upwards p)) 4 && leb m p.z) ≡ true → joined m S p ≡ true
        to e =
            let i = (and-eq-true_iff (eqb (length (f.upwards p)) 4) (leb m p.z)).0 e in
            let n = four_all p (f.upwards p) (filed.once p) children (eqb-true _ _ i.0) in
            (joined_when m S p).1 (leb-true _ _ i.1, (whole_all S p).1 (λ i j a b. (filed.grouped p (child p i j) (n i j a b)).0))

        from : joined m S p ≡ true → (eqb (length (f.upwards p)) 4 && leb m p.z) ≡ true
        from e =
            let n : length (f.upwards p) ≡ 4 = all_four p (f.upwards p) (filed.once p) children (child_in_group p e) in
            (and-eq-true_iff (eqb (length (f.upwards p)) 4) (leb m p.z)).1 (eq-eqb _ _ n, le-leb _ _ ((joined_when m S p).0 e).0)

    group_keeps : (s : MergeResult) (p : Tile) (rest : List Tile) → Joining s (p ∷ rest) → Joining (merge_group m f.upwards s p) rest
    group_keeps s p rest h = rw (group_joined p) (pick (joined m S p) refl)
      where
        pick : (b : Bool) → joined m S p ≡ b → Joining (cond b (record { current = insert_tile p s.current; changed = true })
            (record { current = extend (f.upwards p) s.current; changed = s.changed })) rest
        pick true e = record {
          sound = λ t k. ⊎_elim (λ q. merged_joined m S t (ap (joined m S) q ∙ e)) (h.sound t) (insert_cases p s.current t k);
          low = λ t k l. insert_old p s.current t (h.low t k l);
          kept = λ t k l n. after_turn (insert_old p s.current t) (λ q. absurd (true≢false (sym (parted t l q) ∙ n))) (h.kept t k l n);
          made = λ q k. after_turn (insert_old p s.current q) (insert_here p s.current q) (h.made q k);
          changed_of = λ k. (child p 0 0, joined_joins m S p 0 0 (omega arith) (omega arith) e);
          changes = λ q k. inl refl;
        }
          where
            parted : (t : Tile) → m < t.z → parent_tile t ≡ p → joins m S t ≡ true
            parted t l q = (joins_when m S t).1 (l, ap (whole S) q ∙ ((joined_when m S p).0 e).1)
        pick false e = record {
          sound = λ t k. ⊎_elim (put_back t) (h.sound t) (extend_cases (f.upwards p) s.current t k);
          low = λ t k l. extend_old (f.upwards p) s.current t (h.low t k l);
          kept = λ t k l n. after_turn (extend_old (f.upwards p) s.current t)
              (λ q. extend_in (f.upwards p) s.current t (rw q at (in_group t k l))) (h.kept t k l n);
          made = λ q k. after_turn (extend_old (f.upwards p) s.current q) (λ a. absurd (other q k a)) (h.made q k);
          changed_of = h.changed_of;
          changes = λ q k. after_turn (λ c. c) (λ a. absurd (other q k a)) (h.changes q k);
        }
          where
            put_back : (t : Tile) → Memᴰ t (f.upwards p) → merged m S t ≡ true
            put_back t i =
                let g = filed.grouped p t i in
                merged_kept m S t g.0
                (is_false (joins m S t) (λ k. true≢false (sym (joins_joined m S t k) ∙ (ap (joined m S) g.2 ∙ e))))

            other : (q : Tile) → joined m S q ≡ true → q ≡ p → ⊥
            other q k a = true≢false (sym k ∙ (ap (joined m S) a ∙ e))

  filed_all : (tiles : List Tile) → LoopOrder S tiles → Filing (rust_filed m tiles) []
  unfolding rust_filed
  filed_all tiles w =
      loop_keeps Filing (file m) file_keeps (record { upwards = λ p. []; current = empty }) tiles (record {
        grouped = λ p t i. absurd (Memᴰ.not-nil i);
        high = λ t e l. inr ((w.just t).1 e);
        once = λ p. tt;
        low_of_lem = λ t e. absurd (false≢true e);
        low = λ t e l. inr ((w.just t).1 e);
        rest_of = λ t i. (w.just t).0 i;
        rest_once = w.once;
      })

  pub group_of : (tiles : List Tile) → LoopOrder S tiles → (p t : Tile) → Memᴰ t ((rust_filed m tiles).upwards p)
      → (S t ≡ true) × (parent_tile t ≡ p)
  group_of tiles w p t i = let g = (filed_all tiles w).grouped p t i in (g.0, g.2)

  module _ (tiles supertiles : List Tile) (walk : LoopOrder S tiles) (keys : Keys m tiles supertiles) where
    joined_all : Joining (rust_merge m tiles supertiles) []
    unfolding rust_merge
    joined_all =
        let f = rust_filed m tiles in
        let h = filed_all tiles walk in
        loop_keeps Joining (merge_group m f.upwards) (group_keeps f h) (record { current = f.current; changed = false }) supertiles
        (record {
          sound = λ t e. let k = h.low_of_lem t e in
              merged_kept m S t k.0 (is_false (joins m S t) (λ j. omega (arith, k.1, ((joins_when m S t).0 j).0)));
          low = λ t e l. at_end (h.low t e l);
          kept = λ t e l n. inr ((keys (parent_tile t)).1 (t, in_group f h t e l));
          made = λ p k. inr (group_met p k);
          changed_of = λ e. absurd (false≢true e);
          changes = λ p k. inr (group_met p k);
        })
      where
        group_met : (p : Tile) → joined m S p ≡ true → Memᴰ p supertiles
        group_met p k = (keys p).1
            (child p 0 0, child_in_group (rust_filed m tiles) (filed_all tiles walk) p k 0 0 (omega arith) (omega arith))

    pub rust_merged : (t : Tile) → (rust_merge m tiles supertiles).current t ≡ merged m S t
    rust_merged t =
        bool_ext ((rust_merge m tiles supertiles).current t) (merged m S t) (joined_all.sound t)
        (λ e. ⊎_elim stays (λ k. at_end (joined_all.made t k)) (merged_cases m S t e))
      where
        stays : (S t ≡ true) × (joins m S t ≡ false) → (rust_merge m tiles supertiles).current t ≡ true
        stays k = pick (dec_le t.z m)
          where
            pick : Dec (t.z ≤ m) → (rust_merge m tiles supertiles).current t ≡ true
            pick (yes l) = joined_all.low t k.0 l
            pick (no l) = at_end (joined_all.kept t k.0 (omega arith) k.1)

    pub rust_changed : ((rust_merge m tiles supertiles).changed ≡ true) ↔ ((t : Tile) × (joins m S t ≡ true))
    rust_changed = (joined_all.changed_of, λ k. at_end (joined_all.changes (parent_tile k.0) (joins_joined m S k.0 k.1)))
