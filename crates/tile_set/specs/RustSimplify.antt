-- That the Rust's `simplify`, which puts the tiles one by one in order of zoom and merges after each, comes to the one simplest set.
use Rattle.std.specs.Prelude.{◌≡◌, ◌⊎◌, Bool, true, false, cond, ◌||◌, ltb}
use Rattle.std.proofs.Math.Path.{refl, fun_ext, subst}
use Rattle.std.proofs.Common.{sym, ap, ◌∙◌, inl, ⊎_elim, true≢false, arith, ltb-true, ltb-false}
use Rattle.std.proofs.Math.Logic.{inr}
use Rattle.std.proofs.Math.Bool.{false≢true, or-true}
use mathlib.Core.List.{List, [], ◌∷◌, Memᴰ}
use Prim.Native.Nat.{ℕ, zero, suc, ◌≤◌, ◌<◌}
use Rattle.std.proofs.Math.Decide.{dec_lt}
use Rattle.tile.specs.declared.Tile.{Tile}
use Rattle.tile_set.specs.Holds.{Holds, holds_refl, holds_trans, holds_level, child_held, ancestor_holds, holder_is_ancestor, Valid}
use Rattle.tile_set.specs.Holds.{valid_holder}
use Rattle.tile_set.specs.Merged.{Within, Apart, or_cases, is_false, bool_ext, whole_all, joins_when, joined_when, joined_four}
use Rattle.tile_set.specs.Merged.{joined_joins}
use Rattle.tile_set.specs.Merged.{merged_cases, merged_kept, merged_joined, merged_covers, merged_apart}
use Rattle.tile_set.specs.Rust.{empty, insert_tile, remove_all, contains_all, attempt_merge, put, rust_simplify, ByZoom, LoopOrder}
use Rattle.tile_set.specs.RustParents.{ancestors_from, parents_are, any_ancestor}
use Rattle.tile_set.specs.RustSets.{insert_cases, insert_here, insert_old, remove_all_of, remove_all_in, loop_keeps, after_turn}
use Rattle.tile_set.specs.RustSets.{at_end}
use Rattle.tile_set.specs.RustSets.{same_zoom, four_of, children1_are_four, contains_four, each_of_four, child_in_four}
use Rattle.tile_set.specs.Set.{any_below, ancestor, parent_tile, child, whole, joins, joined, merged}
use Rattle.tile_set.specs.Simplified.{Built, listed, Simplest, merged_built}
use Rattle.tile_set.specs.Uncovered.{any_below_of, any_below_in}

-- of four, each is so, or one is the other case
each_or : {G : Type 0} (P : ℕ → ℕ → Type 0) → ((i j : ℕ) → i < 2 → j < 2 → P i j ⊎ G) → ((i j : ℕ) → i < 2 → j < 2 → P i j) ⊎ G
each_or {G} P f =
    both (pair 0 (f 0 0 (omega arith) (omega arith)) (f 0 1 (omega arith) (omega arith)))
    (pair 1 (f 1 0 (omega arith) (omega arith)) (f 1 1 (omega arith) (omega arith)))
  where
    pair : (i : ℕ) → P i 0 ⊎ G → P i 1 ⊎ G → ((j : ℕ) → j < 2 → P i j) ⊎ G
    pair i (inr g) q = inr g
    pair i (inl p) (inr g) = inr g
    pair i (inl p) (inl q) = inl row
      where
        row : (j : ℕ) → j < 2 → P i j
        row zero b = p
        row (suc zero) b = q
        row (suc (suc j)) b = absurd (omega arith)

    both : ((j : ℕ) → j < 2 → P 0 j) ⊎ G → ((j : ℕ) → j < 2 → P 1 j) ⊎ G → ((i j : ℕ) → i < 2 → j < 2 → P i j) ⊎ G
    both (inr g) q = inr g
    both (inl p) (inr g) = inr g
    both (inl p) (inl q) = inl column
      where
        column : (i j : ℕ) → i < 2 → j < 2 → P i j
        column zero j a b = p j b
        column (suc zero) j a b = q j b
        column (suc (suc i)) j a b = absurd (omega arith)

-- where p's four children are the only four together, to put p in their place is a pass of merging
one_family_merged : (m : ℕ) (p : Tile) (C : Tile → Bool) → m ≤ p.z → whole C p ≡ true → ((q : Tile) → m ≤ q.z → whole C q ≡ true → q ≡ p)
    → insert_tile p (remove_all (four_of p) C) ≡ merged m C
one_family_merged m p C l w only = fun_ext (λ t. bool_ext (insert_tile p (remove_all (four_of p) C) t) (merged m C t) (to t) (from t))
  where
    is_joined : joined m C p ≡ true
    is_joined = (joined_when m C p).1 (l, w)

    to : (t : Tile) → insert_tile p (remove_all (four_of p) C) t ≡ true → merged m C t ≡ true
    to t e = ⊎_elim (λ q. merged_joined m C t (ap (joined m C) q ∙ is_joined)) other (insert_cases p (remove_all (four_of p) C) t e)
      where
        other : remove_all (four_of p) C t ≡ true → merged m C t ≡ true
        other k =
            let r = remove_all_of (four_of p) C t k in
            merged_kept m C t r.0 (is_false (joins m C t) (λ j.
            let g = (joins_when m C t).0 j in
            let f : parent_tile t ≡ p = only (parent_tile t) (omega (arith, g.0)) g.1 in
            r.1 (child_in_four p t (omega (arith, g.0)) f)))

    from : (t : Tile) → merged m C t ≡ true → insert_tile p (remove_all (four_of p) C) t ≡ true
    from t e = ⊎_elim stays new (merged_cases m C t e)
      where
        stays : (C t ≡ true) × (joins m C t ≡ false) → insert_tile p (remove_all (four_of p) C) t ≡ true
        stays k = insert_old p (remove_all (four_of p) C) t (remove_all_in (four_of p) C t k.0 (λ i. true≢false (sym (goes i) ∙ k.1)))
          where
            goes : Memᴰ t (four_of p) → joins m C t ≡ true
            goes = each_of_four p (λ (u : Tile). joins m C u ≡ true) (λ i j a b. joined_joins m C p i j a b is_joined) t

        new : joined m C t ≡ true → insert_tile p (remove_all (four_of p) C) t ≡ true
        new k =
            let g = (joined_when m C t).0 k in
            insert_here p (remove_all (four_of p) C) t (only t g.0 g.1)

abbrev Held : (Tile → Bool) → Tile → Type 0
Held C t = (r : Tile) × (C r ≡ true) × Holds r t

module _ (m : ℕ) (S : Tile → Bool) (small : Within 29 S) where
  -- the coverage C, with `rest` still to come; four siblings of a zoom > m stand together only under a tile that is `pending`
  record Covering (pending : Tile → Type 0) (C : Tile → Bool) (rest : List Tile) : Type 0 where
    built : (t : Tile) → C t ≡ true → Built m S t
    covers : (s : Tile) → S s ≡ true → Held C s ⊎ Memᴰ s rest
    apart : Apart C
    families : (p : Tile) → m ≤ p.z → whole C p ≡ true → pending p
    order : (r u : Tile) → C r ≡ true → Memᴰ u rest → r.z ≤ u.z
    rest_of : (t : Tile) → Memᴰ t rest → S t ≡ true
    by_zoom : ByZoom rest

  abbrev none_pending : Tile → Type 0
  none_pending p = ⊥

  -- the ancestor of t of zoom n - 1
  abbrev next_pending : Tile → ℕ → Tile → Type 0
  next_pending t n p = (suc p.z ≡ n) × Holds p t

  settled : {C : Tile → Bool} {rest : List Tile} (pending : Tile → Type 0) → Covering pending C rest
      → ((p : Tile) → m ≤ p.z → whole C p ≡ true → pending p → ⊥) → Covering none_pending C rest
  settled pending h f = record {
    built = h.built;
    covers = h.covers;
    apart = h.apart;
    families = λ p l w. f p l w (h.families p l w);
    order = h.order;
    rest_of = h.rest_of;
    by_zoom = h.by_zoom;
  }

  -- after the merge of the family of zoom n only that of its parent can be whole
  merged_covering : (t : Tile) (n : ℕ) (C : Tile → Bool) (rest : List Tile) → Covering (next_pending t (suc n)) C rest
      → Covering (next_pending t n) (merged m C) rest
  merged_covering t n C rest h = record {
    built = merged_built C h.built;
    covers = λ s e. ⊎_elim (λ (r, c, g). let q = merged_covers m C r c in inl (q.0, q.1, holds_trans q.2 g)) inr (h.covers s e);
    apart = merged_apart m C h.apart;
    families = families;
    order = λ r u e i. ⊎_elim (λ k. h.order r u k.0 i)
        (λ k. let l = h.order (child r 0 0) u (joined_four m C r k 0 0 (omega arith) (omega arith)) i in omega arith)
        (merged_cases m C r e);
    rest_of = h.rest_of;
    by_zoom = h.by_zoom;
  }
    where
      families : (p : Tile) → m ≤ p.z → whole (merged m C) p ≡ true → next_pending t n p
      families p l w = ⊎_elim all_old (λ g. g) (each_or (λ i j. (C (child p i j) ≡ true) × (joins m C (child p i j) ≡ false)) either)
        where
          either : (i j : ℕ) → i < 2 → j < 2 → ((C (child p i j) ≡ true) × (joins m C (child p i j) ≡ false)) ⊎ next_pending t n p
          either i j a b = ⊎_elim inl (λ k. inr (up k)) (merged_cases m C (child p i j) ((whole_all (merged m C) p).0 w i j a b))
            where
              up : joined m C (child p i j) ≡ true → next_pending t n p
              up k =
                  let g = (joined_when m C (child p i j)).0 k in
                  let f = h.families (child p i j) g.0 g.1 in
                  (omega (arith, f.0), holds_trans (child_held p i j a b) f.1)

          all_old : ((i j : ℕ) → i < 2 → j < 2 → (C (child p i j) ≡ true) × (joins m C (child p i j) ≡ false)) → next_pending t n p
          all_old f =
              let k : joined m C p ≡ true = (joined_when m C p).1 (l, (whole_all C p).1 (λ i j a b. (f i j a b).0)) in
              absurd (true≢false (sym (joined_joins m C p 0 0 (omega arith) (omega arith) k) ∙ (f 0 0 (omega arith) (omega arith)).1))

  attempt_keeps : (n : ℕ) (t : Tile) (C : Tile → Bool) (rest : List Tile) → Valid 29 t → n ≤ t.z → Covering (next_pending t n) C rest
      → Covering none_pending (attempt_merge m (ancestors_from t n) C) rest
  unfolding attempt_merge ancestors_from
  attempt_keeps zero t C rest v l h = settled (next_pending t 0) h (λ p a w o. omega (arith, o.0))
  attempt_keeps (suc s) t C rest v l h =
      let p = ancestor t s in
      let u = valid_holder (ancestor_holds t s (omega arith)) v in
      subst attempted (sym (children1_are_four p (omega (arith, v.zoom)) u.column u.row)) (rw (contains_four C p)
      (pick (ltb s m) refl (whole C p) refl (attempt_keeps s t (insert_tile p (remove_all (four_of p) C)) rest v (omega arith))))
    where
      -- what is to be shown, of the children as they are computed
      attempted : List Tile → Type 0
      attempted four =
          let p = ancestor t s in
          Covering none_pending
          (cond (ltb s m) C (cond (contains_all C four) (attempt_merge m (ancestors_from t s) (insert_tile p (remove_all four C))) C)) rest

      only : (q : Tile) → m ≤ q.z → whole C q ≡ true → q ≡ ancestor t s
      only q a w =
          let f = h.families q a w in
          let e : q.z ≡ s = omega (arith, f.0) in
          holder_is_ancestor f.1 ∙ ap (ancestor t) e

      next : Tile → Bool
      next = insert_tile (ancestor t s) (remove_all (four_of (ancestor t s)) C)

      pick : (b : Bool) → ltb s m ≡ b → (c : Bool) → whole C (ancestor t s) ≡ c
          → (Covering (next_pending t s) next rest → Covering none_pending (attempt_merge m (ancestors_from t s) next) rest)
          → Covering none_pending (cond b C (cond c (attempt_merge m (ancestors_from t s) next) C)) rest
      pick true e c k g = settled (next_pending t (suc s)) h (λ p a w o. omega (arith, o.0, ltb-true s m e))
      pick false e true k g =
          g (subst (λ (R : Tile → Bool). Covering (next_pending t s) R rest)
          (sym (one_family_merged m (ancestor t s) C (ltb-false s m e) k only))
          (merged_covering t s C rest h))
      pick false e false k g =
          settled (next_pending t (suc s)) h (λ p a w o. true≢false (sym w ∙ (ap (whole C) (only p a w) ∙ k)))

  -- a tile that is held already
  held_keeps : (C : Tile → Bool) (t : Tile) (rest : List Tile) → Covering none_pending C (t ∷ rest) → Held C t
      → Covering none_pending C rest
  held_keeps C t rest h held = record {
    built = h.built;
    covers = λ s e. after_turn (λ r. r) (λ q. (held.0, held.1, rw q held.2)) (h.covers s e);
    apart = h.apart;
    families = h.families;
    order = λ r u e i. h.order r u e (Memᴰ.tail i);
    rest_of = λ u i. h.rest_of u (Memᴰ.tail i);
    by_zoom = h.by_zoom.1;
  }

  -- a tile that no tile of the coverage holds, and that holds none of them, since their zooms are no deeper
  insert_keeps : (C : Tile → Bool) (t : Tile) (rest : List Tile) → Covering none_pending C (t ∷ rest)
      → ((r : Tile) → C r ≡ true → Holds r t → ⊥)
      → Covering (next_pending t t.z) (insert_tile t C) rest
  insert_keeps C t rest h free = record {
    built = λ u e. ⊎_elim (λ q. listed (ap S q ∙ h.rest_of t (Memᴰ.head refl))) (h.built u) (insert_cases t C u e);
    covers = λ s e. after_turn (λ (r, c, g). (r, insert_old t C r c, g)) (λ q. (s, insert_here t C s q, holds_refl s)) (h.covers s e);
    apart = λ a b e f g. apart a b g (insert_cases t C a e) (insert_cases t C b f);
    families = families;
    order = λ r u e i. ⊎_elim (λ q. omega (arith, same_zoom q, h.by_zoom.0 u i)) (λ c. h.order r u c (Memᴰ.tail i))
        (insert_cases t C r e);
    rest_of = λ u i. h.rest_of u (Memᴰ.tail i);
    by_zoom = h.by_zoom.1;
  }
    where
      apart : (a b : Tile) → Holds a b → (a ≡ t) ⊎ (C a ≡ true) → (b ≡ t) ⊎ (C b ≡ true) → a ≡ b
      apart a b g (inl p) (inl q) = p ∙ sym q
      apart a b g (inl p) (inr q) = holds_level g (omega (arith, same_zoom p, h.order b t q (Memᴰ.head refl)))
      apart a b g (inr p) (inl q) = absurd (free a p (rw q at g))
      apart a b g (inr p) (inr q) = h.apart a b p q g

      families : (p : Tile) → m ≤ p.z → whole (insert_tile t C) p ≡ true → next_pending t t.z p
      families p l w =
          ⊎_elim (λ f. absurd (h.families p l ((whole_all C p).1 f))) (λ g. g) (each_or (λ i j. C (child p i j) ≡ true)
          (λ i j a b. ⊎_elim (λ q. inr (same_zoom q, rw q at (child_held p i j a b))) inl
          (insert_cases t C (child p i j) ((whole_all (insert_tile t C) p).0 w i j a b))))

  put_keeps : (C : Tile → Bool) (t : Tile) (rest : List Tile) → Covering none_pending C (t ∷ rest) → Covering none_pending (put m C t) rest
  put_keeps C t rest h = rw (parents_are t (omega (arith, here.zoom)), any_ancestor C t t.z) (pick covered refl)
    where
      here : Valid 29 t
      here = small t (h.rest_of t (Memᴰ.head refl))

      -- `has_tile_or_parent`
      covered : Bool
      covered = C t || any_below t.z (λ s. C (ancestor t s))

      held : covered ≡ true → Held C t
      held e = ⊎_elim (λ k. (t, k, holds_refl t)) above (or_cases (C t) (any_below t.z (λ s. C (ancestor t s))) e)
        where
          above : any_below t.z (λ s. C (ancestor t s)) ≡ true → Held C t
          above k = let i = any_below_of t.z (λ s. C (ancestor t s)) k in
              (ancestor t i.0, i.2, ancestor_holds t i.0 (omega (arith, i.1)))

      holder_found : (r : Tile) → C r ≡ true → Holds r t → covered ≡ true
      holder_found r c g = found (dec_lt r.z t.z)
        where
          found : Dec (r.z < t.z) → covered ≡ true
          found (yes l) = rw (any_below_in t.z (λ s. C (ancestor t s)) r.z l (sym (ap C (holder_is_ancestor g)) ∙ c)) (or-true (C t))
          found (no l) = rw (sym (ap C (holds_level g (omega arith))) ∙ c)

      pick : (b : Bool) → covered ≡ b → Covering none_pending (cond b C (attempt_merge m (ancestors_from t t.z) (insert_tile t C))) rest
      pick true e = held_keeps C t rest h (held e)
      pick false e =
          attempt_keeps t.z t (insert_tile t C) rest here (omega arith)
          (insert_keeps C t rest h (λ r c g. true≢false (sym (holder_found r c g) ∙ e)))

  pub rust_simplest : (tiles : List Tile) → LoopOrder S tiles → ByZoom tiles → Simplest m S (rust_simplify m tiles)
  unfolding rust_simplify
  rust_simplest tiles w order =
      let end : Covering none_pending (rust_simplify m tiles) [] = loop_keeps (Covering none_pending) (put m) put_keeps empty tiles start in
      record {
        built = end.built;
        covers = λ s e. at_end (end.covers s e);
        apart = end.apart;
        no_four = end.families;
      }
    where
      start : Covering none_pending empty tiles
      start = record {
        built = λ t e. absurd (false≢true e);
        covers = λ s e. inr ((w.just s).1 e);
        apart = λ a b e. absurd (false≢true e);
        families = λ p l e. false≢true e;
        order = λ r u e. absurd (false≢true e);
        rest_of = λ t i. (w.just t).0 i;
        by_zoom = order;
      }
