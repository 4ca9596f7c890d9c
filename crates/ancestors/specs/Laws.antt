-- Which tiles stay, by the top that holds each, and which tiles the tops are.
use Rattle.std.specs.Prelude.{◌≡◌, Bool, true, List, ℕ, ◌+◌, ◌-◌, ◌/◌, ◌^◌, ◌≤◌, ◌<◌, take}
use Rattle.std.proofs.Common.{sym, ap, ◌∙◌, ⊎_elim, pow-suc, add-one, arith}
use Rattle.std.proofs.Math.Decide.{dec_le, dec_lt}
use Rattle.std.proofs.Math.Nat.{div-lt_self}
use Rattle.constants.specs.Limits.{max_zoom}
use Rattle.quadtree.specs.Lists.{TileNumbers}
use Rattle.quadtree.specs.Numbers.{OfMap, morton_of, location_of, location_tile}
use Rattle.quadtree.specs.OneTile.{morton_inj}
use Rattle.quadtree.specs.Tree.{four_pos, morton_ancestor}
use Rattle.quadtree.specs.Locations.{holds_morton, valid_tile, map_tile}
use Rattle.quadtree.specs.declared.Key.TheVariants.{Location}
use Rattle.settle.specs.Settle.{Settles}
use Rattle.tile.specs.declared.Tile.{Tile}
use Rattle.tile_list.specs.Laws.{named_within}
use Rattle.tile_list.specs.List.{named}
use Rattle.tile_set.specs.Holds.{Holds, holds_trans, holds_both, ancestor_holds, holder_is_ancestor, valid_holder}
use Rattle.tile_set.specs.Merged.{Within, Apart}
use Rattle.tile_set.specs.Set.{ancestor, child, uncovered}
use Rattle.tile_set.specs.Simplified.{Built, listed, joined}
use Rattle.tile_set.specs.Uncovered.{uncovered_of, uncovered_or}
use Rattle.ancestors.specs.Tops.{Tops}

-- of the tiles that stand apart, only one holds another tile
one_holder : {S : Tile → Bool} {a b t : Tile} → Apart S → S a ≡ true → S b ≡ true → Holds a t → Holds b t → a ≡ b
one_holder {S} {a} {b} {t} apart p q h k = pick (dec_le a.z b.z)
  where
    pick : Dec (a.z ≤ b.z) → a ≡ b
    pick (yes l) = apart a b p q (holds_both h k l)
    pick (no l) = sym (apart b a q p (holds_both k h (omega arith)))

-- of the ancestors of the tile of Morton code q and zoom z, those at `steps` and more are not the tile of Morton code g
pub record AncestorsTested (q g z steps : ℕ) : Type 0 where
  pub few : steps ≤ z
  pub none : (n : ℕ) → steps ≤ n → n < z → q / 4 ^ (n + 1) ≡ g → ⊥

pub untested : {q g z : ℕ} → AncestorsTested q g z z
untested = record { few = omega arith; none = λ n a b e. omega (arith, a, b) }

-- a tile is not an ancestor of itself
pub top_tested : {q g z : ℕ} → 0 < q → q ≡ g → AncestorsTested q g z 0
top_tested {q} {g} {z} h e = record { few = omega arith; none = λ n a b f. omega (arith, e, f, smaller n) }
  where
    smaller : (n : ℕ) → q / 4 ^ (n + 1) < q
    smaller n = div-lt_self h (rw (add-one n, pow-suc 4 n) (omega (arith, four_pos n)))

pub tested_more : {q g z steps : ℕ} → AncestorsTested q g z steps → 0 < steps → (q / 4 ^ (steps - 1 + 1) ≡ g → ⊥)
    → AncestorsTested q g z (steps - 1)
tested_more {q} {g} {z} {steps} t h e = record { few = omega (arith, t.few); none = none }
  where
    none : (n : ℕ) → steps - 1 ≤ n → n < z → q / 4 ^ (n + 1) ≡ g → ⊥
    none n a b = pick (dec_lt n steps)
      where
        pick : Dec (n < steps) → q / 4 ^ (n + 1) ≡ g → ⊥
        pick (yes l) f = let u : steps - 1 ≡ n = omega arith in e (rw u f)
        pick (no l) f = t.none n (omega arith) b f

-- h is the top that holds t
module _ (m : ℕ) {list tops : List ℕ} (T : Tops list tops) {h t : Tile} (top : named location_tile tops h ≡ true) (held : Holds h t) where
  abbrev S : Tile → Bool
  S = named location_tile list

  far_goes : h.z + m < t.z → uncovered m S t ≡ true → ⊥
  far_goes l e = (uncovered_of m S t e).1 h.z (omega arith) (sym (ap S (holder_is_ancestor held)) ∙ T.of h top)

  near_stays : S t ≡ true → t.z ≤ h.z + m → uncovered m S t ≡ true
  near_stays e l = ⊎_elim (λ u. u) (λ u. absurd (covered u.0 u.1 u.2)) (uncovered_or m S t e)
    where
      covered : (s : ℕ) → s < t.z - m → S (ancestor t s) ≡ true → ⊥
      covered s k a =
          let r = T.covers (ancestor t s) a in
          let z = ap (λ (u : Tile). u.z) (one_holder T.apart r.1 top (holds_trans r.2 (ancestor_holds t s (omega arith))) held) in
          omega (arith, r.2.above)

  -- h is the ancestor at n: it is of zoom z - 1 - n
  ancestor_zoom : (n : ℕ) → OfMap h → OfMap t → n < t.z → morton_of t / 4 ^ (n + 1) ≡ morton_of h → h.z + (n + 1) ≡ t.z
  ancestor_zoom n o u l e =
      let s = t.z - (n + 1) in
      let d : t.z - s ≡ n + 1 = omega arith in
      let q : morton_of (ancestor t s) ≡ morton_of h = morton_ancestor t s (omega arith) ∙ rw d e in
      let v = valid_holder (ancestor_holds t s (omega arith)) (valid_tile t u) in
      let z = ap (λ (x : Tile). x.z) (morton_inj (ancestor t s) h (map_tile (ancestor t s) v) o q) in
      omega arith

  ancestor_morton : (n : ℕ) → h.z + (n + 1) ≡ t.z → morton_of t / 4 ^ (n + 1) ≡ morton_of h
  ancestor_morton n e = let d : t.z - h.z ≡ n + 1 = omega arith in rw d at (holds_morton held)

  pub found_goes : (n : ℕ) → OfMap h → OfMap t → m ≤ n → n < t.z → morton_of t / 4 ^ (n + 1) ≡ morton_of h → uncovered m S t ≡ true → ⊥
  found_goes n o u k l e = far_goes (omega (arith, ancestor_zoom n o u l e))

  pub tested_stays : (steps : ℕ) → S t ≡ true → steps ≤ m → AncestorsTested (morton_of t) (morton_of h) t.z steps → uncovered m S t ≡ true
  tested_stays steps e l a = near_stays e (near (dec_lt (h.z + m) t.z))
    where
      near : Dec (h.z + m < t.z) → t.z ≤ h.z + m
      near (yes k) = absurd (a.none (t.z - h.z - 1) (omega arith) (omega arith) (ancestor_morton (t.z - h.z - 1) (omega arith)))
      near (no k) = omega arith

-- where no zoom is above m, nothing can be joined
built_listed : {m : ℕ} {S : Tile → Bool} → Within max_zoom S → max_zoom ≤ m → {t : Tile} → Built m S t → S t ≡ true
built_listed w d (listed e) = e
built_listed {S = S} w d (joined {p = p} l a b c e) = let v = w (child p 0 0) (built_listed w d a) in absurd (omega (arith, v.zoom))

pub settled_tops : {m r : ℕ} {list after : List ℕ} → max_zoom ≤ m → TileNumbers location_of list → Settles m list after r
    → Tops list (take r after)
settled_tops {list = list} d f s = record {
  rising = s.rising;
  numbers = s.locations;
  of = λ t e. built_listed (named_within Location list f) d (s.simplest.built t e);
  covers = s.simplest.covers;
  apart = s.simplest.apart;
}
