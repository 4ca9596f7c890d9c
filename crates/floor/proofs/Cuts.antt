-- From the list settled at 0, cut down, to the settled list from m on.
use Rattle.std.specs.Prelude.{◌≡◌, refl, ◌↔◌, Bool, true, false, cond, ℕ, ◌-◌, ◌≤◌, ltb, length}
use Rattle.std.proofs.Common.{sym, ap, ◌∙◌, arith, ltb-false}
use mathlib.Core.List.Memᴰ
use mathlib.Core.List.{List, [], ◌∷◌, Memᴰ, Nodup}
use Rattle.std.proofs.lemmas.List.{length-map}
use Rattle.area.specs.Area.{settled_entries}
use Rattle.children.specs.Children.{z_order, gather, descendants}
use Rattle.children.specs.Members.{in_gather, into_gather, once_gather, once_map}
use Rattle.children.specs.Theorems.{z_order_is_a_family}
use Rattle.children.specs.Under.{descend_under, under_descend, descend_once}
use Rattle.constants.specs.Limits.{max_zoom}
use Rattle.floor.proofs.Entries.{entry_back, entry_in, entry_of_lem}
use Rattle.floor.specs.Floor.{in_place_of, cut_down_of, in_list_order}
use Rattle.ground.specs.Floor.{CutTo}
use Rattle.ground.proofs.FloorLemmas.{one_holder, settled_list_settled_from, settled_list_cut_to}
use Rattle.ground.specs.Ground.{SettledFrom, settled_list_from, settled_list}
use Rattle.ground.specs.Members.{ordered_once, no_longer}
use Rattle.ids.specs.Entry.{entry_of, entry_tile, entries_of}
use Rattle.ids.proofs.EntryLemmas.{entry_again}
use Rattle.tile.specs.declared.Tile.{Tile}
use Rattle.tile_list.specs.Laws.{named_by, names}
use Rattle.tile_list.specs.List.{listed}
use Rattle.tile_set.specs.Holds.{Valid}
use Rattle.tile_set.specs.InOrder.{in_order_is}

in_place : (m : ℕ) (t : Tile) → in_place_of m t ≡ descendants z_order (m - t.z) t.x t.y t.z
unfolding descendants
in_place m t = pick (ltb t.z m) refl
  where
    below : List Tile
    below = descendants z_order (m - t.z) t.x t.y t.z

    pick : (b : Bool) → ltb t.z m ≡ b → cond b below (t ∷ []) ≡ below
    pick true e = refl
    pick false e = let k : m - t.z ≡ 0 = omega (arith, ltb-false t.z m e) in rw k refl

-- what stands in the place of a tile is what it is cut to
module _ (m : ℕ) (s t : Tile) where
  place_cut : Memᴰ t (in_place_of m s) → CutTo m s t
  place_cut i =
      let u = descend_under z_order (λ q. (z_order_is_a_family.digits q).0) (m - s.z) s.x s.y s.z t (rw (in_place m s) at i) in
      let k : t.z - s.z ≡ m - s.z = omega (arith, u.zoom) in
      record { held = record { above = omega (arith, u.zoom); inx = rw k u.column; iny = rw k u.row }; level = u.zoom }

  cut_place : CutTo m s t → Memᴰ t (in_place_of m s)
  cut_place c =
      let k : t.z - s.z ≡ m - s.z = omega (arith, c.level) in
      rw (in_place m s)
      (under_descend z_order (λ q. (z_order_is_a_family.digits q).1) (m - s.z) s.x s.y s.z t
      (record { zoom = c.level; column = rw k at c.held.inx; row = rw k at c.held.iny }))

-- the settled list of a set, cut down to m
module _ (m : ℕ) (limit : m ≤ max_zoom) (G : ℕ → ℕ → Bool) where
  abbrev from_0 : List Tile
  from_0 = settled_list max_zoom G

  abbrev from_m : List Tile
  from_m = settled_list_from m max_zoom G

  settled_0 : SettledFrom 0 max_zoom from_0
  settled_0 = settled_list_settled_from 0 max_zoom G

  settled_m : SettledFrom m max_zoom from_m
  settled_m = settled_list_settled_from m max_zoom G

  abbrev cut : List Tile
  cut = gather (λ n. in_place_of m (entry_tile n)) (settled_entries G)

  of_settled : (n : ℕ) → Memᴰ n (settled_entries G) → Memᴰ (entry_tile n) from_0
  of_settled = entry_of_lem from_0 settled_0.of_map

  -- it has the tiles of the list from m on
  cut_is : (t : Tile) → Memᴰ t cut ↔ Memᴰ t from_m
  cut_is t = (of, into)
    where
      of : Memᴰ t cut → Memᴰ t from_m
      of i =
          let s = in_gather (λ n. in_place_of m (entry_tile n)) (settled_entries G) i in
          (settled_list_cut_to m max_zoom limit G t).1 (entry_tile s.0, of_settled s.0 s.1, place_cut m (entry_tile s.0) t s.2)

      into : Memᴰ t from_m → Memᴰ t cut
      into i =
          let s = (settled_list_cut_to m max_zoom limit G t).0 i in
          let u = s.0 in
          into_gather (λ n. in_place_of m (entry_tile n)) (entry_of u.x u.y u.z) (settled_entries G)
          (entry_in from_0 settled_0.of_map u s.1)
          (rw (entry_back from_0 settled_0.of_map u s.1) (cut_place m u t s.2))

  cut_valid : (t : Tile) → Memᴰ t cut → Valid max_zoom t
  cut_valid t i = settled_m.of_map t ((cut_is t).0 i)

  -- each of them once
  cut_once : Nodup cut
  cut_once =
      once_gather (λ n. in_place_of m (entry_tile n)) (settled_entries G)
      (once_map (λ (t : Tile). entry_of t.x t.y t.z) from_0 (ordered_once _ settled_0.in_order) apart)
      (λ n. let s = entry_tile n in rw (in_place m s) (descend_once z_order z_order_is_a_family (m - s.z) s.x s.y s.z)) one_only
    where
      apart : (s t : Tile) → Memᴰ s from_0 → Memᴰ t from_0
          → entry_of s.x s.y s.z ≡ entry_of t.x t.y t.z → s ≡ t
      apart s t i j e =
          sym (entry_back from_0 settled_0.of_map s i) ∙ (ap entry_tile e ∙ entry_back from_0 settled_0.of_map t j)

      one_only : (t : Tile) (q r : ℕ) → Memᴰ q (settled_entries G) → Memᴰ r (settled_entries G)
          → Memᴰ t (in_place_of m (entry_tile q)) → Memᴰ t (in_place_of m (entry_tile r)) → q ≡ r
      one_only t q r a b i j =
          let e = one_holder settled_0 (entry_tile q) (entry_tile r) t (of_settled q a) (of_settled r b)
          (place_cut m (entry_tile q) t i).held (place_cut m (entry_tile r) t j).held in
          sym (entry_again q) ∙ (ap (λ (t : Tile). entry_of t.x t.y t.z) e ∙ entry_again r)

  pub cut_ordered : entries_of (settled_list_from m max_zoom G) ≡ in_list_order (cut_down_of m (settled_entries G))
  cut_ordered =
      ap entries_of (in_order_is max_zoom (listed (entries_of cut)) from_m settled_m.in_order into of)
    where
      into : (t : Tile) → Memᴰ t from_m → Valid max_zoom t × (listed (entries_of cut) t ≡ true)
      into t i =
          let j = (cut_is t).1 i in
          let n = entry_of t.x t.y t.z in
          (cut_valid t j, names entry_tile (entries_of cut) n t (entry_in cut cut_valid t j) (entry_back cut cut_valid t j))

      of : (t : Tile) → Valid max_zoom t → listed (entries_of cut) t ≡ true → Memᴰ t from_m
      of t v e =
          let s = named_by entry_tile (entries_of cut) t e in
          (cut_is t).0 (Memᴰ.cast (sym s.2) (entry_of_lem cut cut_valid s.0 s.1))

  pub cut_length : length (cut_down_of m (settled_entries G)) ≡ length (settled_list_from m max_zoom G)
  cut_length =
      omega (
        arith,
        length-map cut (λ (t : Tile). entry_of t.x t.y t.z),
        no_longer Is cut from_m cut_once (λ t i. (t, (cut_is t).0 i, refl)) (λ s r t i j p q. p ∙ sym q),
        no_longer Is from_m cut (ordered_once _ settled_m.in_order) (λ t i. (t, (cut_is t).1 i, refl))
            (λ s r t i j p q. p ∙ sym q),
      )
    where
      Is : Tile → Tile → Type 0
      Is s t = s ≡ t
