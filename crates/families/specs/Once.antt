-- From the code's steps to what a pass leaves.
use Rattle.std.specs.Prelude.{◌≡◌, refl, Bool, true, false, List, map, ℕ, ◌≤◌, ◌<◌, ltb, length, take}
use Rattle.std.proofs.Common.{sym, ap, ◌∙◌, arith, length-take-le, ltb-true, ltb-false}
use mathlib.Core.List.Memᴰ
use Rattle.bits.specs.Tests.{any_of, in_any, any_in, into_map}
use Rattle.quadtree.specs.Lists.{TileNumbers}
use Rattle.quadtree.specs.Numbers.{morton_of, morton_tile}
use Rattle.sort.specs.Rising.{by_once_rising}
use Rattle.sort.specs.Sort.{By, Rising, once_of}
use Rattle.tile.specs.declared.Tile.{Tile}
use Rattle.tile_list.specs.Laws.{named_by, once_named, once_numbers}
use Rattle.tile_list.specs.List.{named}
use Rattle.tile_set.specs.Merged.{is_false}
use Rattle.tile_set.specs.Set.{joins, merged}
use Rattle.families.specs.Join.{first_morton, join_of}
use Rattle.families.specs.Pass.{Passed}
use Rattle.families.specs.Sets.{join_codes, join_merges, join_changes, join_shrinks}

-- Morton codes in order are taken once each, and the families joined
module _ (m : ℕ) (before : List ℕ) (q : TileNumbers morton_of before) (o : By (λ n. n) before) where
  abbrev l : List ℕ
  l = once_of before

  numbers : TileNumbers morton_of l
  numbers = once_numbers morton_of before q

  rising : Rising l
  rising = by_once_rising before o

  abbrev S : Tile → Bool
  S = named morton_tile before

  same : named morton_tile l ≡ S
  same = once_named morton_tile before

  left_set_lem : named morton_tile (join_of (first_morton m) l) ≡ merged m S
  left_set_lem = (λ i t. join_merges m l numbers rising t i) ∙ ap (merged m) same

  no_change : length l ≤ length (join_of (first_morton m) l) → (t : Tile) → joins m S t ≡ false
  no_change h t = is_false (joins m S t) clash
    where
      clash : joins m S t ≡ true → ⊥
      clash e = let k = join_shrinks m l numbers rising t (ap (λ (R : Tile → Bool). joins m R t) same ∙ e) in omega arith

  change : length (join_of (first_morton m) l) < length l → (t : Tile) × (joins m S t ≡ true)
  change h = pick (any_of (joins m S) (map morton_tile l)) refl
    where
      pick : (b : Bool) → any_of (joins m S) (map morton_tile l) ≡ b → (t : Tile) × (joins m S t ≡ true)
      pick true e = let s = any_in (joins m S) (map morton_tile l) e in (s.0, s.2)
      pick false e = absurd (clash (join_changes m l numbers rising each))
        where
          each : (t : Tile) → named morton_tile l t ≡ true → joins m (named morton_tile l) t ≡ false
          each t n = is_false (joins m (named morton_tile l) t) (λ j. never t n j)
            where
              never : (t : Tile) → named morton_tile l t ≡ true → joins m (named morton_tile l) t ≡ true → ⊥
              never t n j =
                  let s = named_by morton_tile l t n in
                  let a = in_any (joins m S) (map morton_tile l) (Memᴰ.cast (sym s.2) (into_map morton_tile l s.1))
                  (ap (λ (R : Tile → Bool). joins m R t) (sym same) ∙ j) in
                  let z : ◌≡◌ {A = ℕ} 0 1 = cc in
                  omega arith

          clash : join_of (first_morton m) l ≡ l → ⊥
          clash f = let g : length (join_of (first_morton m) l) ≡ length l = ap length f in omega arith

  pub passed : (after : List ℕ) (once count : ℕ) → once ≡ length l → count ≤ length after → take count after ≡ join_of (first_morton m) l
      → Passed m before after (record { count = count; changed = ltb count once })
  passed after once count e h f = record {
    within = h;
    numbers = rw f (join_codes m l numbers rising);
    set = ap (named morton_tile) f ∙ left_set_lem;
    still = λ g. no_change (let a = ltb-false count once g in omega (arith, size));
    moved = λ g. change (let a = ltb-true count once g in omega (arith, size));
  }
    where
      size : length (join_of (first_morton m) l) ≡ count
      size = sym (ap length f) ∙ length-take-le count after h
