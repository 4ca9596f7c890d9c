-- The walk of `apart` in the middle of a list: the runs read so far rise, and no tile of them completes a family.
use Rattle.std.specs.Prelude.{◌≡◌, true, false, List, ℕ, ◌+◌, ◌-◌, ◌≤◌, ◌<◌, length, get_or}
use Rattle.std.proofs.Common.{sym, ap, ◌∙◌, true≢false, arith}
use Rattle.std.proofs.lemmas.Bool.{false≢true}
use Rattle.std.proofs.Math.Decide.{dec_lt}
use Rattle.bits.specs.Tests.{get_d_in, in_get_d}
use Rattle.quadtree.specs.Lists.{TileNumbers}
use Rattle.quadtree.specs.Numbers.{location_of, location_tile}
use Rattle.settle.specs.Middle.{location_at}
use Rattle.quadtree.specs.Locations.{low_of, start_of, end_of, IsLocation, tiles, Runs}
use Rattle.settle.specs.Settle.{Stand, Family}
use Rattle.settle.specs.Stack.{Among, together}
use Rattle.tile.specs.declared.Tile.{Tile}
use Rattle.tile_list.specs.Laws.{named_by, names}
use Rattle.tile_list.specs.List.{named}
use Rattle.tile_set.specs.Merged.{whole_all, is_false}
use Rattle.tile_set.specs.Set.{whole}
use Rattle.settled.specs.Answers.{Lone}

-- a tile that locations name stands at one of them
pub named_among : (l : List ℕ) (t : Tile) → named location_tile l t ≡ true → Among (tiles l) (length l) t
named_among l t e =
    let s = named_by location_tile l t e in
    let a = in_get_d l 0 s.1 in
    (a.0, a.1, ap location_tile a.2 ∙ s.2)

pub at_named : (l : List ℕ) (i : ℕ) → i < length l → {t : Tile} → tiles l i ≡ t → named location_tile l t ≡ true
at_named l i h {t} e = names location_tile l (get_or l i 0) t (get_d_in l i 0 h) e

-- the runs of the first i locations rise to `end`
pub record Loose (l : List ℕ) (end i : ℕ) : Type 0 where
  pub within : i ≤ length l
  pub rise : (a b : ℕ) → a < b → b < i → end_of (tiles l a) ≤ start_of (tiles l b)
  pub ends : (a : ℕ) → a < i → end_of (tiles l a) ≤ end
  pub source : 0 < end → (a : ℕ) × (a < i) × (end_of (tiles l a) ≡ end)
  pub alone : (b : ℕ) → b < i → (p : Tile) → Family 0 (tiles l) b (tiles l b) p → ⊥

pub loose_none : (l : List ℕ) → Loose l 0 0
loose_none l = record {
  within = omega arith;
  rise = λ a b h k. absurd (omega arith);
  ends = λ a h. absurd (omega arith);
  source = λ h. absurd (omega arith);
  alone = λ b h p f. omega arith;
}

module _ (l : List ℕ) (numbers : TileNumbers location_of l) (end i : ℕ) (L : Loose l end i) where
  pub stands : i < length l → Stand l i (get_or l i 0)
  stands h = record { within = omega arith; each = λ j k. location_at l numbers j (omega arith); top = location_at l numbers i h }

  module _ (h : i < length l) (w : ℕ) (low : w ≡ low_of (tiles l i)) where
    location : IsLocation (get_or l i 0)
    location = location_at l numbers i h

    -- a run that starts before the end of one before it
    pub nested : get_or l i 0 - w < end → Lone l false
    nested k = record { fine = λ e. absurd (false≢true e); off = λ e r n. off r }
      where
        off : Runs l → ⊥
        off r =
            let s = L.source (omega arith) in
            omega (arith, r.rise s.0 i s.1 h, s.2, location.again)

    -- four siblings
    pub family_found : (p : Tile) × Family 0 (tiles l) i (tiles l i) p → Lone l false
    family_found (p, f) = record { fine = λ e. absurd (false≢true e); off = λ e r n. true≢false (sym all ∙ n p) }
      where
        in' : (j : ℕ) → j ≤ i → {t : Tile} → tiles l j ≡ t → named location_tile l t ≡ true
        in' j q e = at_named l j (omega arith) e

        all : whole (named location_tile l) p ≡ true
        all = rw (
          in' (i - 3) (omega arith) f.first,
          in' (i - 1) (omega arith) f.third,
          in' (i - 2) (omega arith) f.second,
          in' i (omega arith) f.fourth,
        )

    pub loose_next : end ≤ get_or l i 0 - w → ((p : Tile) → Family 0 (tiles l) i (tiles l i) p → ⊥) → Loose l (get_or l i 0 + w) (i + 1)
    loose_next k none = record
        { within = omega arith; rise = rise; ends = ends; source = λ g. (i, omega arith, omega (arith, location.again)); alone = alone }
      where
        rise : (a b : ℕ) → a < b → b < i + 1 → end_of (tiles l a) ≤ start_of (tiles l b)
        rise a b g q = pick (dec_lt b i)
          where
            pick : Dec (b < i) → end_of (tiles l a) ≤ start_of (tiles l b)
            pick (yes u) = L.rise a b g u
            pick (no u) = let e : b ≡ i = omega arith in rw e (omega (arith, L.ends a (omega arith), location.again))

        ends : (a : ℕ) → a < i + 1 → end_of (tiles l a) ≤ get_or l i 0 + w
        ends a g = pick (dec_lt a i)
          where
            pick : Dec (a < i) → end_of (tiles l a) ≤ get_or l i 0 + w
            pick (yes u) = omega (arith, L.ends a u)
            pick (no u) = let e : a ≡ i = omega arith in rw e (omega (arith, location.again))

        alone : (b : ℕ) → b < i + 1 → (p : Tile) → Family 0 (tiles l) b (tiles l b) p → ⊥
        alone b g p f = pick (dec_lt b i)
          where
            pick : Dec (b < i) → ⊥
            pick (yes u) = L.alone b u p f
            pick (no u) = let e : b ≡ i = omega arith in none p (rw e at f)

  pub loose_all : length l ≤ i → Lone l true
  loose_all h = record { fine = λ e. (runs, λ p. is_false (whole (named location_tile l) p) (no_four p)); off = λ e r n. true≢false e }
    where
      runs : Runs l
      runs = record { each = location_at l numbers; rise = λ a b g k. L.rise a b g (omega arith) }

      no_four : (p : Tile) → whole (named location_tile l) p ≡ true → ⊥
      no_four p e =
          let all = (whole_all (named location_tile l) p).0 e in
          let s =
          together (tiles l) (length l) (λ a k. (runs.each a k).of_map) runs.rise 0 p (omega arith)
          (named_among l _ (all 0 0 (omega arith) (omega arith)))
          (named_among l _ (all 1 0 (omega arith) (omega arith))) (named_among l _ (all 0 1 (omega arith) (omega arith)))
          (named_among l _ (all 1 1 (omega arith) (omega arith))) in
          L.alone s.0 (omega (arith, s.1)) p s.2
