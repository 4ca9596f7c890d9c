-- What the definitions of this crate come to, in document 01's words. Nothing is assumed.
use Rattle.std.specs.Prelude.{◌≡◌, List, [], ◌∷◌, map, ℕ, zero, suc, ◌-◌, ◌^◌, ◌≤◌, ◌<◌, length, get_or}
use Rattle.std.proofs.Common.{◌∙◌, subst, arith, pow_pos, eqb-true}
use Rattle.std.proofs.Math.Nat.{min-le_left, min-le_right, le-max_left, le-max_right, le-min, max-le}
use Rattle.bits.specs.Tests.{all_at}
use Rattle.ids.specs.Entry.{entry_tile}
use Rattle.ids.proofs.EntryLemmas.{accepted_entry}
use Rattle.tile.specs.OnMap.{OnMap}
use Rattle.tile.specs.declared.Tile.{Tile}
use Rattle.tile_zbox.specs.Box.{IsBox, HoldsTile}
use Rattle.tile_zbox.specs.declared.TileZBox.{TileZBox}
use Rattle.tile_zbox_around.specs.Around.{of_zoom, zoom_of_first, tiles_refusal, least, greatest, entry_column, entry_row, box_around}
use Rattle.tile_zbox_around.specs.Laws.{entry_at, accepted_one_zoom}

-- the smallest and the greatest of a list's numbers
least_below : (f : ℕ → ℕ) (l : List ℕ) (i : ℕ) → i < length l → least (map f l) ≤ f (get_or l i 0)
unfolding least
least_below f [] i h = absurd (omega arith)
least_below f (n ∷ []) zero h = omega arith
least_below f (n ∷ []) (suc i) h = absurd (omega arith)
least_below f (n ∷ (m ∷ ms)) zero h = min-le_left _ _
least_below f (n ∷ (m ∷ ms)) (suc i) h = let k = least_below f (m ∷ ms) i (omega arith) in
    omega (arith, min-le_right (f n) (least (map f (m ∷ ms))))

least_bound : (f : ℕ → ℕ) (l : List ℕ) (b : ℕ) → 0 < length l → ((i : ℕ) → i < length l → b ≤ f (get_or l i 0)) → b ≤ least (map f l)
unfolding least
least_bound f [] b h k = absurd (omega arith)
least_bound f (n ∷ []) b h k = k 0 (omega arith)
least_bound f (n ∷ (m ∷ ms)) b h k = le-min (k 0 (omega arith)) (least_bound f (m ∷ ms) b (omega arith) (λ i j. k (suc i) (omega arith)))

greatest_above : (f : ℕ → ℕ) (l : List ℕ) (i : ℕ) → i < length l → f (get_or l i 0) ≤ greatest (map f l)
unfolding greatest
greatest_above f [] i h = absurd (omega arith)
greatest_above f (n ∷ ns) zero h = le-max_left _ _
greatest_above f (n ∷ ns) (suc i) h = let k = greatest_above f ns i (omega arith) in omega (arith, le-max_right (f n) (greatest (map f ns)))

greatest_bound : (f : ℕ → ℕ) (l : List ℕ) (b : ℕ) → ((i : ℕ) → i < length l → f (get_or l i 0) ≤ b) → greatest (map f l) ≤ b
unfolding greatest
greatest_bound f [] b k = omega arith
greatest_bound f (n ∷ ns) b k = max-le (k 0 (omega arith)) (greatest_bound f ns b (λ i j. k (suc i) (omega arith)))

-- "`from_tiles`": its box holds every listed tile
pub from_tiles_holds_every_listed_tile : (l : List ℕ) (i : ℕ) → tiles_refusal l ≡ 0 → i < length l
    → HoldsTile (box_around l) (entry_tile (get_or l i 0))
unfolding box_around
from_tiles_holds_every_listed_tile l i e h =
    let k = accepted_one_zoom l e in
    record {
      zoom = eqb-true _ _ (all_at (of_zoom (zoom_of_first l)) l i k.zooms h);
      west = least_below entry_column l i h;
      east =
          greatest_above entry_column l i h;
      north = least_below entry_row l i h;
      south = greatest_above entry_row l i h;
    }

-- and no smaller box does: every box that holds all of them holds it
pub no_smaller_box_does : (l : List ℕ) (c : TileZBox) → tiles_refusal l ≡ 0 → ((i : ℕ) → i < length l → HoldsTile c (entry_tile (get_or l i 0)))
    → (t : Tile) → HoldsTile (box_around l) t → HoldsTile c t
unfolding box_around
no_smaller_box_does l c e k t h =
    let s = (accepted_one_zoom l e).some in
    record {
      zoom = h.zoom ∙ (k 0 s).zoom;
      west = omega (arith, h.west, least_bound entry_column l c.minx s (λ i j. (k i j).west));
      east = omega (arith, h.east, greatest_bound entry_column l c.maxx (λ i j. (k i j).east));
      north = omega (arith, h.north, least_bound entry_row l c.miny s (λ i j. (k i j).north));
      south = omega (arith, h.south, greatest_bound entry_row l c.maxy (λ i j. (k i j).south));
    }

-- what `from_tiles` answers is a box of the map
pub from_tiles_gives_a_box : (l : List ℕ) → tiles_refusal l ≡ 0 → IsBox (box_around l)
unfolding box_around
from_tiles_gives_a_box l e =
    let k = accepted_one_zoom l e in
    let m : (i : ℕ) → i < length l → OnMap (entry_tile (get_or l i 0)).x (entry_tile (get_or l i 0)).y (entry_tile (get_or l i 0)).z =
    λ i h. accepted_entry (get_or l i 0) (entry_at l i k.entries h) in
    let z : (i : ℕ) → i < length l → (entry_tile (get_or l i 0)).z ≡ zoom_of_first l =
    λ i h. eqb-true _ _ (all_at (of_zoom (zoom_of_first l)) l i k.zooms h) in
    let p = pow_pos (zoom_of_first l) in
    let x = greatest_bound entry_column l (2 ^ zoom_of_first l - 1)
    (λ i h. let r : entry_column (get_or l i 0) < 2 ^ zoom_of_first l =
    subst (λ (n : ℕ). entry_column (get_or l i 0) < 2 ^ n) (z i h) (m i h).column in
    omega arith) in
    let y = greatest_bound entry_row l (2 ^ zoom_of_first l - 1)
    (λ i h. let r : entry_row (get_or l i 0) < 2 ^ zoom_of_first l = subst (λ (n : ℕ). entry_row (get_or l i 0) < 2 ^ n) (z i h) (m i h).row in
    omega arith) in
    record {
      zoom = (m 0 k.some).zoom;
      columns = omega (arith, least_below entry_column l 0 k.some, greatest_above entry_column l 0 k.some);
      east = omega arith;
      rows = omega (arith, least_below entry_row l 0 k.some, greatest_above entry_row l 0 k.some);
      south = omega arith;
    }
