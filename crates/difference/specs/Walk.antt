-- The walk along the quadtree: how far it has come, and what it writes on the way.
use Rattle.std.specs.Prelude.{◌≡◌, refl, Bool, true, false, List, [], ◌∷◌, ◌++◌, map, ℕ, suc, ◌+◌, ◌-◌, ◌*◌, ◌≤◌, ◌<◌, length, drop, set}
use Rattle.std.proofs.Common.{sym, ap, ◌∙◌, add-zero, arith, length-append}
use Rattle.std.proofs.lemmas.List.{map-append, length-map}
use Rattle.std.proofs.lemmas.List.Edits.{sets, sets-eq}
use Rattle.constants.specs.Limits.{max_zoom}
use Rattle.quadtree.specs.Numbers.{location_of, location_tile}
use Rattle.quadtree.specs.Locations.{low_of, start_of, end_of, IsLocation, tiles, Runs}
use Rattle.tile.specs.declared.Tile.{Tile}

-- the tiles before `next` of those that are taken away end at the number `to` or before it
pub record Behind (gone : List ℕ) (to next : ℕ) : Type 0 where
  pub within : next ≤ length gone
  pub each : (i : ℕ) → i < next → end_of (tiles gone i) ≤ to

-- the walk has come to the number `to`. What is left so far is that many tiles at most
pub record Come (gone : List ℕ) (to next count : ℕ) : Type 0 where
  pub behind : Behind gone to next
  pub few : count ≤ to

-- the locations of the tiles `left` are written from `count` on, as far as there is room, and are counted
pub record Wrote (left : List Tile) (count r : ℕ) (before after : List ℕ) : Type 0 where
  pub counted : r ≡ count + length left
  pub written : after ≡ sets before count (map location_of left)

-- the walk stands at the start of the tile at location k. Half the tile's run is `low` long
pub record AtTile (gone : List ℕ) (k low next count : ℕ) : Type 0 where
  pub location : IsLocation k
  pub half : low ≡ low_of (location_tile k)
  pub runs : Runs gone
  pub come : Come gone (k - low) next count

-- the walk stands at the start of the tile at location k, which has children. Half a child's run is `quarter` long
pub record AtFour (gone : List ℕ) (k quarter next count : ℕ) : Type 0 where
  pub location : IsLocation k
  pub higher : (location_tile k).z < max_zoom
  pub half : 4 * quarter ≡ low_of (location_tile k)
  pub runs : Runs gone
  pub come : Come gone (k - 4 * quarter) next count

-- where the answer is true, no tile that is taken away from `next` on starts before the number `end`, and where it is false, the next
-- one does
abbrev pub Clear : Bool → List ℕ → ℕ → ℕ → Type 0
Clear true gone next end = next < length gone → end ≤ start_of (tiles gone next)
Clear false gone next end = (next < length gone) × (start_of (tiles gone next) < end)

-- the walk has come to the number `to`, and what is left on the way is written
pub record Walked (left : List Tile) (gone : List ℕ) (to count : ℕ) (before after : List ℕ) (next r : ℕ) : Type 0 where
  pub come : Come gone to next r
  pub wrote : Wrote left count r before after

pub behind_none : (gone : List ℕ) (to : ℕ) → Behind gone to 0
behind_none gone to = record { within = omega arith; each = λ i h. absurd (omega arith) }

pub behind_on : {gone : List ℕ} {a b next : ℕ} → Behind gone a next → a ≤ b → Behind gone b next
behind_on s h = record { within = s.within; each = λ i k. omega (arith, s.each i k) }

pub come_on : {gone : List ℕ} {a b next count : ℕ} → Come gone a next count → a ≤ b → Come gone b next count
come_on s h = record { behind = behind_on s.behind h; few = omega (arith, s.few) }

pub sets_append : (l : List ℕ) (i : ℕ) (a b : List ℕ) → sets l i (a ++ b) ≡ sets (sets l i a) (i + length a) b
sets_append l i [] b = rw (add-zero i)
sets_append l i (v ∷ a) b =
    let e : suc i + length a ≡ i + length (v ∷ a) = omega arith in
    sets_append (set l i v) (suc i) a b ∙ ap (λ (n : ℕ). sets (sets (set l i v) (suc i) a) n b) e

-- where there is room for all of them, they stand at the front
pub sets_front : (l vs : List ℕ) → length vs ≤ length l → sets l 0 vs ≡ vs ++ drop (length vs) l
sets_front l vs h = let e : 0 + length vs ≡ length vs = omega arith in rw e at (sets-eq vs l 0 (omega arith))

pub wrote_none : (count : ℕ) (l : List ℕ) → Wrote [] count count l l
wrote_none count l = record { counted = omega arith; written = refl }

pub wrote_one : (t : Tile) (count : ℕ) (l : List ℕ) → Wrote (t ∷ []) count (count + 1) l (set l count (location_of t))
wrote_one t count l = record { counted = omega arith; written = refl }

pub wrote_both : {a b : List Tile} {i j k : ℕ} {l m n : List ℕ} → Wrote a i j l m → Wrote b j k m n → Wrote (a ++ b) i k l n
wrote_both {a} {b} {i} {j} {k} {l} {m} {n} v w = record {
  counted = omega (arith, v.counted, w.counted, length-append a b);
  written =
      let e : j ≡ i + length (map location_of a) = v.counted ∙ ap (λ (c : ℕ). i + c) (sym (length-map a location_of)) in
      rw (map-append location_of a b, sets_append l i (map location_of a) (map location_of b), ← e, ← v.written) w.written;
}
