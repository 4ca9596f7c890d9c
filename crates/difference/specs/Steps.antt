-- The steps of the walk at a tile, by its location k and half its run: the tile is kept, dropped, or handed to its four children.
use Rattle.std.specs.Prelude.{◌≡◌, true, false, List, [], ◌∷◌, ◌++◌, map, ℕ, zero, suc, ◌+◌, ◌-◌, ◌*◌, ◌/◌, ◌%◌, ◌≤◌, ◌<◌, length, set}
use Rattle.std.proofs.Common.{sym, ap, ◌∙◌, append_assoc, mul-le-mul_right, add-one, arith}
use Rattle.std.proofs.Math.Decide.{dec_lt}
use Rattle.constants.specs.Limits.{max_zoom}
use Rattle.quadtree.specs.Numbers.{OfMap, location_of, location_tile}
use Rattle.quadtree.specs.OneTile.{location_tile_lem}
use Rattle.quadtree.specs.Locations.{low_of, start_of, end_of, low_child, location_child, tile_location, Room, room, tiles, valid_tile}
use Rattle.quadtree.specs.Locations.{map_tile}
use Rattle.tile.specs.declared.Tile.{Tile}
use Rattle.tile_set.specs.Holds.{valid_child}
use Rattle.tile_set.specs.Set.{child}
use Rattle.difference.specs.Left.{of_four, left_of, left_at, four_at}
use Rattle.difference.specs.Touch.{past_all, before_next, in_next, over_next, not_deepest}
use Rattle.difference.specs.Walk.{Behind, Come, AtTile, AtFour, Clear, Walked, behind_on, come_on, wrote_none, wrote_one, wrote_both}

pub passed_on : {gone : List ℕ} {k low from next count : ℕ} → AtTile gone k low from count → Behind gone (k - low) next
    → AtTile gone k low next count
passed_on a b = record { location = a.location; half = a.half; runs = a.runs; come = record { behind = b; few = a.come.few } }

module _ {gone : List ℕ} {k low next count : ℕ} (a : AtTile gone k low next count) where
  abbrev t : Tile
  t = location_tile k

  behind : Behind gone (start_of t) next
  behind = behind_on a.come.behind (omega (arith, a.half, a.location.again))

  -- how a tile is kept
  abbrev pub Keeps : Type 0
  Keeps = (n c : ℕ) (before after : List ℕ) → n ≡ next → c ≡ count + 1 → after ≡ set before count k
      → Walked (left_at gone k) gone (k + low) count before after n c

  kept : left_at gone k ≡ t ∷ [] → Keeps
  kept f n c before after g h w =
      let v : after ≡ set before count (location_of t) = w ∙ ap (set before count) (sym a.location.again) in
      let r : Come gone (k + low) n c =
      record {
        behind = rw g (behind_on a.come.behind (omega arith));
        few =
            omega (arith, a.come.few, (room a.location a.half).some);
      } in
      record { come = r; wrote = rw (f, h, v) (wrote_one t count before) }

  pub kept_clear : Clear true gone next (k + low) → Keeps
  kept_clear c = kept (pick (dec_lt next (length gone)))
    where
      pick : Dec (next < length gone) → left_at gone k ≡ t ∷ []
      pick (yes h) = before_next gone a.runs t a.location.of_map (max_zoom - t.z) next behind h
          (omega (arith, c h, a.half, a.location.again))
      pick (no h) = past_all gone a.runs t a.location.of_map (max_zoom - t.z) next behind (omega (arith, a.come.behind.within))

  -- the next tile that is taken away, half whose run is `wide` long
  module _ (n : Clear false gone next (k + low)) {wide : ℕ} (f : wide ≡ low_of (tiles gone next))
      (y : k - low < end_of (tiles gone next)) where
    h : next < length gone
    h = n.0

    begins : start_of (tiles gone next) < end_of t
    begins = omega (arith, n.1, a.half, a.location.again)

    ends : start_of t < end_of (tiles gone next)
    ends = omega (arith, a.half, a.location.again)

    pub dropped : low ≤ wide → (l : List ℕ) → Walked (left_at gone k) gone (k + low) count l l next count
    dropped q l =
        let g = in_next gone a.runs t a.location.of_map (max_zoom - t.z) next behind h begins ends (omega (arith, a.half)) in
        record { come = come_on a.come (omega arith); wrote = rw g (wrote_none count l) }

    module _ (q : wide < low) where
      higher : t.z < max_zoom
      higher = not_deepest gone a.runs t a.location.of_map 0 next behind h begins ends (omega (arith, a.half))

      quarters : 4 * (low / 4) ≡ low
      quarters = omega (arith, a.half, low_child t higher 0 0)

      pub handing : AtFour gone k (low / 4) next count
      handing = record {
        location = a.location;
        higher = higher;
        half = quarters ∙ a.half;
        runs = a.runs;
        come = come_on a.come (omega (arith, quarters));
      }

      pub handed : {n c : ℕ} {before after : List ℕ} → Walked (four_at gone k) gone (k + 4 * (low / 4)) count before after n c
          → Walked (left_at gone k) gone (k + low) count before after n c
      handed w =
          let d : max_zoom - t.z ≡ suc (max_zoom - suc t.z) = omega (arith, higher) in
          let o = over_next gone a.runs t a.location.of_map (max_zoom - suc t.z) next behind h begins ends
          (omega (arith, a.half)) in
          record { come = come_on w.come (omega (arith, quarters)); wrote = rw (d, o) w.wrote }

-- child n in the quadtree's order
abbrev nth : Tile → ℕ → Tile
nth t n = child t (n % 2) (n / 2)

-- one list of each of the first n children, in the quadtree's order
unfoldable pub of_first : (Tile → List Tile) → Tile → ℕ → List Tile
of_first f t zero = []
of_first f t (suc n) = of_first f t n ++ f (nth t n)

of_first_four : (f : Tile → List Tile) (t : Tile) → of_first f t 4 ≡ of_four f t
unfolding of_first
of_first_four f t = simp append_assoc

-- the location of child n of the tile at location k. Half the child's run is q long
abbrev pub child_at : ℕ → ℕ → ℕ → ℕ
child_at k q n = k - 3 * q + 2 * n * q

-- what is left of a child of the tile at location k
abbrev left_below : List ℕ → ℕ → Tile → List Tile
left_below gone k = left_of (max_zoom - suc (location_tile k).z) (map location_tile gone)

-- the walk stands at the start of child n of the tile at location k, or at the tile's end where n is 4. What is left of the first n
-- children is written
pub record AtChild (gone : List ℕ) (k q count : ℕ) (before after : List ℕ) (n next c : ℕ) : Type 0 where
  pub most : n ≤ 4
  pub walked : Walked (of_first (left_below gone k) (location_tile k) n) gone (k - 4 * q + 2 * n * q) count before after next c

module _ {gone : List ℕ} {k q next count : ℕ} (a : AtFour gone k q next count) where
  pub around : Room k (4 * q)
  around = room a.location a.half

  pub before_children : (l : List ℕ) → AtChild gone k q count l l 0 next count
  unfolding of_first
  before_children l = record { most = omega arith; walked = record { come = come_on a.come (omega arith); wrote = wrote_none count l } }

  module _ (n : ℕ) (h : n < 4) where
    abbrev c : Tile
    c = nth (location_tile k) n

    of_map : OfMap c
    of_map = map_tile c (valid_child (n % 2) (n / 2) (valid_tile (location_tile k) a.location.of_map) a.higher (omega arith)
        (omega arith))

    pub steps : 2 * n * q ≤ 6 * q
    steps = mul-le-mul_right q (omega arith)

    half : q ≡ low_of c
    half = omega (arith, a.half, low_child (location_tile k) a.higher (n % 2) (n / 2))

    location : child_at k q n ≡ location_of c
    location =
        let e : 2 * (n / 2) + n % 2 ≡ n = omega arith in
        let p : location_of c + 3 * q ≡ k + 2 * (n * q) =
        rw (← half, a.location.again, e) at (location_child (location_tile k) a.higher (n % 2) (n / 2) (omega arith) (omega arith)) in
        omega (arith, p, around.below)

    tile : location_tile (child_at k q n) ≡ c
    tile = ap location_tile location ∙ location_tile_lem c of_map

    -- the levels below a child are one less
    pub fewer_levels : suc (max_zoom - (location_tile (child_at k q n)).z) ≡ max_zoom - (location_tile k).z
    fewer_levels = let f = ap (λ (t : Tile). t.z) tile in omega (arith, a.higher)

    module _ {before after : List ℕ} {m r : ℕ} (s : AtChild gone k q count before after n m r) where
      pub at_child : AtTile gone (child_at k q n) q m r
      at_child = record {
        location = rw location (tile_location c of_map);
        half = half ∙ ap low_of (sym tile);
        runs = a.runs;
        come = come_on s.walked.come (omega (arith, around.below));
      }

      pub child_walked : {l : List ℕ} {i j : ℕ} → Walked (left_at gone (child_at k q n)) gone (child_at k q n + q) r after l i j
          → AtChild gone k q count before l (n + 1) i j
      unfolding of_first
      child_walked w = record {
        most = omega arith;
        walked = record {
          come = come_on w.come (omega (arith, around.below));
          wrote = rw (add-one n) (wrote_both s.walked.wrote (rw tile at w.wrote));
        };
      }

  pub children_walked : {before after : List ℕ} {n m r : ℕ} → AtChild gone k q count before after n m r → 4 ≤ n
      → Walked (four_at gone k) gone (k + 4 * q) count before after m r
  children_walked {before} {after} {n} s h =
      let e : n ≡ 4 = omega (arith, s.most) in
      let w = rw e at s.walked in
      record {
        come = come_on w.come (omega (arith, around.below));
        wrote = rw (of_first_four (left_below gone k) (location_tile k)) at w.wrote;
      }
