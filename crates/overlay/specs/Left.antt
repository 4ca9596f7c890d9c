-- Difference: how many places it needs, and that what is left becomes a list in them.
use Rattle.std.specs.Prelude.{◌≡◌, List, ◌++◌, map, ℕ, ◌+◌, ◌-◌, ◌*◌, ◌≤◌, ltb, length, take, drop}
use Rattle.std.proofs.Common.{sym, ap, ◌∙◌, subst, append-nil, arith, le-ltb, length-append, take_all, take_at, drop_at, length-take-le}
use Rattle.std.proofs.lemmas.List.{length-map}
use Rattle.std.proofs.lemmas.List.Edits.{sets}
use Rattle.constants.specs.Limits.{max_zoom}
use Rattle.difference.specs.Bound.{without_length}
use Rattle.difference.specs.Left.{without}
use Rattle.difference.specs.Order.{without_runs}
use Rattle.difference.specs.Walk.{sets_front}
use Rattle.overlay.specs.Overlay.{TwoSets, left_set, left_entries, LeftIn}
use Rattle.overlay.specs.Parts.{first_length}
use Rattle.overlay.specs.Runs.{runs_numbers, runs_count}
use Rattle.quadtree.specs.Lists.{TileNumbers}
use Rattle.quadtree.specs.Locations.{Runs}
use Rattle.quadtree.specs.Numbers.{location_of, location_tile}
use Rattle.tile_list.specs.Finish.{Listed}
use Rattle.tile_list.specs.List.{named}

module _ (a b : List ℕ) (r : Runs a) where
  left_count : length (left_entries a b) ≡ length (without a b)
  left_count = runs_count (map location_of (without a b)) (without_runs a b r) ∙ length-map (without a b) location_of

  pub left_bound : Runs b → length (left_entries a b) ≤ length a + 3 * (max_zoom * length b)
  left_bound s = omega (arith, left_count, without_length a r b s)

module _ {locations : List ℕ} {n : ℕ} (p : TwoSets locations n) where
  abbrev entries : List ℕ
  entries = left_entries (take n locations) (drop n locations)

  pub most_places : (room : ℕ) → n + 3 * (max_zoom * length (drop n locations)) ≤ room
      → ltb room (n + 3 * (max_zoom * length (drop n locations))) ≡ ltb room (length entries)
  most_places room h =
      let bound = left_bound (take n locations) (drop n locations) p.first p.second in
      le-ltb room _ h ∙ sym (le-ltb room (length entries) (omega (arith, rw (← first_length p) at bound)))

  -- what was counted
  module _ {count : ℕ} (counted : count ≡ length (without (take n locations) (drop n locations))) where
    as_many : count ≡ length entries
    as_many = counted ∙ sym (left_count (take n locations) (drop n locations) p.first)

    pub left_places : (room : ℕ) → ltb room count ≡ ltb room (length entries)
    left_places room = ap (ltb room) as_many

    -- and written, where there is room for it
    module _ (before : List ℕ) {after : List ℕ}
        (written : after ≡ sets before 0 (map location_of (without (take n locations) (drop n locations))))
        (room : length entries ≤ length before) where
      abbrev left : List ℕ
      left = map location_of (without (take n locations) (drop n locations))

      runs : Runs left
      runs = without_runs (take n locations) (drop n locations) p.first

      many : length left ≡ count
      many = sym (as_many ∙ runs_count left runs)

      front : after ≡ left ++ drop count before
      front =
          written
          ∙ (sets_front before left (omega (arith, many, as_many, room)) ∙ ap (λ (i : ℕ). left ++ drop i before) many)

      front_left : take count after ≡ left
      front_left = ap (take count) front ∙ take_at left (drop count before) count many

      twice : take count (take count after) ≡ left
      twice = rw front_left (take_all count left (omega (arith, many)))

      pub left_within : count ≤ length after
      left_within = rw front (omega (arith, many, length-append left (drop count before)))

      pub left_ready : (count ≤ length (take count after)) × TileNumbers location_of (take count (take count after))
      left_ready = (omega (arith, length-take-le count after left_within), rw twice (runs_numbers left runs))

      pub left_in : {part : List ℕ} {m : ℕ} → length part ≡ length (take count after)
          → Listed (named location_tile (take count (take count after))) part m
          → LeftIn (take n locations) (drop n locations) before (part ++ drop count after) m
      left_in {part} {m} e l = record { counted = listed.counted; written = rw (whole, rest) }
        where
          listed : Listed (left_set (take n locations) (drop n locations)) part m
          listed = subst (λ (k : List ℕ). Listed (named location_tile k) part m) twice l

          all : count ≡ m
          all = as_many ∙ sym listed.counted

          whole : part ≡ entries
          whole =
              let z : length part - m ≡ 0 = omega (arith, e, all, length-take-le count after left_within) in
              listed.left ∙ rw (z, append-nil entries)

          rest : drop count after ≡ drop m before
          rest = ap (drop count) front ∙ (drop_at left (drop count before) count many ∙ ap (λ (i : ℕ). drop i before) all)
