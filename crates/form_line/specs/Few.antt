-- The list of a form has no more entries than a list of a form has places, and all of them are tiles' numbers.
use Rattle.std.specs.Prelude.{◌≡◌, refl, Bool, true, false, not, ◌&&◌, ◌⊎◌, ℕ, zero, suc, ◌+◌, ◌≤◌, ltb}
use Rattle.std.proofs.Common.{sym, inl, inr, arith, length-append, ltb-false}
use mathlib.Core.List.Memᴰ
use mathlib.Core.List.{List, [], ◌++◌, map-append, Memᴰ}
use Rattle.std.proofs.Math.ListN.{length}
use Rattle.std.proofs.lemmas.List.{length-map, length-replicate}
use Rattle.area.specs.Area.{tiles_of, ground_of, settled_entries, pair_refusal, pair_places_refusal, union_entries, common_entries}
use Rattle.area.specs.Area.{difference_entries}
use Rattle.area.proofs.Grounds.{simplify_entries, listed_covers}
use Rattle.area.specs.Pairs.{union_covers, common_covers, Shared, of_first_lem, of_second, shared_when}
use Rattle.area.proofs.Settled.{settled_entries_settled}
use Rattle.bits.specs.Tests.{all_of, into_map}
use Rattle.constants.specs.Limits.{max_zoom, max_line, form_places}
use Rattle.errors.specs.Answer.{answer, Lent, short, ◌when◌, ◌else◌}
use Rattle.errors.specs.Gives.{Gives}
use Rattle.errors.specs.Laws.{else_zero}
use Rattle.form.specs.Form.{Form, tiles, pair, Reads, too_deep}
use Rattle.form.specs.Reading.{reading}
use Rattle.form.specs.declared.Verb.{Verb}
use Rattle.form.specs.declared.Verb.TheVariants.{Plus, Both, Minus}
use Rattle.form_area.specs.Area.{form_area, area_given, keys_refusal, operated, places, read_area, line_area, run_entries}
use Rattle.form_area.specs.Calls.{operated_gives}
use Rattle.ground.proofs.FloorLemmas.{settled_list_least_from}
use Rattle.ground.specs.Ground.{settled_list}
use Rattle.ground.specs.Largest.{Cover}
use Rattle.ids.specs.Entry.{entry_of, entry_tile, entry_refusal, is_entry}
use Rattle.merge.specs.Gives.{simplify_gives}
use Rattle.tile.specs.declared.Tile.{Tile}
use Rattle.tile_list.specs.Laws.{accepted_entries, named_by}
use Rattle.tile_list.specs.List.{listed, list_refusal, places_refusal, entries_in_order}
use Rattle.tile_set.specs.Merged.{or_cases}
use Rattle.tile_set.specs.Set.{simplified}

abbrev pub IsEntry : ℕ → Type 0
IsEntry n = entry_refusal n ≡ 0

-- a list of entries that fits the places
pub record Fits (list : List ℕ) : Type 0 where
  pub entries : all_of is_entry list ≡ true
  pub few : length list ≤ form_places

none_fits : Fits []
unfolding all_of
none_fits = record { entries = refl; few = omega arith }

settled_fits : (G : ℕ → ℕ → Bool) → length (settled_entries G) ≤ form_places → Fits (settled_entries G)
settled_fits G h = record { entries = (settled_entries_settled G).0; few = h }

-- the settled list of what lists cover, and no more entries than those have
covered_fits : {G : ℕ → ℕ → Bool} {P : Tile → Type 0} → Cover max_zoom G P → (list : List ℕ)
    → ((t : Tile) → P t → Memᴰ t (tiles_of list))
    → length list ≤ form_places → Fits (settled_entries G)
covered_fits {G} C list all h =
    settled_fits G (omega (
      arith,
      length-map (settled_list max_zoom G) (λ (t : Tile). entry_of t.x t.y t.z),
      length-map list entry_tile,
      settled_list_least_from 0 max_zoom C (λ t p. omega arith) (tiles_of list) all,
      h,
    ))

when_zero : (n : ℕ) (b : Bool) → suc n when b ≡ 0 → b ≡ false
when_zero n true e = absurd (omega arith)
when_zero n false e = refl

-- there are places enough where 12 is not given
room : (n : ℕ) → 12 when ltb (length places) n ≡ 0 → n ≤ form_places
room n e = omega (arith, ltb-false (length places) n (when_zero 11 (ltb (length places) n) e), length-replicate {A = ℕ} form_places 0)

given_fits : (refusal n : ℕ) (r : Lent ℕ) (items : List ℕ) → Gives r n items → (n ≡ 0 → Fits items) → Fits (area_given refusal r).value
given_fits zero zero r items g f = rw (g.number, g.front) (f refl)
given_fits zero (suc n) r items g f = rw g.number none_fits
given_fits (suc m) n r items g f = none_fits

in_tiles : (list : List ℕ) (t : Tile) → listed list t ≡ true → Memᴰ t (tiles_of list)
in_tiles list t e = let s = named_by entry_tile list t e in Memᴰ.cast (sym s.2) (into_map entry_tile list s.1)

-- of `tiles`: as many as keys at most
keys_fit : (list : List ℕ) → places_refusal list places ≡ 0 → Fits (entries_in_order (simplified max_zoom 0 (listed list)))
unfolding places_refusal
keys_fit list e =
    let k = else_zero (list_refusal list) _ e in
    let a = accepted_entries list k.0 in
    rw (simplify_entries list a) (covered_fits (listed_covers list a) list (in_tiles list) (room (length list) k.1))

-- of two lists: as many as both have at most
module _ (a b : List ℕ) (f : Fits a) (g : Fits b) where
  either : (t : Tile) → (listed a t ≡ true) ⊎ (listed b t ≡ true) → Memᴰ t (tiles_of (a ++ b))
  either t (inl e) = rw (map-append entry_tile a b) (Memᴰ.append_left (tiles_of b) (in_tiles a t e))
  either t (inr e) = rw (map-append entry_tile a b) (Memᴰ.append_right (tiles_of a) (in_tiles b t e))

  both_few : pair_places_refusal a b places ≡ 0 → length (a ++ b) ≤ form_places
  unfolding pair_places_refusal
  both_few e = rw (length-append a b) (room (length a + length b) (else_zero (pair_refusal a b) _ e).1)

  union_fits : pair_places_refusal a b places ≡ 0 → Fits (union_entries a b)
  union_fits e =
      covered_fits (union_covers (listed a) (listed b) (listed_covers a f.entries) (listed_covers b g.entries)) (a ++ b)
      (λ t k. either t (or_cases (listed a t) (listed b t) k)) (both_few e)

  of_either : (t : Tile) → Shared (listed a) (listed b) t → Memᴰ t (tiles_of (a ++ b))
  of_either t (of_first_lem e s i h) = either t (inl e)
  of_either t (of_second e s i h) = either t (inr e)

  common_fits : pair_places_refusal a b places ≡ 0 → Fits (common_entries a b)
  common_fits e =
      covered_fits (common_covers (listed a) (listed b) (listed_covers a f.entries) (listed_covers b g.entries)) (a ++ b)
      (λ t k. of_either t (shared_when (listed a) (listed b) t k)) (both_few e)

  difference_fits : (n : ℕ) → n else short (difference_entries a b) places ≡ 0 → Fits (difference_entries a b)
  difference_fits n e =
      settled_fits (λ X Y. ground_of a X Y && not (ground_of b X Y)) (room (length (difference_entries a b)) (else_zero n _ e).1)

  operated_fits : (refusal : ℕ) (verb : Verb) → Fits (area_given refusal (operated verb a b places)).value
  operated_fits refusal Plus = given_fits refusal _ _ (union_entries a b) (operated_gives Plus a b places) union_fits
  operated_fits refusal Both = given_fits refusal _ _ (common_entries a b) (operated_gives Both a b places) common_fits
  operated_fits refusal Minus =
      given_fits refusal _ _ (difference_entries a b) (operated_gives Minus a b places)
      (difference_fits (pair_refusal a b))

pub form_fits : (f : Form) → Fits (form_area f).value
unfolding form_area
form_fits (tiles runs) =
    given_fits (keys_refusal runs) _ _ _
    (simplify_gives 0 (run_entries runs) places)
    (keys_fit (run_entries runs))
form_fits (pair verb f g) =
    operated_fits (form_area f).value (form_area g).value (form_fits f) (form_fits g) ((form_area f).number else (form_area g).number) verb

-- so has the list of a line
pub line_fits : (line : List ℕ) → Fits (line_area line).value
unfolding line_area
line_fits line = go (13 when ltb max_line (length line) else 14 when too_deep 0 line else (read_area (reading line)).number) (reading line)
  where
    read : (d : Dec ((f : Form) × Reads line f)) → Fits (read_area d).value
    read (yes r) = form_fits r.0
    read (no n) = none_fits

    go : (n : ℕ) (d : Dec ((f : Form) × Reads line f)) → Fits (answer n [] (read_area d).value).value
    go zero d = read d
    go (suc n) d = none_fits
