-- From a call of `simplify` to the settled list of its ground from m on.
use Rattle.std.specs.Prelude.{◌≡◌, ◌↔◌, true, ℕ, ◌≤◌, ◌<◌}
use Rattle.std.proofs.Common.{sym, ap, ◌∙◌}
use mathlib.Core.List.{List, Memᴰ}
use Rattle.std.proofs.Math.Decide.{dec_lt}
use native.Mathlib.Omega.{arith}
use Rattle.std.proofs.Math.ListN.{length}
use Rattle.std.proofs.lemmas.List.{length-map}
use Rattle.area.specs.Area.{tiles_of, ground_of}
use Rattle.area.proofs.Grounds.{tiles_again, listed_covers}
use Rattle.bits.specs.Tests.{all_of}
use Rattle.builds.specs.Build.{own, settling}
use Rattle.builds.specs.Refusals.{TooLong, NoTiles}
use Rattle.builds.proofs.RefusalsLemmas.{a_call_is_refused}
use Rattle.constants.specs.Limits.{max_zoom}
use Rattle.errors.proofs.GivesLemmas.{accepted_items}
use Rattle.errors.specs.Laws.{else_zero}
use Rattle.floor.specs.Floor.{settled_at, AtFloor}
use Rattle.ground.proofs.FloorLemmas.{settled_list_settled_from, settled_list_ground_from, simplified_list_from}
use Rattle.ground.specs.Ground.{ground, Same, SettledFrom, settled_list_from}
use Rattle.ids.specs.Entry.{entry_of, entry_tile, entries_of, is_entry}
use Rattle.merge.specs.Gives.{simplify_gives}
use Rattle.merge.specs.Merge.{simplify_of}
use Rattle.tile.specs.declared.Tile.{Tile}
use Rattle.tile_list.specs.Laws.{named_by, accepted_entries}
use Rattle.tile_list.specs.List.{listed, list_refusal, places_refusal}
use Rattle.tile_set.specs.Holds.{Valid}

-- when a call is not refused, at any m
module _ (m : ℕ) (list memory : List ℕ) where
  -- "6 over 65,536 entries", "7 no tile's number", and 12 where there are fewer places than entries
  pub accepted_exactly : ((simplify_of list m memory).number ≡ 0) ↔ ((TooLong list → ⊥) × (NoTiles list → ⊥) × (length list ≤ length memory))
  unfolding places_refusal
  accepted_exactly =
      let n = (simplify_gives m list memory).number in
      let w = (a_call_is_refused (λ a. ground_of list) (λ a. list) (settling (own list)) (length memory)).accepted in (
        λ e. let k = w.0 (sym n ∙ e) in (k.0, k.1, room k.3),
        λ k. n ∙ w.1 (k.0, k.1, λ e. e, λ l. omega (arith, l, k.2)),
      )
    where
      room : (length memory < length list → ⊥) → length list ≤ length memory
      room f = pick (dec_lt (length memory) (length list))
        where
          pick : Dec (length memory < length list) → length list ≤ length memory
          pick (yes l) = absurd (f l)
          pick (no l) = omega arith

-- what is settled at m is the settled list of the ground from m on
module _ (m : ℕ) (list memory : List ℕ) (a : AtFloor m list memory) where
  pub all_entries : all_of is_entry list ≡ true
  unfolding places_refusal
  all_entries = accepted_entries list (else_zero (list_refusal list) _ (sym (simplify_gives m list memory).number ∙ a.accepted)).0

  abbrev tiles : List Tile
  tiles = settled_list_from m max_zoom (ground_of list)

  valid : (t : Tile) → Memᴰ t tiles → Valid max_zoom t
  valid = (settled_list_settled_from m max_zoom (ground_of list)).of_map

  pub answer_is : settled_at m list memory ≡ entries_of tiles
  answer_is =
      accepted_items (simplify_of list m memory) _ _ (simplify_gives m list memory) a.accepted
      ∙ ap entries_of (simplified_list_from m max_zoom (listed list) (listed_covers list all_entries) above)
    where
      above : (t : Tile) → listed list t ≡ true → m ≤ t.z
      above t e = let s = named_by entry_tile list t e in rw (← s.2) (a.floor s.0 s.1)

  pub count_is : (simplify_of list m memory).value ≡ length tiles
  count_is = (simplify_gives m list memory).count ∙ (ap length answer_is ∙ length-map tiles (λ (t : Tile). entry_of t.x t.y t.z))

  answer_tiles : tiles_of (settled_at m list memory) ≡ tiles
  answer_tiles = ap tiles_of answer_is ∙ tiles_again tiles valid

  pub answer_covers : Same max_zoom (ground_of (settled_at m list memory)) (ground_of list)
  answer_covers X Y p q =
      ap (λ (l : List Tile). ground max_zoom l X Y) answer_tiles ∙ settled_list_ground_from m max_zoom a.limit (ground_of list) X Y p q

  pub answer_settled : SettledFrom m max_zoom (tiles_of (settled_at m list memory))
  answer_settled = rw answer_tiles (settled_list_settled_from m max_zoom (ground_of list))

  -- the same list settled at 0
  pub at_0 : AtFloor 0 list memory
  at_0 = record {
    limit = omega arith;
    floor = λ n i. omega arith;
    accepted = (accepted_exactly 0 list memory).1 ((accepted_exactly m list memory).0 a.accepted);
  }
