-- Works of one list: from the code's steps to what is told_as.
use Rattle.std.specs.Prelude.{◌≡◌, refl, ◌+◌, ◌-◌, replicate, Bool, true, false, not, List, [], map, ◌++◌, ℕ, zero, suc, ◌≤◌, ◌<◌, length, drop, Result, Ok, Err}
use Rattle.std.proofs.lemmas.List.{length-replicate}
use Rattle.std.proofs.Common.{sym, ap, ap₂, ◌∙◌, arith, length-append, lt-ltb, le-ltb}
use Rattle.bits.specs.Tests.{not_false, all_of, any_of, in_any, any_in}
use Rattle.families.specs.Pass.{Merges}
use Rattle.families.specs.declared.Joined.{Joined}
use Rattle.constants.specs.Limits.{max_zoom}
use Rattle.errors.specs.Answer.{Lent, ◌when◌}
use Rattle.errors.specs.declared.Refusal.{Refusal}
use Rattle.errors.specs.declared.Refusal.TheVariants.{NoTile, Memory}
use Rattle.ids.specs.Entry.{entry_tile, is_entry}
use Rattle.quadtree.specs.Lists.{sort_tile, sort_key, entry_key, Keyed, TileNumbers, keys_fine, keys_of_tiles}
use Rattle.quadtree.specs.Numbers.{location_tile}
use Rattle.quadtree.specs.declared.Key.{Key}
use Rattle.settled.specs.Settled.{is_settled}
use Rattle.tile_list.specs.Finish.{Listed, listed_filled}
use Rattle.tile_list.specs.Laws.{named_by, keys_named}
use Rattle.tile_list.specs.List.{named, listed, entries_in_order, filled}
use Rattle.tile_set.specs.Merged.{joins_in, is_false}
use Rattle.tile_set.specs.Set.{joins, simplified, simplified_v1}
use Rattle.tile.specs.declared.Tile.{Tile}
use Rattle.work.specs.Steps.{Changes, Simplifies}
use Rattle.work.specs.Work.{told_left, told_as, few_of, merge_changes, changes_of, sorted_by, simplification_set, simplification_items}
use Rattle.work.specs.declared.Outcome.{Outcome}
use Rattle.work.specs.declared.Simplification.{Simplification}
use Rattle.work.specs.declared.Simplification.TheVariants.{Merge, SimplifyV1, Simplify}
use Rattle.work.specs.declared.Work.TheVariants as work

changed_says : (which : Simplification) (m : ℕ) (list : List ℕ) (b : Bool) → Changes which m (listed list) b → b ≡ changes_of which m list
unfolding merge_changes
changed_says Merge m list false c = sym (is_false (any_of (λ n. joins m (listed list) (entry_tile n)) list) never)
  where
    never : any_of (λ n. joins m (listed list) (entry_tile n)) list ≡ true → ⊥
    never e =
        let s = any_in (λ n. joins m (listed list) (entry_tile n)) list e in
        let f = c.0 refl (entry_tile s.0) in
        let g = s.2 in
        let z : ◌≡◌ {A = ℕ} 0 1 = cc in
        omega arith
changed_says Merge m list true c =
    let s = c.1 refl in
    let n = named_by entry_tile list s.0 (joins_in m (listed list) s.0 s.1) in
    sym (in_any (λ n. joins m (listed list) (entry_tile n)) list n.1 (ap (joins m (listed list)) n.2 ∙ s.1))
changed_says SimplifyV1 m list b c = c
changed_says Simplify m list b c = c

-- the keys that the test of the entries leaves
module _ {by : Key} {fine : Bool} {list left : List ℕ} (k : Keyed by list left fine) (f : not fine ≡ false) (which : Simplification)
    (e : by ≡ sorted_by which) where
  pub keys_left : left ≡ map (entry_key (sorted_by which)) list
  keys_left = k.keys (not_false fine f) ∙ ap (λ (k : Key). map (entry_key k) list) e

  pub keys_numbers : TileNumbers (sort_key (sorted_by which)) left
  keys_numbers n m = keys_of_tiles (sorted_by which) list (sym (keys_fine by fine list left k f)) n (rw keys_left at m)

-- what a work of one list answers

pub no_tile : (which : Simplification) (m : ℕ) (list memory : List ℕ) → false ≡ all_of is_entry list
    → told_left (Err NoTile) memory ≡ few_of (work.Simplified which) m list [] memory
no_tile which m list memory f = rw (← f)

pub no_room : (which : Simplification) (m : ℕ) (list memory : List ℕ) → true ≡ all_of is_entry list → length memory < length list
    → told_left (Err Memory) memory ≡ few_of (work.Simplified which) m list [] memory
no_room which m list memory f l = rw (← f, lt-ltb _ _ l)

-- the answer stands in the part of the memory that was asked for
pub done : (which : Simplification) (m : ℕ) (list keys memory after : List ℕ) (v : Outcome) → true ≡ all_of is_entry list
    → length list ≤ length memory → length after ≡ length list → keys ≡ map (entry_key (sorted_by which)) list
    → Simplifies which m keys after v
    → told_left (Ok v) (after ++ drop (length list) memory) ≡ few_of (work.Simplified which) m list [] memory
done which m list keys memory after v f l s k w = rw (← f, le-ltb _ _ l, ← value, ← left)
  where
    set : named (sort_tile (sorted_by which)) keys ≡ listed list
    set = ap (named (sort_tile (sorted_by which))) k ∙ keys_named (sorted_by which) list (sym f)

    items : List ℕ
    items = simplification_items which m list

    its : Listed (simplification_set which m (listed list)) after v.count
    its = rw set at w.listed

    value : v ≡ record { count = length items; yes = changes_of which m list }
    value = ap₂ (λ (n : ℕ) (b : Bool). record { count = n; yes = b }) its.counted (changed_says which m list v.yes (rw set at w.changes))

    left : after ++ drop (length list) memory ≡ filled (length list) items memory
    left = listed_filled (length list) memory its s

-- each work's own promise is what is asked of it
pub merge_simplifies : {which : Simplification} {m : ℕ} {keys after : List ℕ} (r : Joined) → which ≡ Merge → Merges m keys after r
    → Simplifies which m keys after (record { count = r.count; yes = r.changed })
merge_simplifies r e p = rw e (record { listed = p.listed; changes = (p.still, p.moved) })

pub simplify_simplifies : {which : Simplification} {m : ℕ} {keys after : List ℕ} {v : ℕ} → which ≡ Simplify
    → Listed (simplified max_zoom m (named location_tile keys)) after v → Simplifies which m keys after (record { count = v; yes = false })
simplify_simplifies e p = rw e (record { listed = p; changes = refl })

pub simplify_v1_simplifies : {which : Simplification} {m : ℕ} {keys after : List ℕ} {v : ℕ} → which ≡ SimplifyV1
    → Listed (simplified_v1 max_zoom m (named location_tile keys)) after v → Simplifies which m keys after (record { count = v; yes = false })
simplify_v1_simplifies e p = rw e (record { listed = p; changes = refl })

-- the test of a list
pub test_no_tile : (list : List ℕ) → false ≡ all_of is_entry list → told_left (Err NoTile) [] ≡ few_of work.Tested 0 list [] []
test_no_tile list f = rw (← f)

pub test_told : (list : List ℕ) (b : Bool) → true ≡ all_of is_entry list → b ≡ is_settled list
    → told_left (Ok (record { count = 0; yes = b })) [] ≡ few_of work.Tested 0 list [] []
test_told list b f g = rw (← f, ← g)

-- the test leaves the memory as it was
pub test_in_memory : (r : Result Outcome Refusal) (m : ℕ) (list b memory : List ℕ) → told_left r [] ≡ few_of work.Tested 0 list [] []
    → told_left r memory ≡ few_of work.Tested m list b memory
test_in_memory r m list b memory e = pick (7 when not (all_of is_entry list)) (record { count = 0; yes = is_settled list }) e
  where
    pick : (n : ℕ) (v : Outcome) → told_left r [] ≡ told_as n v [] [] → told_left r memory ≡ told_as n v memory memory
    pick zero v e = ap (λ (l : Lent Outcome). record { number = l.number; value = l.value; memory = memory }) e
    pick (suc n) v e = ap (λ (l : Lent Outcome). record { number = l.number; value = l.value; memory = memory }) e

-- a list has no more entries than the memory has places
pub count_in_memory : {S : Tile → Bool} {memory : List ℕ} {count : ℕ} → Listed S memory count → count ≤ length memory
count_in_memory {S} {memory} {count} l =
    let size : length memory ≡ length (entries_in_order S) + (length memory - count) = ap length l.left
    ∙ (length-append (entries_in_order S) (replicate (length memory - count) 0)
    ∙ ap (λ (n : ℕ). length (entries_in_order S) + n) (length-replicate {A = ℕ} (length memory - count) 0)) in
    omega (arith, size, l.counted)
