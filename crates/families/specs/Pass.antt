-- What a pass over Morton codes leaves: the Morton codes of the merged set, and whether any tile joined.
use Rattle.std.specs.Prelude.{◌≡◌, Bool, true, false, List, ◌++◌, ℕ, ◌≤◌, length, take}
use Rattle.std.proofs.Common.{sym, ap, ◌∙◌, arith, length-append}
use Rattle.std.proofs.lemmas.List.{take-append-le}
use Rattle.constants.specs.Limits.{max_zoom}
use Rattle.quadtree.specs.Lists.{TileNumbers}
use Rattle.quadtree.specs.Numbers.{morton_of, morton_tile}
use Rattle.sort.specs.Sort.{sort_n}
use Rattle.tile.specs.declared.Tile.{Tile}
use Rattle.tile_list.specs.Finish.{Listed}
use Rattle.tile_list.specs.Laws.{sort_named}
use Rattle.tile_list.specs.List.{named}
use Rattle.tile_set.specs.Set.{joins, merged, passes}
use Rattle.families.specs.declared.Joined.{Joined}

pub record Passed (m : ℕ) (before after : List ℕ) (r : Joined) : Type 0 where
  pub within : r.count ≤ length after
  pub numbers : TileNumbers morton_of (take r.count after)
  pub set : named morton_tile (take r.count after) ≡ merged m (named morton_tile before)
  pub still : r.changed ≡ false → (t : Tile) → joins m (named morton_tile before) t ≡ false
  pub moved : r.changed ≡ true → (t : Tile) × (joins m (named morton_tile before) t ≡ true)

-- the same with the merged set as a list
pub record Merges (m : ℕ) (before after : List ℕ) (r : Joined) : Type 0 where
  pub listed : Listed (merged m (named morton_tile before)) after r.count
  pub still : r.changed ≡ false → (t : Tile) → joins m (named morton_tile before) t ≡ false
  pub moved : r.changed ≡ true → (t : Tile) × (joins m (named morton_tile before) t ≡ true)

-- and what passes leave until nothing changes
pub record Still (m : ℕ) (before after : List ℕ) (count : ℕ) : Type 0 where
  pub within : count ≤ length after
  pub numbers : TileNumbers morton_of (take count after)
  pub set : named morton_tile (take count after) ≡ passes max_zoom m (named morton_tile before)

-- a pass over the front part of a memory, and over Morton codes that were put in order before
pub part_passed : {m : ℕ} {before part : List ℕ} {r : Joined} (rest : List ℕ) → Passed m before part r → Passed m before (part ++ rest) r
part_passed {m} {before} {part} {r} rest p =
    let e : take r.count (part ++ rest) ≡ take r.count part = take-append-le r.count part rest p.within in
    record {
      within = rw (length-append part rest) (omega (arith, p.within));
      numbers = rw e p.numbers;
      set = rw e p.set;
      still = p.still;
      moved = p.moved;
    }

pub sort_passed : {m : ℕ} {after : List ℕ} {r : Joined} (before : List ℕ) → Passed m (sort_n before) after r → Passed m before after r
sort_passed {m} {after} {r} before p =
    let e : named morton_tile (sort_n before) ≡ named morton_tile before = sort_named morton_tile before in
    record {
      within = p.within;
      numbers = p.numbers;
      set = p.set ∙ ap (merged m) e;
      still = λ f t. ap (λ (S : Tile → Bool). joins m S t) (sym e) ∙ p.still f t;
      moved = λ f. let s = p.moved f in (s.0, ap (λ (S : Tile → Bool). joins m S s.0) (sym e) ∙ s.1);
    }

-- the Morton codes that a pass left, as a list
pub passed_merges : {m count : ℕ} {after memory : List ℕ} {r : Joined} (before : List ℕ) → Passed m (sort_n before) after r
    → Listed (named morton_tile (take r.count after)) memory count
    → Merges m before memory (record { count = count; changed = r.changed })
passed_merges {m} {count} {after} {memory} {r} before p l =
    let q = sort_passed before p in
    record { listed = rw q.set at l; still = q.still; moved = q.moved }
