-- `quadtree::entry_of_rank` meets its contract: a rank taken apart is its tile.
use mathlib.Core.Path.{◌≡◌, ap, sym, ◌∙◌}
use Prim.Native.Nat.{ℕ, ◌+◌, ◌-◌, ◌*◌, ◌/◌, ◌%◌, ◌^◌, ◌≤◌}
use native.Mathlib.Omega.{arith}
use Rattle.bits.specs.Powers.{pow_within, high_part_below, low_part}
use Rattle.constants.specs.Limits.{max_zoom_small}
use Rattle.ids.specs.Entry.{entry_of}
use Rattle.tile.specs.OnMap.{OnMap, on_map_small}
use Rattle.tile.specs.declared.Tile.{Tile}
use Rattle.quadtree.specs.Lists.{tile_entry}
use Rattle.quadtree.specs.Numbers.{rank_tile}
use Rattle.quadtree.specs.OneTile.{rank_tile_lem}
use Rattle.quadtree.specs.RankOrder.{rank_taken}
use Rattle.quadtree.proofs.entry_of_rank.Goals as goal
use Rattle.quadtree.proofs.entry_of_rank.Goals.{Start}

abbrev tile : Start → Tile
tile c = c.requires.0.tile

taken : (c : Start)
    → (c.args.z ≡ (tile c).z) × (c.args.r / 2 ^ c.args.z ≡ 2 ^ (tile c).z + (tile c).x) × (c.args.r % 2 ^ c.args.z ≡ (tile c).y)
taken c = rank_taken c.requires.0.tile c.requires.0.on_map c.requires.0.number c.requires.1

shallow : (c : Start) → c.args.z ≤ 30
shallow c = omega (arith, (taken c).0, c.requires.0.on_map.zoom, max_zoom_small)

pub overflow_shr-column : goal.overflow_shr-column
overflow_shr-column c = omega (arith, shallow (goal.at.overflow_shr-column c).Start)

pub overflow_shl-z : goal.overflow_shl-z
overflow_shl-z c = omega (arith, shallow (goal.at.overflow_shl-z c).Start)

one : (c : Start) → 1 * 2 ^ c.args.z % 2 ^ 64 ≡ 2 ^ (tile c).z
one c =
    let e : 1 * 2 ^ c.args.z ≡ 2 ^ c.args.z = omega arith in
    ap (λ (n : ℕ). n % 2 ^ 64) e ∙ (pow_within c.args.z 64 (omega (arith, shallow c)) ∙ ap (λ (z : ℕ). 2 ^ z) (taken c).0)

column : (c : Start) → c.args.r / 2 ^ c.args.z - 1 * 2 ^ c.args.z % 2 ^ 64 ≡ (tile c).x
column c = omega (arith, one c, (taken c).1)

row : (c : Start) → c.args.r - c.args.r / 2 ^ c.args.z * 2 ^ c.args.z % 2 ^ 64 ≡ (tile c).y
row c = low_part c.args.r c.args.z 64 c.ranges.r.fits ∙ (taken c).2

pub overflow_sub-column : goal.overflow_sub-column
overflow_sub-column c = omega (arith, one (goal.at.overflow_sub-column c).Start, (taken (goal.at.overflow_sub-column c).Start).1)

pub overflow_cast-column-2 : goal.overflow_cast-column-2
overflow_cast-column-2 c = omega (arith, column (goal.at.overflow_cast-column-2 c).Start, (on_map_small c.requires.0.on_map).0)

pub overflow_shl-column : goal.overflow_shl-column
overflow_shl-column c = omega (arith, shallow (goal.at.overflow_shl-column c).Start)

pub overflow_sub-r : goal.overflow_sub-r
overflow_sub-r c = high_part_below c.args.r c.args.z 64 c.ranges.r.fits

pub overflow_cast-r : goal.overflow_cast-r
overflow_cast-r c = omega (arith, row (goal.at.overflow_cast-r c).Start, (on_map_small c.requires.0.on_map).1)

same_tile_lem : {x y z a b k : ℕ} → a ≡ x → b ≡ y → k ≡ z → OnMap x y z → OnMap a b k
same_tile_lem e f g m = rw (e, f, g) m

pub entry-requires : goal.entry-requires
entry-requires c = same_tile_lem (column (goal.at.entry-requires c).Start) (row (goal.at.entry-requires c).Start) (taken (goal.at.entry-requires c).Start).0 c.requires.0.on_map

same_entry : {x y z a b k : ℕ} → a ≡ x → b ≡ y → k ≡ z → entry_of a b k ≡ entry_of x y z
same_entry e f g = rw (e, f, g)

pub returns : goal.returns
returns c = let t : rank_tile c.args.r ≡ c.requires.0.tile = ap rank_tile (sym c.requires.0.number) ∙ rank_tile_lem c.requires.0.tile c.requires.0.on_map in
    c.entry.ensures ∙ (same_entry (column (goal.at.returns c).Start) (row (goal.at.returns c).Start) (taken (goal.at.returns c).Start).0 ∙ ap tile_entry (sym t))
