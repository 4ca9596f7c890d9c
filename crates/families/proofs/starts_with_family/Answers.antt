-- `starts_with_family` tests the first four numbers. By which digit the first is left tells the last two bits of its code.
use mathlib.Core.Path.{◌≡◌, ◌∙◌}
use Prim.Native.Nat.{ℕ, ◌+◌, ◌%◌, ◌<◌}
use native.Mathlib.Omega.{arith}
use lib.ListN.{get_or}
use Rattle.child_digit.specs.Digit.{digit_of}
use Rattle.child_digit.specs.Theorems.{the_last_digit, below_the_root}
use Rattle.quadtree.specs.Lists.{TileNumber}
use Rattle.quadtree.specs.Numbers.{morton_of, morton_tile}
use Rattle.quadtree.specs.OneTile.{morton_tile_lem}
use Rattle.quadtree.specs.Tree.{morton_small}
use Rattle.families.specs.Laws.{four_short, four_low, four_inner, four_last}
use Rattle.families.proofs.starts_with_family.Goals as goal
use Rattle.families.proofs.starts_with_family.Goals.{After-of_morton}

-- the digit of the tile of a code
digit_is : (q : ℕ) → TileNumber morton_of q → 1 < q → digit_of (morton_tile q) ≡ 48 + q % 4
digit_is q n h =
    let t = n.tile in
    let e : morton_tile q ≡ t = rw n.number at (morton_tile_lem t n.on_map) in
    rw e (rw n.number at (the_last_digit t n.on_map (below_the_root t (rw n.number h))))

-- what the digit that was asked for tells
asked : (c : After-of_morton) → c.of_morton.result ≡ 48 + get_or c.args.codes.now 0 0 % 4
asked c = c.of_morton.ensures ∙ digit_is (get_or c.args.codes.now 0 0) c.requires.0 (omega (arith, c.requires.1))

pub returns-in_default : goal.returns-in_default
returns-in_default c = four_short c.args.from c.args.codes.now c.in_default.len_below

pub returns-then-first-from : goal.returns-then-first-from
returns-then-first-from c = four_low c.args.from c.args.codes.now (omega arith) c.if-first-from.true

pub returns-then-of_morton-ne48 : goal.returns-then-of_morton-ne48
returns-then-of_morton-ne48 c = four_inner c.args.from c.args.codes.now (omega arith) (omega arith)
    (λ e. c.if-of_morton-ne48.true (omega (arith, asked (goal.at.returns-then-of_morton-ne48 c).After-of_morton)))

pub overflow_add-result : goal.overflow_add-result
overflow_add-result c = let n = c.requires.0 in omega (arith, (morton_small n.tile n.on_map).1, n.number)

pub returns : goal.returns
returns c = four_last c.args.from c.args.codes.now (omega arith) (omega arith)
    (omega (arith, asked (goal.at.returns c).After-of_morton, c.if-of_morton-ne48.false))
