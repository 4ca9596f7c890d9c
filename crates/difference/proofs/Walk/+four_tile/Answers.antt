-- `tile` and `four` call each other: of the levels below a tile, `four` leaves one less to each child. Its loop walks the four children one after the other.
use mathlib.Core.Path.{refl, ◌∙◌}
use mathlib.Core.Bool.{false}
use Prim.Native.Nat.{ℕ, ◌+◌, ◌<◌}
use native.Mathlib.Omega.{arith}
use Rattle.quadtree.specs.Locations.{Room, room}
use Rattle.difference.specs.Steps.{passed_on, kept_clear, dropped, handing, handed}
use Rattle.difference.specs.Steps.{child_at, around, before_children, steps, fewer_levels, at_child, child_walked, children_walked}
use Rattle.difference.specs.Walk.{AtTile, Clear}
use Rattle.difference.proofs.Walk.+four_tile.Goals as goal
use Rattle.difference.proofs.Walk.+four_tile.Goals.{four-then-clear, four-else-clear, four-In-loop-i, tile-After-pass, tile-Else-clear, tile-Start}

turn : (t : ℕ) (c : four-In-loop-i t) → c.loop-i.i < 4
turn t c = omega (arith, c.loop-i-test.true)

-- where the walk stands when a child's turn comes
here : (t : ℕ) (c : four-In-loop-i t)
    → let L = c.loop-i in
    let a = c.args in
    AtTile a.self.now.gone.now (child_at a.k a.quarter L.i) a.quarter L.self.next L.self.count
here t c = let L = c.loop-i in at_child c.requires L.i (turn t c) L.invariant.0

child_room : (t : ℕ) (c : four-In-loop-i t) → let a = c.args in Room (child_at a.k a.quarter c.loop-i.i) a.quarter
child_room t c = room (here t c).location (here t c).half

pub four-loop-i-init : goal.four-loop-i-init
four-loop-i-init t c = (before_children c.requires c.args.self.now.out.now, refl, refl)

pub four-overflow_mul-child : goal.four-overflow_mul-child
four-overflow_mul-child t c = omega (arith, around c.requires)

pub four-overflow_sub-child : goal.four-overflow_sub-child
four-overflow_sub-child t c = omega (arith, around c.requires)

pub four-overflow_mul-child-in-loop-i-2 : goal.four-overflow_mul-child-in-loop-i-2
four-overflow_mul-child-in-loop-i-2 t c = let a = c.requires in omega (arith, around a, steps a c.loop-i.i (turn t (goal.at.four-overflow_mul-child-in-loop-i-2 t c).In-loop-i))

pub four-overflow_add-child : goal.four-overflow_add-child
four-overflow_add-child t c = omega (arith, (child_room t (goal.at.four-overflow_add-child t c).In-loop-i).fits)

pub four-overflow_add-child-in-loop-i : goal.four-overflow_add-child-in-loop-i
four-overflow_add-child-in-loop-i t c = omega (arith, (child_room t (goal.at.four-overflow_add-child-in-loop-i t c).In-loop-i).fits)

pub four-keep-requires : goal.four-keep-requires
four-keep-requires t c = let s = (goal.at.four-keep-requires t c).In-loop-i in omega (arith, (here t s).come.few, (child_room t s).fits)

pub four-tile-requires : goal.four-tile-requires
four-tile-requires t c = let s = (goal.at.four-tile-requires t c).In-loop-i in
    (omega (arith, fewer_levels c.requires c.loop-i.i (turn t s)), rw c.loop-i.invariant.1 (here t s))

pub four-loop-i-preserved : goal.four-loop-i-preserved
four-loop-i-preserved t c =
    let s = (goal.at.four-loop-i-preserved t c).In-loop-i in
    let L = c.loop-i in
    let i = L.invariant in
    elim c.if-clear.branch [
      | four-then-clear w ↦
          let e = w.keep.ensures in
          rw w.self-is (
            child_walked c.requires L.i (turn t s) i.0
                (kept_clear (here t s) (rw i.1 at (rw w.if-clear.true at c.clear.ensures)) _ _ _ _ e.same.1 e.kept.0 e.kept.1),
            e.same.0 ∙ i.1,
            e.same_reference ∙ i.2,
          )
      | four-else-clear w ↦
          let e = w.tile.ensures in
          rw w.self-is
          (child_walked c.requires L.i (turn t s) i.0 (rw i.1 at e.walked), e.same_gone ∙ i.1, e.same_reference ∙ i.2)
    ]

pub four-returns-clause-walked : goal.four-returns-clause-walked
four-returns-clause-walked t c = children_walked c.requires c.loop-i.invariant.0 (omega (arith, c.loop-i-test.false))

tile_room : (t : ℕ) (c : tile-Start t) → Room c.args.k c.args.low
tile_room t c = room c.requires.location c.requires.half

-- the tile where the walk stands when others are passed
stands : (t : ℕ) (c : tile-After-pass t)
    → let a = c.args in AtTile a.self.now.gone.now a.k a.low c.pass.new.self.next a.self.now.count
stands t c = passed_on c.requires c.pass.ensures.behind.0

-- the next of those taken away reaches the tile
reached : (t : ℕ) (c : tile-Else-clear t)
    → let a = c.args in Clear false a.self.now.gone.now c.pass.new.self.next (a.k + a.low)
reached t c = rw c.pass.ensures.same.0 at (rw c.if-clear.false at c.clear.ensures)

pub tile-overflow_sub-k : goal.tile-overflow_sub-k
tile-overflow_sub-k t c = (tile_room t (goal.at.tile-overflow_sub-k t c).Start).below

pub tile-overflow_add-k : goal.tile-overflow_add-k
tile-overflow_add-k t c = omega (arith, (tile_room t (goal.at.tile-overflow_add-k t c).Start).fits)

pub tile-keep-requires : goal.tile-keep-requires
tile-keep-requires t c = rw c.pass.ensures.same.2 (omega (arith, c.requires.come.few, (tile_room t (goal.at.tile-keep-requires t c).Start).fits))

pub tile-returns-then-clear-clause-walked : goal.tile-returns-then-clear-clause-walked
tile-returns-then-clear-clause-walked t c =
    let p = c.pass.ensures.same in
    let e = c.keep.ensures in
    kept_clear (stands t (goal.at.tile-returns-then-clear-clause-walked t c).After-pass)
    (rw p.0 at (rw c.if-clear.true at c.clear.ensures)) _ _ _ _ e.same.1 (rw p.2 at e.kept.0) (rw (p.1, p.2) at e.kept.1)

pub tile-four-requires : goal.tile-four-requires
tile-four-requires t c =
    let s = goal.at.tile-four-requires t c in
    let p = c.pass.ensures in
    let r = reached t s.Else-clear in
    let a = handing (stands t s.After-pass) r (rw p.same.0 at c.low_bit.ensures) (p.behind.1 r.0) c.if-low_bit-low.true in
    (omega (arith, a.higher), rw (p.same.0, p.same.2) a)

pub tile-returns-then-low_bit-low-clause-walked : goal.tile-returns-then-low_bit-low-clause-walked
tile-returns-then-low_bit-low-clause-walked t c =
    let s = goal.at.tile-returns-then-low_bit-low-clause-walked t c in
    let p = c.pass.ensures in
    let r = reached t s.Else-clear in
    handed (stands t s.After-pass) r (rw p.same.0 at c.low_bit.ensures) (p.behind.1 r.0) c.if-low_bit-low.true
    (rw (p.same.0, p.same.1, p.same.2) at c.four.ensures.walked)

pub tile-returns-else-low_bit-low-clause-walked : goal.tile-returns-else-low_bit-low-clause-walked
tile-returns-else-low_bit-low-clause-walked t c =
    let s = goal.at.tile-returns-else-low_bit-low-clause-walked t c in
    let p = c.pass.ensures in
    let r = reached t s.Else-clear in
    rw (p.same.1, p.same.2)
    (dropped (stands t s.After-pass) r (rw p.same.0 at c.low_bit.ensures) (p.behind.1 r.0) (omega (arith, c.if-low_bit-low.false)) _)
