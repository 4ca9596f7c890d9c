-- `tile` and `four` call each other: of the levels below a tile, `four` leaves one less to each child. Its loop walks the four children one after the other.
use Rattle.std.specs.Prelude.{◌≡◌}
use Prim.Native.Nat.{◌-◌, ◌*◌}
use Rattle.constants.specs.Limits.{max_zoom}
use Rattle.quadtree.specs.Numbers.{location_tile}
use Rattle.difference.specs.Steps.{AtChild}
use Rattle.difference.proofs.Walk.+four_tile.Given as goal

-- twice the levels below the tile, and one less for its children together
abbrev pub decreases-tile : goal.decreases-tile
decreases-tile l = 2 * (max_zoom - (location_tile l.k).z)

abbrev pub decreases-four : goal.decreases-four
decreases-four l = 2 * (max_zoom - (location_tile l.k).z) - 1

abbrev pub invariant-four-loop-i : goal.invariant-four-loop-i
invariant-four-loop-i l = let s = l.initial.self in
    AtChild s.gone.now l.k l.quarter s.count s.out.now l.self.out.now l.i l.self.next l.self.count
    × (l.self.gone ≡ s.gone) × (l.self.out.ghost_name ≡ s.out.ghost_name)
