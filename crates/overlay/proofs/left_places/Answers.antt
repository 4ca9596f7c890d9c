-- `left_places`: the bound where there is room for it, else the count.
use mathlib.Core.Path.{ap}
use native.Mathlib.Omega.{arith}
use lib.ListN.{length, length-drop}
use Rattle.constants.specs.Limits.{max_zoom, max_entries}
use Rattle.overlay.specs.Left.{most_places, left_places}
use Rattle.overlay.proofs.left_places.Goals as goal

pub overflow_mul-most : goal.overflow_mul-most
unfolding max_entries
overflow_mul-most c = omega (arith, c.requires.1, ap length c.split_at.ensures.back, length-drop c.args.n c.args.locations.now)

pub overflow_mul-most-2 : goal.overflow_mul-most-2
unfolding max_entries
overflow_mul-most-2 c = omega (arith, c.requires.1, ap length c.split_at.ensures.back, length-drop c.args.n c.args.locations.now)

pub overflow_add-most : goal.overflow_add-most
unfolding max_entries
overflow_add-most c = omega (arith, c.requires.1, c.requires.0.within, ap length c.split_at.ensures.back, length-drop c.args.n c.args.locations.now)

pub returns-then-most-room : goal.returns-then-most-room
unfolding max_zoom
returns-then-most-room c = rw c.split_at.ensures.back (most_places c.requires.0 c.args.room (rw c.split_at.ensures.back at c.if-most-room.true))

pub returns : goal.returns
returns c = left_places c.requires.0 (rw (c.split_at.ensures.front, c.split_at.ensures.back) at c.left.ensures.value) c.args.room
