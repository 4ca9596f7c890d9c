-- What the Rust computes, on values: the ranges that it makes, and its loop of `zoom_ranges` in its own order. Theorems says that each is
-- the papers' reading, for the sets that are held against the Rust.
use Rattle.std.specs.Prelude.{Bool, true, false, cond, List, [], ◌∷◌, ◌++◌, ℕ, zero, suc, eqb}
use Rattle.zoom_bits.specs.Masks.{masked}
use Rattle.zoom_ranges.specs.Ranges.{range_of}
use Rattle.zoom_ranges.specs.declared.ZoomRange.{ZoomRange}

-- ZoomRange::from_max, from_min and default, whose MAX_ZOOM is 30
abbrev pub from_max : ℕ → ZoomRange
from_max max = range_of 0 max

abbrev pub from_min : ℕ → ZoomRange
from_min min = range_of min 30

abbrev pub default : ZoomRange
default = range_of 0 30

-- the variables of the loop of zoom_ranges
pub record RunWalk : Type 0 where
  pub min : ℕ
  pub max : ℕ
  pub ranges : List ZoomRange

abbrev pub run_pushed : RunWalk → List ZoomRange
run_pushed w = w.ranges ++ (range_of w.min w.max ∷ [])

-- one turn: a bit opens a run or lengthens it, a gap ends it, and min = 0 says that none is open
abbrev pub turn : Bool → ℕ → RunWalk → RunWalk
turn true i w = record { min = cond (eqb w.min 0) i w.min; max = i; ranges = w.ranges }
turn false i w = cond (eqb w.min 0) w (record { min = 0; max = 0; ranges = run_pushed w })

-- the variables before the turn of i
unfoldable pub walk : ℕ → ℕ → RunWalk
walk zset zero = record { min = 0; max = 0; ranges = [] }
walk zset (suc i) = turn (masked zset i) i (walk zset i)

-- after the loop
abbrev pub after_loop : RunWalk → List ZoomRange
after_loop w = cond (eqb w.min 0) w.ranges (run_pushed w)

-- the loop runs while i < MAX_ZOOM
abbrev pub zoom_ranges : ℕ → List ZoomRange
zoom_ranges zset = after_loop (walk zset 30)
