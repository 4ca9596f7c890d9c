-- `fns::bbox2zoom` meets its contract: the zoom is the first one from z on.
use mathlib.Core.Path.{◌≡◌}
use mathlib.Core.Bool.{Bool, ◌||◌}
use Prim.Native.Nat.{ℕ, ◌-◌}
use Rattle.fns.specs.Fns.{differ, first_zoom, bbox2zoom_of}
use Rattle.fns.proofs.bbox2zoom.Given as goal

-- whether west and east, or south and north, differ in the bit of a zoom
abbrev pub parts : ℕ → ℕ → ℕ → ℕ → ℕ → Bool
parts west south east north z = differ west east (31 - z) || differ south north (31 - z)

abbrev pub invariant-loop-z : goal.invariant-loop-z
invariant-loop-z l = bbox2zoom_of l.west l.south l.east l.north ≡ first_zoom (parts l.west l.south l.east l.north) l.z (28 - l.z)
