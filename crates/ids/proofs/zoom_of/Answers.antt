-- `ids::zoom_of` meets its contract: half of three times the number and one has two binary digits for each zoom.
use mathlib.Core.Path.{◌≡◌}
use Prim.Native.Nat.{◌+◌, ◌-◌, ◌*◌, ◌/◌, ◌<◌}
use native.Mathlib.Omega.{arith}
use lib.Count.{count_leading_zeros}
use Rattle.constants.specs.Limits.{max_zoom_small}
use Rattle.ids.specs.Levels.{thrice_fits, zoom_by_zeros, limit_holds}
use Rattle.ids.specs.Rmid.{zoom_of}
use Rattle.ids.proofs.zoom_of.Goals as goal
use Rattle.ids.proofs.zoom_of.Goals.{Start}

zeros : (c : Start)
    → (0 < count_leading_zeros 64 ((3 * c.args.i + 1) / 2)) × ((count_leading_zeros 64 ((3 * c.args.i + 1) / 2) - 1) / 2 + zoom_of c.args.i ≡ 31)
zeros c =
    let i = c.args.i in
    let h = limit_holds i c.requires in
    zoom_by_zeros i (zoom_of i) (omega (arith, h.1, max_zoom_small)) h.0

pub overflow_mul-result : goal.overflow_mul-result
overflow_mul-result c = omega (arith, thrice_fits c.args.i c.requires)

pub overflow_add-result : goal.overflow_add-result
overflow_add-result c = omega (arith, thrice_fits c.args.i c.requires)

pub overflow_sub-result : goal.overflow_sub-result
overflow_sub-result c = (zeros (goal.at.overflow_sub-result c).Start).0

pub overflow_sub-result-2 : goal.overflow_sub-result-2
overflow_sub-result-2 c = omega (arith, (zeros (goal.at.overflow_sub-result-2 c).Start).1)

pub returns : goal.returns
returns c = omega (arith, (zeros (goal.at.returns c).Start).1)
