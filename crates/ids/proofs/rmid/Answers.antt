-- `ids::rmid` meets its contract: of a tile of the map the number fits 64 bits.
use mathlib.Core.Path.{◌≡◌}
use Prim.Native.Nat.{◌*◌, ◌%◌, ◌^◌}
use native.Mathlib.Nat.{mod-eq_of_lt}
use native.Mathlib.Omega.{arith}
use Rattle.constants.specs.Limits.{max_zoom_small}
use Rattle.ids.specs.Levels.{rmid_fits}
use Rattle.ids.proofs.rmid.Goals as goal
use Rattle.ids.proofs.rmid.Goals.{After-level_start}

pub level_start-requires : goal.level_start-requires
level_start-requires c = omega (arith, c.requires.zoom, max_zoom_small)

pub overflow_add-result : goal.overflow_add-result
overflow_add-result c = rw c.level_start.ensures (omega (arith, rmid_fits _ _ _ c.requires))

pub overflow_shl-result : goal.overflow_shl-result
overflow_shl-result c = omega (arith, c.requires.zoom, max_zoom_small)

rows : (c : After-level_start) → c.args.y * 2 ^ c.args.z % 2 ^ 64 ≡ c.args.y * 2 ^ c.args.z
rows c = mod-eq_of_lt (omega (arith, rmid_fits _ _ _ c.requires))

pub overflow_add-result-2 : goal.overflow_add-result-2
overflow_add-result-2 c = rw (rows (goal.at.overflow_add-result-2 c).After-level_start, c.level_start.ensures) (omega (arith, rmid_fits _ _ _ c.requires))

pub returns : goal.returns
returns c = rw (rows (goal.at.returns c).After-level_start, c.level_start.ensures)
