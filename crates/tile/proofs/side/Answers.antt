-- `tile::side` meets its contract: on the map the power fits 32 bits.
use Rattle.errors.specs.Laws.{check_fine}
use Rattle.tile.specs.OnMap.{accepted_on_map, side_is}
use Rattle.tile.proofs.side.Goals as goal

pub returns : goal.returns
returns c = let e = check_fine c.in_ok-check.was c.check.ensures in
    rw (e, c.pow2.ensures, side_is (accepted_on_map _ _ _ e).zoom)
