-- `quadkey::digits` meets its contract: the tile is checked, then the memory, and then the digits are written.
use Rattle.errors.specs.Laws.{check_fine}
use Rattle.errors.specs.Memory.{written_short}
use Rattle.tile.specs.OnMap.{accepted_on_map}
use Rattle.quadkey.specs.Key.{key_from}
use Rattle.quadkey.specs.Spelling.{key_length_lem}
use Rattle.quadkey.proofs.digits.Goals as goal

pub returns-then-out-n : goal.returns-then-out-n
returns-then-out-n c = let e = check_fine c.in_ok-check.was c.check.ensures in
    written_short (key_from _ _ _ _) _ e (rw key_length_lem c.if-out-n.true)

pub fill-requires-clause-z_le_max_zoom : goal.fill-requires-clause-z_le_max_zoom
fill-requires-clause-z_le_max_zoom c = (accepted_on_map _ _ _ (check_fine c.in_ok-check.was c.check.ensures)).zoom
