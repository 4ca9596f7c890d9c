-- `quadkey::quadkey_flipy` meets its contract: the key is checked, then the memory, and then the flipped digits are written.
use Rattle.errors.specs.Laws.{check_fine}
use Rattle.quadkey.specs.Refusals.{accepted_key}
use Rattle.quadkey.proofs.quadkey_flipy.Goals as goal

pub flip_all-requires-clause-key_value : goal.flip_all-requires-clause-key_value
flip_all-requires-clause-key_value c = (accepted_key _ (check_fine c.in_ok-check.was c.check.ensures)).1
