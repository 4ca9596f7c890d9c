-- `key_reader::quadkey2xyz` meets its contract: the reader that the key leaves tells of it.
use Rattle.std.proofs.Common.{◌≡◌, ◌∙◌, []}
use Rattle.key_reader.specs.Left.{goes_on, left_after, left_passes}
use Rattle.key_reader.specs.Reader.{reader_after}
use Rattle.key_reader.specs.Steps.{told_again}
use Rattle.key_reader.proofs.quadkey2xyz.Goals as goal
use Rattle.key_reader.proofs.quadkey2xyz.Goals.{After-after}

pub after-requires : goal.after-requires
after-requires c = rw c.start.ensures (left_passes (left_after []))

left : (c : After-after) → c.after.result ≡ reader_after c.args.key.now
left c = c.after.ensures ∙ rw c.start.ensures (goes_on [] c.args.key.now)

pub told-requires : goal.told-requires
told-requires c = rw (left (goal.at.told-requires c).After-after) (left_passes (left_after _))

pub returns : goal.returns
returns c = c.told.ensures ∙ rw (left (goal.at.returns c).After-after) (told_again c.args.key.now)
