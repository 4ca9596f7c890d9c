-- `KeyReader::told` meets its contract: a reader of each kind tells what the bytes that leave it are promised.
use Rattle.constants.specs.Limits.{max_zoom}
use Rattle.key_reader.specs.Left.{passes_left}
use Rattle.key_reader.specs.Steps.{told_bad, told_many, told_tile}
use Rattle.key_reader.proofs.KeyReader.told.Goals as goal

pub returns-then-self-gt-MAX_ZOOM : goal.returns-then-self-gt-MAX_ZOOM
unfolding max_zoom
returns-then-self-gt-MAX_ZOOM c = rw (told_many c.args.self c.if-self-gt-MAX_ZOOM.true)

pub returns-then-self : goal.returns-then-self
unfolding max_zoom
returns-then-self c = rw (told_bad (passes_left c.args.self c.requires) c.if-self.true c.if-self-gt-MAX_ZOOM.false)

pub returns : goal.returns
unfolding max_zoom
returns c = rw (told_tile (passes_left c.args.self c.requires) c.if-self.false c.if-self-gt-MAX_ZOOM.false)
