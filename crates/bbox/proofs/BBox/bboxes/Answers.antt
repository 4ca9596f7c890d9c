-- `bbox::BBox::bboxes` meets its contract: each way's boxes are the definition's, the literals as whole degrees.
use lib.Ieee.{of_bits, of_int, neg}
use Rattle.bbox.proofs.BBox.bboxes.Goals as goal

pub returns-then-crosses_antimeridian : goal.returns-then-crosses_antimeridian
unfolding of_bits of_int neg
returns-then-crosses_antimeridian c = rw (c.new.ensures, c.new-then-crosses_antimeridian.ensures, ← c.crosses_antimeridian.ensures, c.if-crosses_antimeridian.true)

pub returns-else-crosses_antimeridian : goal.returns-else-crosses_antimeridian
unfolding of_bits of_int
returns-else-crosses_antimeridian c = rw (c.new-else-crosses_antimeridian.ensures, ← c.crosses_antimeridian.ensures, c.if-crosses_antimeridian.false)
