-- One or two boxes of degrees with their count.
use Rattle.std.specs.Prelude.{ℕ}
use Rattle.bbox.specs.declared.BBox.{BBox}
use Rattle.bbox.specs.declared.BBoxes.{BBoxes}

abbrev pub boxes_at : BBox → BBox → ℕ → BBoxes
boxes_at first second count = record { first = first; second = second; count = count }
