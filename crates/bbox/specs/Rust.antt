-- What the Rust's text does, test by test in its order; `if t { return true; } false` is t. proofs/Theorems.antt has that these are the
-- definitions. `new`, `is_antimeridian`, `crosses_antimeridian` and `bboxes` are not here: `box`, `crosses` and `parts` are their
-- text.
use Rattle.std.specs.Prelude.{Bool, false, ◌&&◌, ◌||◌, cond}
use Rattle.bbox.specs.declared.BBox.{BBox}
use Rattle.bbox.specs.declared.LngLat.{LngLat}
use Rattle.bbox.specs.Box.{at_most, crosses}

abbrev pub contains_lnglat : BBox → LngLat → Bool
contains_lnglat self p =
    cond (crosses self)
    ((at_most self.west p.lng || at_most p.lng self.east) && at_most self.south p.lat && at_most p.lat self.north)
    (at_most self.west p.lng && at_most p.lng self.east && at_most self.south p.lat && at_most p.lat self.north)

abbrev pub contains_bbox : BBox → BBox → Bool
contains_bbox self other =
    cond (crosses self)
    (cond (crosses other)
    (cond (at_most self.west other.west && at_most other.east self.east)
    (at_most self.south other.south && at_most other.north self.north) false)
    (cond (at_most self.west other.west || at_most other.east self.east)
    (at_most self.south other.south && at_most other.north self.north) false))
    (at_most other.north self.north && at_most self.south other.south && at_most other.east self.east
    && at_most self.west other.west)

abbrev pub is_within : BBox → BBox → Bool
is_within self other =
    at_most self.north other.north && at_most other.south self.south && at_most self.east other.east
    && at_most other.west self.west

abbrev pub intersects : BBox → BBox → Bool
intersects self other =
    at_most other.south self.north && at_most self.south other.north && at_most other.west self.east
    && at_most self.west other.east
