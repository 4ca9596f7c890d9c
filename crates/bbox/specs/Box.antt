-- Boxes of degrees: what lies in one, which boxes meet, and the parts of one that crosses the antimeridian.
-- Numbers are compared as IEEE 754 has it (`lib.Ieee`): a comparison with NaN is false, and -0 equals 0.
use Rattle.std.specs.Prelude.{Bool, not, ◌&&◌, ◌||◌, cond, List, [], ◌∷◌, ℤ, pos, neg_ℤ, Float}
use Rattle.std.specs.Float.Ieee as Ieee
use Rattle.std.specs.Float.{binary64}
use Rattle.bbox.specs.declared.BBox.{BBox}
use Rattle.bbox.specs.declared.BBoxes.{BBoxes}
use Rattle.bbox.specs.declared.LngLat.{LngLat}

abbrev pub at_most : Float → Float → Bool
at_most x y = Ieee.le x y

abbrev pub below : Float → Float → Bool
below x y = Ieee.lt x y

abbrev pub box : Float → Float → Float → Float → BBox
box w s e n = record { west = w; south = s; east = e; north = n }

abbrev pub point : Float → Float → LngLat
point x y = record { lng = x; lat = y }

-- a box whose east edge is below its west edge goes over the antimeridian
abbrev pub crosses : BBox → Bool
crosses b = below b.east b.west

-- ---- a point in a box

-- its longitude is from west to east; in a box that crosses, from west on or up to east
abbrev pub lng_inside : BBox → Float → Bool
lng_inside b x = cond (crosses b) (at_most b.west x || at_most x b.east) (at_most b.west x && at_most x b.east)

-- its latitude is from south to north
abbrev pub lat_inside : BBox → Float → Bool
lat_inside b y = at_most b.south y && at_most y b.north

abbrev pub contains_point : BBox → LngLat → Bool
contains_point b p = lng_inside b p.lng && lat_inside b p.lat

-- ---- a box b in a box a: b's edges lie inside a's

abbrev pub lngs_inside : BBox → BBox → Bool
lngs_inside a b = at_most a.west b.west && at_most b.east a.east

abbrev pub lats_inside : BBox → BBox → Bool
lats_inside a b = at_most a.south b.south && at_most b.north a.north

-- where a alone crosses, b is in either part of it: from west on, or up to east
abbrev pub lngs_in_part : BBox → BBox → Bool
lngs_in_part a b = at_most a.west b.west || at_most b.east a.east

abbrev pub contains_box : BBox → BBox → Bool
contains_box a b = cond (crosses a && not (crosses b)) (lngs_in_part a b) (lngs_inside a b) && lats_inside a b

-- a in b, with no notice of the antimeridian
abbrev pub is_within_of : BBox → BBox → Bool
is_within_of a b = lngs_inside b a && lats_inside b a

-- ---- boxes that meet: neither begins past the other's end, with no notice of the antimeridian

abbrev pub meets : BBox → BBox → Bool
meets a b = (at_most a.west b.east && at_most b.west a.east) && (at_most a.south b.north && at_most b.south a.north)

-- ---- the parts of a box: itself, or one up to the antimeridian and one from it on

-- a whole number of degrees, as a double
abbrev pub degrees : ℤ → Float
degrees n = Ieee.of_int binary64 n

-- the map's first and last longitude
abbrev pub map_west : Float
map_west = degrees (neg_ℤ (pos 180))

abbrev pub map_east : Float
map_east = degrees (pos 180)

abbrev pub to_antimeridian : BBox → BBox
to_antimeridian b = box b.west b.south map_east b.north

abbrev pub from_antimeridian : BBox → BBox
from_antimeridian b = box map_west b.south b.east b.north

abbrev pub parts : BBox → List BBox
parts b = cond (crosses b) (to_antimeridian b ∷ from_antimeridian b ∷ []) (b ∷ [])

-- a box all of zeros
abbrev pub none : BBox
none = box (degrees (pos 0)) (degrees (pos 0)) (degrees (pos 0)) (degrees (pos 0))

-- the parts as they are handed back: with their count, and zeros where there is no box
abbrev pub held : List BBox → BBoxes
held [] = record { first = none; second = none; count = 0 }
held (a ∷ []) = record { first = a; second = none; count = 1 }
held (a ∷ b ∷ _) = record { first = a; second = b; count = 2 }
