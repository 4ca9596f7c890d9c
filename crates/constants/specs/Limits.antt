-- The limits of the papers, and what callers may know of them: the laws, not the numbers.
use Rattle.std.specs.Prelude.{◌≡◌, refl, ℕ, ◌≤◌}
use Rattle.std.proofs.Common.{arith}

-- the deepest zoom
unfoldable pub max_zoom : ℕ
max_zoom = 30

-- the room for the longest key
unfoldable pub max_digits : ℕ
max_digits = 30

-- the deepest zoom of the numbers of `to_id`
unfoldable pub max_id_zoom : ℕ
max_id_zoom = 29

-- the most entries of a list, of tiles or of zooms
unfoldable pub max_entries : ℕ
max_entries = 65536

-- the most boxes that are summed
unfoldable pub max_boxes : ℕ
max_boxes = 8

-- the most bytes of a line, without its newline
unfoldable pub max_line : ℕ
max_line = 4096

-- the most brackets that may be open in a line
unfoldable pub max_open : ℕ
max_open = 16

-- the places of each list of a form
unfoldable pub form_places : ℕ
form_places = 256

-- columns and rows of the deepest zoom fit 32 bits with one to spare, and a box's count of tiles fits 64
pub max_zoom_small : max_zoom ≤ 30
unfolding max_zoom
max_zoom_small = omega arith

-- the longest key has a digit for each zoom
pub a_digit_a_zoom : max_digits ≡ max_zoom
unfolding max_digits max_zoom
a_digit_a_zoom = refl

-- the zooms on which the Rust is compared, 0 to 29, are among this library's
pub at_least_29 : 29 ≤ max_zoom
unfolding max_zoom
at_least_29 = omega arith

-- the zooms that have numbers of `to_id` are among the map's, and are those on which the Rust is compared
pub id_zooms : max_id_zoom ≤ max_zoom
unfolding max_zoom max_id_zoom
id_zooms = omega arith

pub ids_to_29 : max_id_zoom ≡ 29
unfolding max_id_zoom
ids_to_29 = refl

-- a line has fewer keys than a list may have entries
pub lines_in_entries : max_line ≤ max_entries
unfolding max_line max_entries
lines_in_entries = omega arith
