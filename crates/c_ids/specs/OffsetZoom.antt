-- A place among the tiles of a zoom by its numbers.
use Rattle.std.specs.Prelude.{ℕ}
use Rattle.ids.specs.declared.OffsetZoom.{OffsetZoom}

abbrev pub offset_zoom_at : ℕ → ℕ → OffsetZoom
offset_zoom_at offset zoom = record { offset = offset; zoom = zoom }
