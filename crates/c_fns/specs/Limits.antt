-- The limits of a zoom by their numbers.
use Rattle.std.specs.Prelude.{ℕ}
use Rattle.fns.specs.declared.Limits.{Limits}

abbrev pub limits_at : ℕ → ℕ → Limits
limits_at min max = record { min = min; max = max }
