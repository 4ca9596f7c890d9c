-- The version as one number: 10,000 for each major number, 100 for each minor one, 1 for each patch.
use Rattle.std.specs.Prelude.{ℕ, ◌+◌, ◌*◌}

abbrev pub version_number : ℕ
version_number = 10000 * 0 + 100 * 6 + 0
