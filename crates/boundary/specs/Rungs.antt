-- The rungs of the scratch: one of n takes two lists of n entries, or one of 2 * n. The last takes lists of any length that is not refused.
use Rattle.std.specs.Prelude.{◌≡◌, List, ℕ, ◌*◌, ◌≤◌, ◌<◌}
use Rattle.std.proofs.Common.{ap, arith}
use Rattle.work.specs.Steps.{InScratch}
use Rattle.constants.specs.Limits.{max_entries}
use Rattle.boundary.specs.declared.Rung.{Rung}
use Rattle.boundary.specs.declared.Rung.TheVariants.{Short, Medium, Long, Longer, Longest}

abbrev pub short_rung : ℕ
short_rung = 128

abbrev pub medium_rung : ℕ
medium_rung = 1024

abbrev pub long_rung : ℕ
long_rung = 4096

abbrev pub longer_rung : ℕ
longer_rung = 32768

-- how many rungs are above one
abbrev pub rungs_above : Rung → ℕ
rungs_above Short = 4
rungs_above Medium = 3
rungs_above Long = 2
rungs_above Longer = 1
rungs_above Longest = 0

-- the next rung is nearer to the top
pub nearer : {rung known : Rung} {t : ℕ} (next : Rung) → rungs_above rung ≡ t → rung ≡ known → rungs_above next < rungs_above known
    → rungs_above next < t
nearer next e f h = omega (arith, e, ap rungs_above f, h)

-- lists that fit a rung fit a higher one, and any that are not refused fit the last
pub fits_higher : {a b : List ℕ} {need : ℕ} (n : ℕ) → InScratch a b (2 * need) → need ≤ n → InScratch a b (2 * n)
fits_higher n f h = record { first_few = f.first_few; second_few = f.second_few; room = omega (arith, f.room, h) }

pub fits_last : {a b : List ℕ} {need : ℕ} → InScratch a b need → InScratch a b (2 * max_entries)
fits_last f = record { first_few = f.first_few; second_few = f.second_few; room = omega (arith, f.first_few, f.second_few) }
