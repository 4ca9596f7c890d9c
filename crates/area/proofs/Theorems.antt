-- How many places a difference can need: one for each entry of the first list, and three of each zoom for each entry of the second.
use Rattle.std.specs.Prelude.{◌≡◌, ◌||◌, List, ℕ, ◌+◌, ◌*◌, ◌≤◌, ltb, length}
use Rattle.area.specs.Area.{pair_refusal, difference_entries}
use Rattle.area.proofs.Passed.{locations_length, runs_both, left_entries_lem}
use Rattle.constants.specs.Limits.{max_entries, max_zoom}
use Rattle.errors.specs.Answer.{◌when◌}
use Rattle.errors.specs.Laws.{else_zero}
use Rattle.overlay.specs.Left.{left_bound}
use Rattle.work.specs.Work.{locations_of, pair_tests}

pub difference_fits : (a b : List ℕ) → pair_refusal a b ≡ 0 → length (difference_entries a b) ≤ length a + 3 * (max_zoom * length b)
unfolding pair_refusal
difference_fits a b accepted =
    let p = (else_zero (6 when (ltb max_entries (length a) || ltb max_entries (length b))) (pair_tests a b) accepted).1 in
    let r = runs_both a b p in
    rw (locations_length a, locations_length b, left_entries_lem a b p) at (left_bound (locations_of a) (locations_of b) r.0 r.1)
