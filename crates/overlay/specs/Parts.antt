-- The locations of two sets in one list, as each part is lent: the first n of them, and from there to the end.
use Rattle.std.specs.Prelude.{◌≡◌, List, ℕ, ◌+◌, length, take, drop}
use Rattle.std.proofs.Common.{sym, arith, length-drop, length-take-le}
use Rattle.overlay.specs.Overlay.{TwoSets}

module _ {locations : List ℕ} {n : ℕ} (p : TwoSets locations n) where
  pub first_length : n ≡ length (take n locations)
  first_length = sym (length-take-le n locations p.within)

  pub both_lengths : length (take n locations) + length (drop n locations) ≡ length locations
  both_lengths = omega (arith, p.within, first_length, length-drop n locations)
