-- What a call gives that writes two lists of one count.
use Rattle.std.specs.Prelude.{◌≡◌, List, ℕ}
use Rattle.std.proofs.Common.{ap, ◌∙◌}
use Rattle.c_give.specs.Exported.{answered}
use Rattle.errors.specs.Answer.{Answer}
use Rattle.zoom_ranges.specs.Ranges.{LentTwo}

abbrev pub given_two : ℕ → ℕ → List ℕ → List ℕ → LentTwo
given_two number count lows highs = record { number = number; value = count; lows = lows; highs = highs }

-- a count that is handed on is the answer's, beside the memory that the call left
pub both_handed_on : {r n : ℕ} {lows highs : List ℕ} {a : Answer ℕ} {L : LentTwo} → answered r n ≡ a
    → given_two a.number a.value lows highs ≡ L → given_two r n lows highs ≡ L
both_handed_on {lows = lows} {highs = highs} e f = ap (λ (a : Answer ℕ). given_two a.number a.value lows highs) e ∙ f
