-- What the call for a line's area says, and so what is printed.
use Rattle.std.specs.Prelude.{◌≡◌, refl, List, ℕ, zero, suc, ◌≤◌, length, take, drop, Result, Ok, Err}
use Rattle.std.proofs.Common.{sym, ap, arith, take_at}
use Rattle.constants.specs.Limits.{form_places}
use Rattle.errors.specs.Answer.{Lent, number_of, written}
use Rattle.errors.specs.Cases.{left}
use Rattle.errors.specs.Laws.{positive}
use Rattle.errors.specs.declared.Refusal.{Refusal}
use Rattle.form_area.specs.Area.{line_area, area_written}
use Rattle.form_line.specs.Few.{Fits, line_fits}
use Rattle.form_line.specs.Line.{list_text, refusal_text, printed}
use Rattle.form_line.specs.Stores.{written_counted, written_not}

-- a list that was asked for in memory that has room for it
module _ (r : Result ℕ Refusal) (items memory after : List ℕ) (h : length items ≤ length memory) where
  given_list : {k : ℕ} (n : ℕ) → left r after ≡ written n items memory → r ≡ Ok k
      → (n ≡ 0) × (k ≡ length items) × (take k after ≡ items)
  given_list {k} zero e p =
      let w = written_counted items memory after refl (rw p at e) in
      (refl, w.0, rw w.1 (take_at items (drop (length items) memory) k (sym w.0)))
  given_list (suc n) e p = let z : 0 ≡ suc n = ap (λ (l : Lent ℕ). l.number) (rw p at e) in absurd (omega arith)

  given_refusal : {why : Refusal} (n : ℕ) → left r after ≡ written n items memory → r ≡ Err why → number_of why ≡ n
  given_refusal {why} zero e p = absurd (omega (arith, written_not items memory after refl why (rw p at e), h))
  given_refusal (suc n) e p = ap (λ (l : Lent ℕ). l.number) (rw p at e)

-- the area of a line, in memory of as many places as a form's list has
module _ (r : Result ℕ Refusal) (line memory after : List ℕ) (room : length memory ≡ form_places) (e : left r after ≡ area_written line memory) where
  fits : length (line_area line).value ≤ length memory
  fits = omega (arith, (line_fits line).few, room)

  pub area_counted : {k : ℕ} → r ≡ Ok k
      → ((line_area line).number ≡ 0) × (k ≡ length (line_area line).value) × (take k after ≡ (line_area line).value)
  area_counted p = given_list r (line_area line).value memory after fits (line_area line).number e p

  pub area_within : {k : ℕ} → length after ≡ length memory → r ≡ Ok k → k ≤ length after
  area_within {k} same p = omega (arith, (area_counted p).1, fits, same)

  pub area_fits : {k : ℕ} → r ≡ Ok k → Fits (take k after)
  area_fits p = rw (area_counted p).2 (line_fits line)

  pub list_printed : {k : ℕ} → r ≡ Ok k → list_text (take k after) ≡ printed (line_area line)
  list_printed p = let a = area_counted p in rw (a.2, a.0)

  pub refusal_printed : {why : Refusal} → r ≡ Err why → refusal_text (number_of why) ≡ printed (line_area line)
  refusal_printed {why} p =
      let s = positive why in
      rw (← given_refusal r (line_area line).value memory after fits (line_area line).number e p, s.1)
