-- The area of a line is that of the one form that it spells, or the refusal that comes before.
use Rattle.std.specs.Prelude.{◌≡◌, refl, Bool, ltb, length}
use Rattle.std.proofs.Math.Path.{ap}
use Rattle.std.proofs.Common.{◌∙◌, arith}
use Rattle.std.proofs.Math.Bool.{true, false, not}
use mathlib.Core.List.{List, []}
use Prim.Native.Nat.{ℕ, zero, suc}
use Rattle.constants.specs.Limits.{max_line}
use Rattle.errors.specs.Answer.{Answer, answer, Lent, ◌when◌, ◌else◌}
use Rattle.errors.specs.Gives.{answer_of}
use Rattle.form.specs.Form.{Form, tiles, pair, Reads, too_deep}
use Rattle.form.specs.Reading.{reading, is_reading, whole_refusal, line_refusal}
use Rattle.form.proofs.ReadingLemmas.{one_reading}
use Rattle.form_area.specs.Area.{keys_refusal, run_entries, places, operated, area_given, form_area, read_area, line_area}
use Rattle.merge.specs.Merge.{simplify_of}

-- a refused answer has no list
given_again : (n : ℕ) (r : Lent ℕ) → answer (area_given n r).number [] (area_given n r).value ≡ area_given n r
given_again n r = go (n else r.number) (answer_of r)
  where
    go : (n : ℕ) (items : List ℕ) → answer (answer n [] items).number [] (answer n [] items).value ≡ answer n [] items
    go zero items = refl
    go (suc n) items = refl

area_again : (f : Form) → answer (form_area f).number [] (form_area f).value ≡ form_area f
unfolding form_area
area_again (tiles runs) = given_again (keys_refusal runs) (simplify_of (run_entries runs) 0 places)
area_again (pair verb f g) =
    given_again ((form_area f).number else (form_area g).number) (operated verb (form_area f).value (form_area g).value places)

read_area_lem : (line : List ℕ) (f : Form) → Reads line f → (d : Dec ((g : Form) × Reads line g)) → read_area d ≡ form_area f
read_area_lem line f r (yes s) = ap form_area (one_reading line s.0 f s.1 r)
read_area_lem line f r (no n) = absurd (n (f, r))

-- 13 and 14 apply to a line just where they do before any key is read, and 15 where no form is read
module _ (line : List ℕ) where
  pub line_area_lem : (f : Form) → Reads line f → line_refusal line ≡ 0 → line_area line ≡ form_area f
  unfolding line_area line_refusal whole_refusal
  line_area_lem f r e = pick (ltb max_line (length line)) (too_deep 0 line) e
    where
      pick : (a b : Bool) → 13 when a else 14 when b else 15 when not (is_reading (reading line)) ≡ 0
          → answer (13 when a else 14 when b else (read_area (reading line)).number) [] (read_area (reading line)).value ≡ form_area f
      pick true b e = absurd (omega (arith, e))
      pick false true e = absurd (omega (arith, e))
      pick false false e = let s = read_area_lem line f r (reading line) in
          ap (λ (a : Answer (List ℕ)). answer a.number [] a.value) s ∙ area_again f

  pub line_refused : (n : ℕ) → line_refusal line ≡ suc n → (line_area line).number ≡ suc n
  unfolding line_area line_refusal whole_refusal is_reading
  line_refused n e = pick (ltb max_line (length line)) (too_deep 0 line) (reading line) e
    where
      pick : (a b : Bool) (d : Dec ((f : Form) × Reads line f)) → 13 when a else 14 when b else 15 when not (is_reading d) ≡ suc n
          → (answer (13 when a else 14 when b else (read_area d).number) [] (read_area d).value).number ≡ suc n
      pick true b d e = e
      pick false true d e = e
      pick false false (yes r) e = absurd (omega (arith, e))
      pick false false (no m) e = e
