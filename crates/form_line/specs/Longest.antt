-- No answer is longer than what callers have to lend for any line.
use Rattle.std.specs.Prelude.{◌≡◌, refl, Bool, true, false, not, ◌&&◌, ◌||◌, List, [], ◌∷◌, ℕ, zero, suc, ◌+◌, ◌*◌, ◌≤◌, ltb, length}
use Rattle.std.proofs.Common.{arith}
use Rattle.area.specs.Area.{pair_refusal, pair_places_refusal, union_entries, common_entries, difference_entries}
use Rattle.bits.specs.Tests.{all_of}
use Rattle.constants.specs.Limits.{max_zoom, max_entries, max_line, form_places}
use Rattle.errors.specs.Answer.{answer, Lent, short, ◌when◌, ◌else◌}
use Rattle.errors.specs.Gives.{answer_of, Gives}
use Rattle.form.specs.Form.{Form, tiles, pair, Reads, too_deep}
use Rattle.form.specs.Reading.{reading}
use Rattle.form.specs.declared.Verb.{Verb}
use Rattle.form.specs.declared.Verb.TheVariants.{Plus, Both, Minus}
use Rattle.form_area.specs.Area.{key_of_run, keys_refusal, run_entries, places, operated, area_given, form_area, read_area, line_area}
use Rattle.form_area.specs.Calls.{operated_gives}
use Rattle.form_line.specs.Decimal.{decimal_short}
use Rattle.form_line.specs.Few.{Fits, line_fits}
use Rattle.form_line.specs.Line.{answer_text, printed}
use Rattle.form_line.specs.Text.{refusal_length, list_length, keys_short, few_digits}
use Rattle.ids.specs.Entry.{is_entry}
use Rattle.merge.specs.Gives.{simplify_gives}
use Rattle.quadkey.specs.Key.{all_digits_of, key_refusal}
use Rattle.settled.specs.Settled.{is_settled}
use Rattle.tile_list.specs.List.{listed, list_refusal, places_refusal, entries_in_order}
use Rattle.tile_set.specs.Set.{simplified}

-- a refusal's number, or 0
abbrev IsNumber : ℕ → Type 0
IsNumber n = n ≤ 15

when_number : (n : ℕ) (b : Bool) → IsNumber n → IsNumber (n when b)
when_number n true h = h
when_number n false h = omega arith

else_number : (n m : ℕ) → IsNumber n → IsNumber m → IsNumber (n else m)
else_number zero m h k = k
else_number (suc n) m h k = h

answer_number : {A : Type 0} (n : ℕ) (none v : A) → (answer n none v).number ≡ n
answer_number zero none v = refl
answer_number (suc n) none v = refl

given_number : (refusal n : ℕ) (r : Lent ℕ) (items : List ℕ) → Gives r n items → IsNumber refusal → IsNumber n
    → IsNumber (area_given refusal r).number
given_number refusal n r items g h k =
    omega (arith, answer_number (refusal else r.number) [] (answer_of r), else_number refusal r.number h (omega (arith, g.number, k)))

key_number : (key : List ℕ) → IsNumber (key_refusal key)
unfolding key_refusal
key_number key =
    else_number (4 when ltb max_zoom (length key)) (5 when not (all_digits_of key)) (when_number 4 (ltb max_zoom (length key)) (omega arith))
    (when_number 5 (not (all_digits_of key)) (omega arith))

keys_number : (runs : List (List ℕ)) → IsNumber (keys_refusal runs)
unfolding keys_refusal
keys_number [] = omega arith
keys_number (run ∷ runs) = else_number (key_refusal (key_of_run run)) (keys_refusal runs) (key_number (key_of_run run)) (keys_number runs)

room_number : (n : ℕ) → IsNumber (12 when ltb (length places) n)
room_number n = when_number 12 (ltb (length places) n) (omega arith)

places_number : (list : List ℕ) → IsNumber (places_refusal list places)
unfolding places_refusal list_refusal
places_number list =
    let six = 6 when ltb max_entries (length list) in
    let seven = 7 when not (all_of is_entry list) in
    let a : IsNumber six = when_number 6 (ltb max_entries (length list)) (omega arith) in
    let b : IsNumber seven = when_number 7 (not (all_of is_entry list)) (omega arith) in
    else_number (six else seven) (12 when ltb (length places) (length list)) (else_number six seven a b) (room_number (length list))

pair_number : (a b : List ℕ) → IsNumber (pair_refusal a b)
unfolding pair_refusal
pair_number a b =
    let six = ltb max_entries (length a) || ltb max_entries (length b) in
    let seven = not (all_of is_entry a && all_of is_entry b) in
    let eleven = not (is_settled a && is_settled b) in
    else_number (6 when six) (7 when seven else 11 when eleven) (when_number 6 six (omega arith))
    (else_number (7 when seven) (11 when eleven) (when_number 7 seven (omega arith)) (when_number 11 eleven (omega arith)))

pair_places_number : (a b : List ℕ) → IsNumber (pair_places_refusal a b places)
unfolding pair_places_refusal
pair_places_number a b =
    else_number (pair_refusal a b) (12 when ltb (length places) (length a + length b)) (pair_number a b)
    (room_number (length a + length b))

operated_number : (refusal : ℕ) → IsNumber refusal → (verb : Verb) (a b : List ℕ)
    → IsNumber (area_given refusal (operated verb a b places)).number
operated_number refusal h Plus a b =
    given_number refusal (pair_places_refusal a b places) _ (union_entries a b) (operated_gives Plus a b places) h (pair_places_number a b)
operated_number refusal h Both a b =
    given_number refusal (pair_places_refusal a b places) _ (common_entries a b) (operated_gives Both a b places) h (pair_places_number a b)
operated_number refusal h Minus a b =
    let n = pair_refusal a b else short (difference_entries a b) places in
    given_number refusal n _ (difference_entries a b) (operated_gives Minus a b places) h
    (else_number (pair_refusal a b) (short (difference_entries a b) places) (pair_number a b) (room_number (length (difference_entries a b))))

form_number : (f : Form) → IsNumber (form_area f).number
unfolding form_area
form_number (tiles runs) =
    let list = run_entries runs in
    given_number (keys_refusal runs) (places_refusal list places) _ (entries_in_order (simplified max_zoom 0 (listed list)))
    (simplify_gives 0 list places) (keys_number runs) (places_number list)
form_number (pair verb f g) =
    operated_number ((form_area f).number else (form_area g).number)
    (else_number (form_area f).number (form_area g).number (form_number f) (form_number g))
    verb (form_area f).value (form_area g).value

line_number : (line : List ℕ) → IsNumber (line_area line).number
unfolding line_area
line_number line =
    let thirteen = 13 when ltb max_line (length line) in
    let fourteen = 14 when too_deep 0 line in
    let n = (read_area (reading line)).number in
    let k = else_number thirteen (fourteen else n) (when_number 13 (ltb max_line (length line)) (omega arith))
    (else_number fourteen n (when_number 14 (too_deep 0 line) (omega arith)) (read (reading line))) in
    omega (arith, k, answer_number (thirteen else (fourteen else n)) [] (read_area (reading line)).value)
  where
    read : (d : Dec ((f : Form) × Reads line f)) → IsNumber (read_area d).number
    read (yes r) = form_number r.0
    read (no n) = omega arith

-- brackets, `refused`, a space and three digits; or brackets, three digits, and each key with the space before it
unfoldable pub longest : ℕ
longest = 13 + form_places * 31

pub answer_short : (line : List ℕ) → length (printed (line_area line)) ≤ longest
unfolding longest
answer_short line = go (line_area line).number (line_area line).value (line_number line) (line_fits line)
  where
    go : (n : ℕ) (list : List ℕ) → IsNumber n → Fits list → length (answer_text n list) ≤ 13 + form_places * 31
    go zero list h f = omega (arith, list_length list, decimal_short (length list) (few_digits list f), keys_short list f)
    go (suc n) list h f = omega (arith, refusal_length (suc n), decimal_short (suc n) (omega arith))
