-- What the inner functions are given, a part of a line that some form spells, and what they promise of it, whichever form that is.
use Rattle.errors.specs.declared.Refusal.{Refusal}
use Rattle.std.specs.Prelude.{◌≡◌, List, [], ℕ, ◌+◌, ◌-◌, ◌≤◌, length, take, drop, Some, None, Result}
use Rattle.std.proofs.Common.{sym, ap, ◌∙◌, arith}
use Rattle.form.specs.Form.{Form, tiles, pair, text, Reads}
use Rattle.form.specs.Front.{KeysFirst, PairFirst}
use Rattle.form.specs.Ends.{Opened, form_keys, form_pair}
use Rattle.form.specs.Reading.{at_front}
use Rattle.form.specs.Words.{tiles_front, pair_front}
use Rattle.form.specs.declared.Verb.{Verb}
use Rattle.form.specs.declared.Word.TheVariants as word
use Rattle.form_area.specs.Area.{form_area}
use Rattle.form_area.specs.Areas.{left_part, right_part, pair_long}
use Rattle.form_area.specs.Calls.{valued, CountFits}
use Rattle.form_area.specs.Entries.{Entered}

-- a form takes all of the line
abbrev pub Spelled : List ℕ → Type 0
Spelled line = (f : Form) × Reads line f

-- two forms, a space between them and the closing bracket behind them
abbrev pub PairSpelled : List ℕ → Type 0
PairSpelled body = (p : Form × Form) × PairFirst p.0 p.1 [] body

-- keys, a space before each and the closing bracket behind them
abbrev pub KeysSpelled : List ℕ → Type 0
KeysSpelled body = (runs : List (List ℕ)) × KeysFirst runs [] body

-- the area stands at the front of the memory
pub record OfForm (line : List ℕ) (r : Result ℕ Refusal) (memory : List ℕ) : Type 0 where
  pub within : CountFits r memory
  pub area : (f : Form) → Reads line f → valued r memory ≡ form_area f

pub record OfPair (verb : Verb) (body : List ℕ) (r : Result ℕ Refusal) (memory : List ℕ) : Type 0 where
  pub within : CountFits r memory
  pub area : (f g : Form) → PairFirst f g [] body → valued r memory ≡ form_area (pair verb f g)

pub record OfKeys (body : List ℕ) (r : Result ℕ Refusal) (memory : List ℕ) : Type 0 where
  pub within : CountFits r memory
  pub area : (runs : List (List ℕ)) → KeysFirst runs [] body → valued r memory ≡ form_area (tiles runs)

abbrev pub AllEntered : List ℕ → Result ℕ Refusal → List ℕ → Type 0
AllEntered body r entries = (runs : List (List ℕ)) → KeysFirst runs [] body → Entered r runs entries

abbrev pub LeftLength : List ℕ → ℕ → Type 0
LeftLength body n = (f g : Form) → PairFirst f g [] body → n ≡ length (text f)

-- a line that starts with `(tiles`
module _ (line : List ℕ) (o : Opened (Some word.Tiles) line) where
  abbrev keys : List ℕ
  keys = drop (length tiles_front) line

  pub spelled_keys : Spelled line → KeysSpelled keys
  spelled_keys (f, r) = let k = form_keys keys line o f [] (at_front line f r) in (k.0, k.2)

  pub form_of_keys : (r : Result ℕ Refusal) (memory : List ℕ) → OfKeys keys r memory → OfForm line r memory
  form_of_keys r memory a = record {
    within = a.within;
    area = λ f reads. let k = form_keys keys line o f [] (at_front line f reads) in a.area k.0 k.2 ∙ ap form_area (sym k.1);
  }

-- a line that starts with the word of a pair
module _ (verb : Verb) (line : List ℕ) (o : Opened (Some (word.Pair verb)) line) where
  abbrev forms : List ℕ
  forms = drop (length (pair_front verb)) line

  pub spelled_pair : Spelled line → PairSpelled forms
  spelled_pair (f, r) = let k = form_pair verb forms line o f [] (at_front line f r) in (k.0, k.2)

  pub form_of_pair : (r : Result ℕ Refusal) (memory : List ℕ) → OfPair verb forms r memory → OfForm line r memory
  form_of_pair r memory a = record {
    within = a.within;
    area = λ f reads. let k = form_pair verb forms line o f [] (at_front line f reads) in
        a.area k.0.0 k.0.1 k.2 ∙ ap form_area (sym k.1);
  }

pub some_word : (line : List ℕ) → Opened None line → Spelled line → ⊥
some_word line o (f, r) = o f [] (at_front line f r)

-- the two forms of a pair, behind each other
module _ (body : List ℕ) (n : ℕ) (l : LeftLength body n) (f g : Form) (p : PairFirst f g [] body) where
  pub left_reads : Reads (take n body) f
  left_reads = record { formed = p.formed_left; spelled = rw (l f g p) (sym (left_part f g body p)) }

  pub right_reads : Reads (take (length body - 1 - (n + 1)) (drop (n + 1) body)) g
  right_reads = record { formed = p.formed_right; spelled = rw (l f g p) (sym (right_part f g body p)) }

  pub pair_room : n + 2 ≤ length body
  pair_room = omega (arith, l f g p, pair_long f g body p)
