-- `refused` meets its contract: the length is known before the first byte is written.
use mathlib.Core.Path.{◌≡◌, refl, sym, ap, ◌∙◌}
use native.Mathlib.Omega.{arith}
use Prim.Native.Nat.{ℕ, ◌+◌}
use lib.ListN.{length, set}
use Rattle.std.proofs.Common.{rules}
use Rattle.errors.specs.Answer.{number_of}
use Rattle.errors.specs.Memory.{written_short}
use Rattle.form.specs.Form.{closing}
use Rattle.form_line.specs.Decimal.{decimal, decimal_short}
use Rattle.form_line.specs.Line.{refusal_text}
use Rattle.form_line.specs.Stores.{Stored, stored_behind, stored_length, stored_written}
use Rattle.form_line.specs.Text.{refusal_length}
use Rattle.form_line.proofs.refused.Goals as goal

pub overflow_add-n : goal.overflow_add-n
overflow_add-n c = omega (arith, c.number_length.ensures, decimal_short c.number-number.result (omega arith))

pub overflow_add-n-2 : goal.overflow_add-n-2
overflow_add-n-2 c = omega (arith, c.number_length.ensures, decimal_short c.number-number.result (omega arith))

pub returns-then-out-n : goal.returns-then-out-n
returns-then-out-n c = written_short (refusal_text (number_of c.args.why)) _ refl
    (omega (
      arith,
      c.if-out-n.true,
      refusal_length (number_of c.args.why),
      c.number_length.ensures,
      ap (λ (n : ℕ). length (decimal n)) c.number-number.ensures,
    ))

pub byte-requires : goal.byte-requires
byte-requires c = omega (
  arith,
  c.number.ensures.stored.behind,
  stored_length c.number.ensures.stored,
  c.bytes.ensures.stored.behind,
  stored_length c.bytes.ensures.stored,
  c.if-out-n.false,
  c.number_length.ensures,
)

pub returns : goal.returns
returns c = let why = c.args.why in
    let e : 9 + c.number_length.result + 1 ≡ length (refusal_text (number_of why)) =
    omega (arith, refusal_length (number_of why), c.number_length.ensures, ap (λ (n : ℕ). length (decimal n)) c.number-number.ensures) in
    let s : Stored (refusal_text (number_of why)) 0 c.byte.new.self.at c.args.out.now c.byte.new.self.out.now =
    rw (← c.number-number.ensures) (stored_behind (stored_behind c.bytes.ensures.stored c.number.ensures.stored) c.byte.ensures.stored) in
    let same = c.byte.ensures.same_reference ∙ (c.number.ensures.same_reference ∙ c.bytes.ensures.same_reference) in
    stored_written s e (omega (arith, e, c.if-out-n.false)) (search (rules, sym same))
