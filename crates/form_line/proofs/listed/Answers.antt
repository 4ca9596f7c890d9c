-- `listed` meets its contract: the length is known before the first byte is written.
use mathlib.Core.Path.{◌≡◌, refl, sym, ◌∙◌}
use native.Mathlib.Omega.{arith}
use mathlib.Core.List.{[], ◌∷◌, ◌++◌}
use Prim.Native.Nat.{◌+◌}
use lib.ListN.{length, set, length-set}
use Rattle.std.proofs.Common.{rules}
use Rattle.constants.specs.Limits.{form_places}
use Rattle.errors.specs.Memory.{written_short}
use Rattle.form.specs.Form.{opening, closing}
use Rattle.form_line.specs.Decimal.{decimal, decimal_short}
use Rattle.form_line.specs.Line.{keys_text, list_text}
use Rattle.form_line.specs.Stores.{Stored, stored_behind, stored_same, stored_length, stored_written}
use Rattle.form_line.specs.Text.{few_digits, keys_short, list_length, list_text_lem}
use Rattle.form_line.proofs.listed.Goals as goal

pub number_length-requires : goal.number_length-requires
number_length-requires c = few_digits _ c.requires

pub overflow_add-n : goal.overflow_add-n
overflow_add-n c = omega (arith, c.number_length.ensures, decimal_short (length c.args.list.now) (few_digits _ c.requires))

pub overflow_add-n-2 : goal.overflow_add-n-2
unfolding form_places
overflow_add-n-2 c = let list = c.args.list.now in
    let f = c.requires in
    omega (arith, c.number_length.ensures, c.keys_length.ensures, keys_short list f, decimal_short (length list) (few_digits list f))

pub returns-then-out-n : goal.returns-then-out-n
returns-then-out-n c = written_short (list_text c.args.list.now) _ refl
    (omega (
      arith,
      c.if-out-n.true,
      list_length c.args.list.now,
      c.number_length.ensures,
      c.keys_length.ensures,
    ))

pub keys-requires-clause-list_in_bounds : goal.keys-requires-clause-list_in_bounds
keys-requires-clause-list_in_bounds c = let s = stored_behind c.byte.ensures.stored c.number.ensures.stored in
    omega (
      arith,
      stored_length s,
      c.byte.ensures.stored.behind,
      c.number.ensures.stored.behind,
      c.if-out-n.false,
      c.number_length.ensures,
      c.keys_length.ensures,
    )

pub byte-requires-2 : goal.byte-requires-2
byte-requires-2 c = let s = stored_behind (stored_behind c.byte.ensures.stored c.number.ensures.stored) c.keys.ensures.stored in
    omega (
      arith,
      stored_length s,
      c.byte.ensures.stored.behind,
      c.number.ensures.stored.behind,
      c.keys.ensures.stored.behind,
      c.if-out-n.false,
      c.number_length.ensures,
      c.keys_length.ensures,
    )

pub returns : goal.returns
returns c = let list = c.args.list.now in
    let e : 2 + c.number_length.result + c.keys_length.result ≡ length (list_text list) =
    omega (arith, list_length list, c.number_length.ensures, c.keys_length.ensures) in
    let s = stored_same
    (list_text_lem list)
    (stored_behind
    (stored_behind (stored_behind c.byte.ensures.stored c.number.ensures.stored) c.keys.ensures.stored)
    c.byte-2.ensures.stored) in
    let same = c.byte-2.ensures.same_reference
    ∙ (c.keys.ensures.same_reference ∙ (c.number.ensures.same_reference ∙ c.byte.ensures.same_reference)) in
    stored_written s e (omega (arith, e, c.if-out-n.false)) (search (rules, sym same))
