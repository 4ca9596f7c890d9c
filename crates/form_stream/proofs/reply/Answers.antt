-- `reply` meets its contract: the answer is lent one place less, and the newline goes behind it.
use Rattle.errors.specs.declared.Refusal.{Refusal}
use Rattle.std.specs.Prelude.{Result}
use mathlib.Core.Path.{◌≡◌, refl, sym, subst}
use Prim.Native.Nat.{ℕ, suc, ◌-◌, ◌<◌}
use native.Mathlib.Omega.{arith}
use lib.ListN.{length, take, drop, length-append, length-drop}
use lib.Seq.{length-take-le}
use Rattle.errors.specs.Cases.{left}
use Rattle.form_area.specs.Area.{line_area}
use Rattle.form_line.specs.Stores.{written_within}
use Rattle.form_line.specs.Line.{printed, line_written}
use Rattle.form_stream.specs.Steps.{no_room, newline_behind, no_answer}
use Rattle.form_stream.proofs.reply.Goals as goal
use Rattle.form_stream.proofs.reply.Goals.{After-answer, Else-room-eq0, In-Ok}

some_room : (c : Else-room-eq0) → length c.args.out.now ≡ suc (length c.args.out.now - 1)
some_room c = omega (arith, c.if-room-eq0.false)

-- the answer stands in the part that was lent
answered : {r : Result ℕ Refusal} (c : After-answer) → c.answer.result ≡ r
    → left r c.answer.new.out
    ≡ line_written c.args.line.now
    (take (length c.args.out.now - 1) c.args.out.now)
answered c e =
    subst (λ (r : Result ℕ Refusal). left r c.answer.new.out
    ≡ line_written c.args.line.now
    (take (length c.args.out.now - 1) c.args.out.now)) e
    c.answer.ensures

lent_length : (c : After-answer) → length c.answer.new.out ≡ length c.args.out.now - 1
lent_length c = let o = c.args.out.now in omega (arith, c.answer.auto.out, length-take-le (length o - 1) o (omega arith))

inside : (c : In-Ok) → c.in-Ok.n < length c.args.out.now
inside c =
    let a = c.args in
    omega (
      arith,
      written_within (printed (line_area a.line.now)) (take (length a.out.now - 1) a.out.now)
          c.answer.new.out refl (subst (λ (r : Result ℕ Refusal). left r c.answer.new.out ≡ line_written a.line.now (take (length a.out.now - 1) a.out.now)) c.in-Ok.is
          c.answer.ensures),
      c.answer.auto.out,
      length-take-le (length a.out.now - 1) a.out.now (omega arith),
    )

pub returns-then-room-eq0 : goal.returns-then-room-eq0
returns-then-room-eq0 c = let a = c.args in no_room a.line.now a.out.now c.if-room-eq0.true

pub slice_bounds-answer-length : goal.slice_bounds-answer-length
slice_bounds-answer-length c = let o = c.args.out.now in sym (length-take-le (length o - 1) o (omega arith))

pub bounds-out-n : goal.bounds-out-n
bounds-out-n c = let o = c.args.out.now in
    omega (
      arith,
      inside (goal.at.bounds-out-n c).In-Ok,
      length-append c.answer.new.out (drop (length o - 1) o),
      length-drop (length o - 1) o,
      lent_length (goal.at.bounds-out-n c).After-answer,
      some_room (goal.at.bounds-out-n c).Else-room-eq0,
    )

pub overflow_add-result : goal.overflow_add-result
overflow_add-result c = omega (arith, inside (goal.at.overflow_add-result c).In-Ok, c.well_formed)

pub returns-in-Ok : goal.returns-in-Ok
returns-in-Ok c = let a = c.args in
    newline_behind a.line.now a.out.now c.answer.new.out (length a.out.now - 1)
    (some_room (goal.at.returns-in-Ok c).Else-room-eq0) c.in-Ok.n
    (answered (goal.at.returns-in-Ok c).After-answer c.in-Ok.is) c.answer.auto.out

pub returns-in-Err : goal.returns-in-Err
returns-in-Err c = let a = c.args in
    no_answer a.line.now a.out.now c.answer.new.out (length a.out.now - 1)
    (some_room (goal.at.returns-in-Err c).Else-room-eq0) c.in-Err.field-0
    (answered (goal.at.returns-in-Err c).After-answer c.in-Err.is)
