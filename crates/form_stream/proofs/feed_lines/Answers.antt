-- `feed_lines` meets its contract: line by line, the scan goes on as it would have gone.
use Rattle.errors.specs.declared.Refusal.{Refusal}
use Rattle.std.specs.Prelude.{Result}
use mathlib.Core.Path.{◌≡◌, refl, sym, subst, ◌∙◌}
use mathlib.Core.List.{List}
use Prim.Native.Nat.{ℕ, ◌<◌, ◌-◌}
use native.Mathlib.Omega.{arith}
use lib.ListN.{length, take, get_or}
use lib.Seq.{length-take-le}
use Rattle.form.specs.Form.{newline}
use Rattle.form_line.specs.Stores.{part_from, with_part, part_length, written_within}
use Rattle.form_stream.specs.Scan.{scan_at}
use Rattle.form_stream.specs.Steps.{Goes, not_gone, goes_on, goes_to_the_end, goes_no_further, goes_behind_the_line, back_length}
use Rattle.form_stream.specs.Stream.{reply}
use Rattle.errors.specs.Answer.{written}
use Rattle.errors.specs.Cases.{left}
use Rattle.form_stream.proofs.feed_lines.Goals as goal
use Rattle.form_stream.proofs.feed_lines.Goals.{After-reply, After-take_line-taken}

pub loop-i-init : goal.loop-i-init
loop-i-init c = (refl, refl, not_gone _ _ _ _ _ c.requires.1)

pub take_line-taken-requires : goal.take_line-taken-requires
take_line-taken-requires c = let p = c.requires in
    record { from_in_bounds = omega (arith, c.loop-i-test.true); line_len = (c.loop-i.invariant.0 ∙ p.0, omega (arith, c.loop-i.invariant.0, c.loop-i.invariant.2.kept, p.1)) }

-- the bytes up to the end of a line or of the chunk are taken in
module _ (c : After-take_line-taken) where
  abbrev after : List ℕ
  after = c.take_line-taken.new.line

  fed : Goes c.args.chunk.now (scan_at c.args.from c.args.len 0 c.args.line.now c.args.out.now) c.take_line-taken.result.at
      c.take_line-taken.result.len c.loop-i.filled after c.loop-i.out
  fed = goes_on _ _ _ _ _ _ _ c.loop-i.invariant.2 after c.take_line-taken.result c.take_line-taken.ensures.0

  line_same : length after ≡ length c.args.line.now
  line_same = c.take_line-taken.auto.line ∙ c.loop-i.invariant.0

pub shape_of-line-then-at-chunk : goal.shape_of-line-then-at-chunk
shape_of-line-then-at-chunk c = line_same (goal.at.shape_of-line-then-at-chunk c).After-take_line-taken

pub shape_of-out-then-at-chunk : goal.shape_of-out-then-at-chunk
shape_of-out-then-at-chunk c = c.loop-i.invariant.1

pub returns-then-at-chunk : goal.returns-then-at-chunk
returns-then-at-chunk c = goes_to_the_end _ _ _ _ _ _ _ (fed (goal.at.returns-then-at-chunk c).After-take_line-taken) (omega (arith, c.if-at-chunk.true))

pub slice_bounds-reply-end : goal.slice_bounds-reply-end
slice_bounds-reply-end c = (fed (goal.at.slice_bounds-reply-end c).After-take_line-taken).kept

pub slice_bounds-reply-end-in-loop-i : goal.slice_bounds-reply-end-in-loop-i
slice_bounds-reply-end-in-loop-i c = sym (length-take-le _ (after (goal.at.slice_bounds-reply-end-in-loop-i c).After-take_line-taken) (fed (goal.at.slice_bounds-reply-end-in-loop-i c).After-take_line-taken).kept)

pub slice_bounds-reply-count : goal.slice_bounds-reply-count
slice_bounds-reply-count c = (fed (goal.at.slice_bounds-reply-count c).After-take_line-taken).room

pub slice_bounds-reply-start : goal.slice_bounds-reply-start
slice_bounds-reply-start c = (fed (goal.at.slice_bounds-reply-start c).After-take_line-taken).room

-- the line that has ended is answered in the memory behind the answers before it
module _ (c : After-reply) where
  abbrev part : List ℕ
  part = c.reply.new.out

  abbrev line_taken : List ℕ
  line_taken = c.take_line-taken.new.line

  taken : Goes c.args.chunk.now (scan_at c.args.from c.args.len 0 c.args.line.now c.args.out.now) c.take_line-taken.result.at
      c.take_line-taken.result.len c.loop-i.filled line_taken c.loop-i.out
  taken = goes_on _ _ _ _ _ _ _ c.loop-i.invariant.2 line_taken c.take_line-taken.result c.take_line-taken.ensures.0

  part_same : length part ≡ length c.loop-i.out - c.loop-i.filled
  part_same = c.reply.auto.out ∙ part_length c.loop-i.filled c.loop-i.out

  replied : {r : Result ℕ Refusal} → c.reply.result ≡ r
      → left r part ≡ written 0 (reply (take c.take_line-taken.result.len line_taken)) (part_from c.loop-i.filled c.loop-i.out)
  replied e =
      subst (λ (r : Result ℕ Refusal). left r part ≡ written 0 (reply (take c.take_line-taken.result.len line_taken)) (part_from c.loop-i.filled c.loop-i.out)) e
      c.reply.ensures

  line_ends : (c.take_line-taken.result.at < length c.args.chunk.now) × (get_or c.args.chunk.now c.take_line-taken.result.at 0 ≡ newline)
  line_ends =
      let e = c.take_line-taken.ensures.1 in
      let h : c.take_line-taken.result.at < length c.args.chunk.now = omega (arith, e.within, c.if-at-chunk.false) in
      (h, e.stops h)

  out_same : length (with_part c.loop-i.filled c.loop-i.out part) ≡ length c.args.out.now
  out_same = back_length _ _ _ _ _ _ _ taken part part_same ∙ c.loop-i.invariant.1

pub overflow_add-filled : goal.overflow_add-filled
overflow_add-filled c = omega (
  arith,
  written_within (reply (take c.take_line-taken.result.len c.take_line-taken.new.line))
      (part_from c.loop-i.filled c.loop-i.out) (part (goal.at.overflow_add-filled c).After-reply) refl (replied (goal.at.overflow_add-filled c).After-reply c.in-Ok.is),
  part_same (goal.at.overflow_add-filled c).After-reply,
  (taken (goal.at.overflow_add-filled c).After-reply).room,
  c.loop-i.invariant.1,
  c.well_formed,
)

pub loop-i-smaller : goal.loop-i-smaller
loop-i-smaller c = omega (arith, (line_ends (goal.at.loop-i-smaller c).After-reply).0, c.take_line-taken.ensures.0.onward)

pub loop-i-preserved : goal.loop-i-preserved
loop-i-preserved c = let e = line_ends (goal.at.loop-i-preserved c).After-reply in
    (c.take_line-taken.auto.line ∙ c.loop-i.invariant.0, out_same (goal.at.loop-i-preserved c).After-reply, goes_behind_the_line _ _ _ _ _ _ _ (taken (goal.at.loop-i-preserved c).After-reply) c.in-Ok.m (part (goal.at.loop-i-preserved c).After-reply) (part_same (goal.at.loop-i-preserved c).After-reply) e.0 e.1 (replied (goal.at.loop-i-preserved c).After-reply c.in-Ok.is))

pub shape_of-line-in-Err : goal.shape_of-line-in-Err
shape_of-line-in-Err c = c.take_line-taken.auto.line ∙ c.loop-i.invariant.0

pub shape_of-out-in-Err : goal.shape_of-out-in-Err
shape_of-out-in-Err c = out_same (goal.at.shape_of-out-in-Err c).After-reply

pub returns-in-Err : goal.returns-in-Err
returns-in-Err c = let e = line_ends (goal.at.returns-in-Err c).After-reply in
    goes_no_further _ _ _ _ _ _ _ (taken (goal.at.returns-in-Err c).After-reply) e.0 e.1 (part (goal.at.returns-in-Err c).After-reply) c.in-Err.field-0 (replied (goal.at.returns-in-Err c).After-reply c.in-Err.is)

pub shape_of-line : goal.shape_of-line
shape_of-line c = c.loop-i.invariant.0

pub shape_of-out : goal.shape_of-out
shape_of-out c = c.loop-i.invariant.1

pub returns : goal.returns
returns c = goes_to_the_end _ _ _ _ _ _ _ c.loop-i.invariant.2 c.loop-i-test.false
