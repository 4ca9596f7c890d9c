-- `take_in` is safe and ends, and keeps the line so far: a turn goes as `feed` promises.
use Rattle.std.proofs.Common.{◌≡◌, List, ℕ, suc, length, take, drop, arith, sym, ap₂, ◌∙◌, length-take-le}
use Rattle.areas.specs.LineSoFar.{line_kept, nothing_more}
use Rattle.constants.specs.Limits.{max_line}
use Rattle.form_stream.specs.Scan.{Scan, feed_of}
use Rattle.form_stream.specs.Scanned.{Feeds, feeds}
use Rattle.areas.proofs.take_in.Goals as goal

fed : (chunk : List ℕ) (at len : ℕ) (line out : List ℕ) {s : Scan} → s ≡ feed_of chunk at len line out → length line ≡ suc max_line
    → Feeds chunk at len line out s
fed chunk at len line out e h = rw e (feeds chunk at len line out h)

pub slice_bounds-write-end : goal.slice_bounds-write-end
slice_bounds-write-end g c =
    let l = c.loop-so_far in
    (fed c.args.chunk.now l.so_far.at l.so_far.len l.line l.out c.feed-fed.ensures l.invariant.1).ready.room

pub slice_bounds-write-end-in-loop-so_far : goal.slice_bounds-write-end-in-loop-so_far
slice_bounds-write-end-in-loop-so_far g c =
    let l = c.loop-so_far in
    sym (length-take-le _ _ (fed c.args.chunk.now l.so_far.at l.so_far.len l.line l.out c.feed-fed.ensures l.invariant.1).ready.room)

pub loop-so_far-smaller : goal.loop-so_far-smaller
loop-so_far-smaller g c =
    let l = c.loop-so_far in
    let f = fed c.args.chunk.now l.so_far.at l.so_far.len l.line l.out c.feed-fed.ensures l.invariant.1 in
    let within = f.place l.invariant.2 in
    let onward = f.onward (omega (arith, l.invariant.0, c.requires.0)) c.loop-so_far-test.true in
    omega (arith, within, onward)

pub loop-so_far-preserved : goal.loop-so_far-preserved
loop-so_far-preserved g c =
    let l = c.loop-so_far in
    let f = fed c.args.chunk.now l.so_far.at l.so_far.len l.line l.out c.feed-fed.ensures l.invariant.1 in
    (f.long ∙ l.invariant.0, f.ready.long, f.place l.invariant.2, sym f.so_far_lem ∙ l.invariant.3)

pub returns : goal.returns
returns g c =
    let l = c.loop-so_far in
    let n = c.next_chunk-so_far in (
      l.invariant.0,
      l.invariant.1,
      nothing_more c.args.chunk.now l.so_far.at l.so_far.len l.line l.invariant.1 c.loop-so_far-test.false
          ∙ (l.invariant.3
          ∙ ap₂ (λ (len at : ℕ). line_kept (take len c.args.line.now) (drop at c.args.chunk.now)) n.ensures.1 n.ensures.0),
    )
