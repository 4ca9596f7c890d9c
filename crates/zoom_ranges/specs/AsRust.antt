-- The Rust's loop of `zoom_ranges` leads to the maximal runs of a set that holds neither zoom 0 nor zoom 30.
use Rattle.std.specs.Prelude.{◌≡◌, refl, Bool, true, false, cond, not, [], ◌∷◌, eqb}
use Rattle.std.proofs.Common.{sym, ap, ◌∙◌, arith, le-leb, ne_eqb}
use Prim.Native.Nat.{ℕ, zero, suc, ◌≤◌}
use Rattle.zoom_bits.specs.Masks.{masked, masked_is}
use Rattle.zoom_ranges.specs.Open.{open_at, none_open, opens, stays_open, run_ended, none_ended, none_to_end}
use Rattle.zoom_ranges.specs.Ranges.{runs_below, holds_zoom, runs}
use Rattle.zoom_ranges.specs.Rust.{RunWalk, turn, walk, after_loop, run_pushed, zoom_ranges}

-- what the loop knows after the turn of i: the runs that have ended, and the open one, if zoom i is in one
record Walked (has : ℕ → Bool) (i : ℕ) (w : RunWalk) : Type 0 where
  ended : w.ranges ≡ runs_below has i
  opened : open_at has i ≡ cond (eqb w.min 0) [] (w.min ∷ [])
  shut : eqb w.min 0 ≡ not (has i)
  last : has i ≡ true → w.max ≡ i

module _ (has : ℕ → Bool) where
  -- a run that is open is pushed as it has come to i
  pushed : (i : ℕ) (w : RunWalk) → Walked has i w → has i ≡ true → has (suc i) ≡ false → run_pushed w ≡ runs_below has (suc i)
  pushed i w k a b =
      let o : open_at has i ≡ w.min ∷ [] = k.opened ∙ rw (k.shut, a) refl in
      rw (run_ended has i b, o, k.ended, k.last a) refl

  -- the turn of the next zoom, by whether it and the one before are in the set
  next : (i : ℕ) (w : RunWalk) → Walked has i w → Walked has (suc i) (turn (has (suc i)) (suc i) w)
  next i w k = pick (has i) refl (has (suc i)) refl
    where
      pick : (a : Bool) → has i ≡ a → (b : Bool) → has (suc i) ≡ b → Walked has (suc i) (turn b (suc i) w)
      pick true ea true eb =
          let sh : eqb w.min 0 ≡ false = k.shut ∙ ap not ea in
          record {
            ended = k.ended ∙ sym (none_ended has i eb);
            opened = rw sh (stays_open has i ea eb ∙ (k.opened ∙ rw sh refl));
            shut = rw (sh, eb) sh;
            last = λ e. refl;
          }
      pick true ea false eb =
          let sh : eqb w.min 0 ≡ false = k.shut ∙ ap not ea in
          rw sh
          (record {
            ended = pushed i w k ea eb;
            opened = none_open has (suc i) eb;
            shut = rw eb refl;
            last = λ e. cc;
          })
      pick false ea true eb =
          let sh : eqb w.min 0 ≡ true = k.shut ∙ ap not ea in
          let up : eqb (suc i) 0 ≡ false = ne_eqb (suc i) 0 (λ z. omega arith) in
          record {
            ended = k.ended ∙ sym (none_ended has i eb);
            opened = rw (sh, up) (opens has i ea eb);
            shut = rw (sh, eb) up;
            last = λ e. refl;
          }
      pick false ea false eb =
          let sh : eqb w.min 0 ≡ true = k.shut ∙ ap not ea in
          rw sh
          (record {
            ended = k.ended ∙ sym (none_to_end has i ea);
            opened = rw sh (none_open has (suc i) eb);
            shut = rw eb sh;
            last = λ e. cc;
          })

  -- after the last turn an open run is pushed
  finish : (i : ℕ) (w : RunWalk) → Walked has i w → has (suc i) ≡ false → after_loop w ≡ runs_below has (suc i)
  finish i w k b = pick (has i) refl
    where
      pick : (a : Bool) → has i ≡ a → after_loop w ≡ runs_below has (suc i)
      pick true e = rw (k.shut, e) (pushed i w k e b)
      pick false e = rw (k.shut, e) (k.ended ∙ sym (none_to_end has i e))

looked_at : (zset i : ℕ) → i ≤ 30 → masked zset i ≡ holds_zoom zset i
unfolding holds_zoom
looked_at zset i h = masked_is zset i (omega arith) ∙ rw (le-leb i 30 h)

module _ (zset : ℕ) (no-0 : holds_zoom zset 0 ≡ false) (no-30 : holds_zoom zset 30 ≡ false) where
  walked : (i : ℕ) → i ≤ 29 → Walked (holds_zoom zset) i (walk zset (suc i))
  unfolding walk runs_below
  walked zero h =
      rw (looked_at zset 0 (omega arith), no-0)
      (record {
        ended = refl;
        opened = none_open (holds_zoom zset) 0 no-0;
        shut = rw no-0 refl;
        last = λ e. refl;
      })
  walked (suc i) h = rw (looked_at zset (suc i) (omega arith)) (next (holds_zoom zset) i (walk zset (suc i)) (walked i (omega arith)))

  pub runs_as_rust : zoom_ranges zset ≡ runs zset
  runs_as_rust =
      finish (holds_zoom zset) 29 (walk zset 30) (walked 29 (omega arith)) no-30 ∙ sym (none_to_end (holds_zoom zset) 30 no-30)
