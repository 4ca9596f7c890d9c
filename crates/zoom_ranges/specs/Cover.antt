-- The runs of a set, each from its lowest to its highest number, are the numbers of the set.
use Rattle.std.specs.Prelude.{◌≡◌, Bool}
use Rattle.std.proofs.Math.Path.{refl, sym}
use Rattle.std.proofs.Common.{ap, ◌∙◌, arith}
use Rattle.std.proofs.Math.Bool.{true, false, cond}
use mathlib.Core.List.{List, [], ◌∷◌, ◌++◌, append-nil, append_assoc}
use Prim.Native.Nat.{ℕ, zero, suc}
use Rattle.zoom_bits.specs.Bits.{those, last_zoom, from_to}
use Rattle.zoom_bits.specs.Passing.{those_with, those_without, from_to_one, from_to_more}
use Rattle.zoom_ranges.specs.Edges.{past_last_zoom}
use Rattle.zoom_ranges.specs.Open.{open_at, ended_at, open_first, none_open, one_open, opens, stays_open}
use Rattle.zoom_ranges.specs.Open.{run_ended, none_ended, none_to_end}
use Rattle.zoom_ranges.specs.Ranges.{runs_below, holds_zoom, runs}
use Rattle.zoom_ranges.specs.declared.ZoomRange.{ZoomRange}

-- the numbers of each range, one range after the other
unfoldable pub spread : List ZoomRange → List ℕ
spread [] = []
spread (r ∷ ranges) = from_to r.min r.max ++ spread ranges

spread_append : (a b : List ZoomRange) → spread (a ++ b) ≡ spread a ++ spread b
unfolding spread
spread_append [] b = refl
spread_append (r ∷ a) b = rw (spread_append a b) (sym (append_assoc (from_to r.min r.max) (spread a) (spread b)))

spread_one : (low high : ℕ) → spread (ended_at high (low ∷ [])) ≡ from_to low high
unfolding spread
spread_one low high = append-nil (from_to low high)

module _ (has : ℕ → Bool) where
  -- what the runs hold up to n, with the one that is open there
  held_to : ℕ → List ℕ
  held_to n = spread (runs_below has n) ++ spread (ended_at n (open_at has n))

  -- the next number, by whether it and the one before are in the set
  next : (n : ℕ) (a : Bool) → has n ≡ a → (b : Bool) → has (suc n) ≡ b → held_to n ≡ those has (suc n)
      → held_to (suc n) ≡ those has (suc (suc n))
  unfolding held_to spread
  next n true ea true eb i =
      let s = one_open has n ea in
      rw (none_ended has n eb, stays_open has n ea eb, s.2, spread_one s.0 (suc n), from_to_more s.0 n (omega (arith, s.1)))
      (sym (append_assoc (spread (runs_below has n)) (from_to s.0 n) (suc n ∷ []))
      ∙ (ap (λ (l : List ℕ). l ++ (suc n ∷ [])) (rw (s.2, spread_one s.0 n) at i) ∙ sym (those_with has (suc n) eb)))
  next n true ea false eb i =
      rw (run_ended has n eb, none_open has (suc n) eb, append-nil, those_without has (suc n) eb)
      (spread_append (runs_below has n) (ended_at n (open_at has n)) ∙ i)
  next n false ea true eb i =
      rw (none_ended has n eb, opens has n ea eb, spread_one (suc n) (suc n), from_to_one (suc n), those_with has (suc n) eb)
      (ap (λ (l : List ℕ). l ++ (suc n ∷ [])) (rw (none_open has n ea, append-nil) at i))
  next n false ea false eb i =
      rw (none_to_end has n ea, none_open has (suc n) eb, those_without has (suc n) eb) (rw (none_open has n ea) at i)

  held : (n : ℕ) → held_to n ≡ those has (suc n)
  unfolding held_to spread runs_below those
  held zero = rw (open_first has) (pick (has 0))
    where
      pick : (b : Bool) → spread (ended_at 0 (cond b (0 ∷ []) [])) ≡ cond b (0 ∷ []) []
      pick true = spread_one 0 0 ∙ from_to_one 0
      pick false = refl
  held (suc n) = next n (has n) refl (has (suc n)) refl (held n)

pub runs_cover : (zset : ℕ) → spread (runs zset) ≡ those (holds_zoom zset) (suc last_zoom)
unfolding held_to spread
runs_cover zset =
    let none = past_last_zoom zset (suc last_zoom) (omega arith) in
    rw (none_open (holds_zoom zset) (suc last_zoom) none, append-nil, those_without (holds_zoom zset) (suc last_zoom) none)
    at (held (holds_zoom zset) (suc last_zoom))
