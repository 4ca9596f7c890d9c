-- What of a set is not read: two that hold the same zooms have the same runs, whatever bit 31 is.
use Rattle.std.specs.Prelude.{◌≡◌, Bool, ℕ, suc, ◌+◌, ◌^◌, ◌≤◌}
use Rattle.std.proofs.Common.{sym, ap, ◌∙◌, arith}
use Rattle.std.proofs.Math.Path.{fun_ext}
use Rattle.std.proofs.Math.Nat.{add-mod_right}
use Rattle.std.proofs.Math.Decide.{dec_le}
use Rattle.zoom_bits.specs.Bits.{has_bit, last_zoom, turn_bit}
use Rattle.zoom_bits.specs.Bitwise.{bit_low}
use Rattle.zoom_ranges.specs.Edges.{past_last_zoom}
use Rattle.zoom_ranges.specs.Ranges.{runs_below, holds_zoom, runs}

pub same_zooms_same_runs : (a b : ℕ) → ((z : ℕ) → z ≤ last_zoom → has_bit a z ≡ has_bit b z) → runs a ≡ runs b
unfolding holds_zoom
same_zooms_same_runs a b same = ap (λ (has : ℕ → Bool). runs_below has (suc last_zoom)) (fun_ext (λ z. pick z (dec_le z last_zoom)))
  where
    pick : (z : ℕ) → Dec (z ≤ last_zoom) → holds_zoom a z ≡ holds_zoom b z
    pick z (yes h) = rw (same z h)
    pick z (no h) = past_last_zoom a z (omega arith) ∙ sym (past_last_zoom b z (omega arith))

pub bit_31_unread : (zset : ℕ) → runs (zset + 2 ^ turn_bit) ≡ runs zset
bit_31_unread zset =
    same_zooms_same_runs (zset + 2 ^ turn_bit) zset
    (λ z h.
    sym (bit_low (zset + 2 ^ turn_bit) turn_bit z (omega arith))
    ∙ (ap (λ (k : ℕ). has_bit k z) (add-mod_right zset (2 ^ turn_bit)) ∙ bit_low zset turn_bit z (omega arith)))
