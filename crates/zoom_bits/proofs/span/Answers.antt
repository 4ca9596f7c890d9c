-- `zoom_bits::span` meets its contract: the bits from low to high are the difference of two powers.
use mathlib.Core.Path.{◌≡◌, ◌∙◌}
use Prim.Native.Nat.{suc, ◌+◌, ◌^◌}
use native.Mathlib.Numerals.{add-one}
use native.Mathlib.Omega.{arith}
use Rattle.bits.specs.Powers.{pow_within}
use Rattle.zoom_bits.specs.Bits.{set_of, between, last_zoom}
use Rattle.zoom_bits.specs.Sets.{set_of_span}
use Rattle.zoom_bits.proofs.span.Goals as goal
use Rattle.zoom_bits.proofs.span.Goals.{After-pow2-2}

-- the two powers, and the set between them
parts : (c : After-pow2-2) → (c.pow2.result ≡ 2 ^ suc c.args.high) × (c.pow2-2.result ≡ 2 ^ c.args.low)
    × (set_of (between c.args.low c.args.high) (suc last_zoom) + 2 ^ c.args.low ≡ 2 ^ suc c.args.high)
parts c = (
  c.pow2.ensures ∙ (rw (add-one c.args.high) (pow_within (suc c.args.high) 32 (omega arith))),
  c.pow2-2.ensures ∙ pow_within c.args.low 32 (omega arith),
  set_of_span c.args.low c.args.high (suc last_zoom) c.requires.0 (omega arith),
)

pub overflow_sub-result : goal.overflow_sub-result
overflow_sub-result c = let p = parts (goal.at.overflow_sub-result c).After-pow2-2 in omega arith

pub returns : goal.returns
returns c = let p = parts (goal.at.returns c).After-pow2-2 in omega arith
