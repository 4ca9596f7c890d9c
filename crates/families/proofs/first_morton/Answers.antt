-- `first_morton`: 2 ^ (2 * (z + 1)) is 4 ^ (z + 1), and fits 64 bits.
use mathlib.Core.Path.{◌≡◌, ap, ◌∙◌}
use mathlib.Core.Bool.{cond}
use Prim.Native.Nat.{ℕ, min, ◌+◌, ◌*◌, ◌%◌, ◌^◌, ◌≤◌}
use native.Mathlib.Omega.{arith}
use lib.Dec.{ltb}
use Rattle.std.proofs.lemmas.Bool.Decides.{nat_tests}
use Rattle.constants.specs.Limits.{max_zoom}
use Rattle.families.specs.Join.{first_morton}
use Rattle.ids.specs.Powers.{wide_side, four_side}
use Rattle.families.proofs.first_morton.Goals as goal

power : (z n : ℕ) → z ≤ 30 → n ≡ 2 ^ (2 * (z + 1)) % 2 ^ 64 → n ≡ 4 ^ (z + 1)
power z n h e = e ∙ rw (wide_side (2 * (z + 1)) (omega arith), four_side (z + 1))

capped : (m n : ℕ) → n ≡ min m 30 → n ≡ cond (ltb m 30) m 30
capped m n e = grind (arith, nat_tests)

pub returns : goal.returns
unfolding max_zoom first_morton
returns c = power c.min.result _ (omega arith) c.wide_pow2.ensures ∙ ap (λ (n : ℕ). 4 ^ (n + 1)) (capped c.args.m c.min.result c.min.ensures)
