-- `join`: what stands at the front, and what is left of the numbers from i on, are what the pass leaves.
use mathlib.Core.Path.{◌≡◌}
use mathlib.Core.List.{List, ◌++◌}
use Prim.Native.Nat.{ℕ, ◌-◌, ◌≤◌}
use lib.ListN.{length, take, drop, get_or}
use Rattle.families.specs.Join.{join_of}
use Rattle.families.proofs.join.Given as goal

pub record Mid (from : ℕ) (s₀ s : List ℕ) (count i : ℕ) : Type 0 where
  pub order : count ≤ i
  pub within : i ≤ length s
  pub long : length s ≡ length s₀
  pub done : take count s ++ join_of from (drop i s) ≡ join_of from s₀
  pub rest : (j : ℕ) → i ≤ j → get_or s j 0 ≡ get_or s₀ j 0

abbrev pub invariant-loop-i : goal.invariant-loop-i
invariant-loop-i l = Mid l.from l.initial.codes l.codes l.count l.i

abbrev pub decreases-loop-i : goal.decreases-loop-i
decreases-loop-i l = length l.initial.codes - l.i
