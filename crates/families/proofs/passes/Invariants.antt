-- `passes`: after each turn the front holds the set after one pass more.
use mathlib.Core.Path.{◌≡◌}
use lib.ListN.{length, take}
use Rattle.families.specs.Turns.{Turn}
use Rattle.families.proofs.passes.Given as goal

abbrev pub invariant-loop : goal.invariant-loop
invariant-loop l = Turn l.m (take l.count l.initial.codes) l.codes l.left l.counter × (length l.codes ≡ length l.initial.codes) × (length l.scratch ≡ length l.initial.scratch)
