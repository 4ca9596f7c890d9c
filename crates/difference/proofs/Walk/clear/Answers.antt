-- `clear`: the next tile taken away starts half its run before its location.
use mathlib.Core.Path.{◌≡◌, refl}
use mathlib.Core.Bool.{Bool, true, false}
use mathlib.Core.List.{List}
use Prim.Native.Nat.{ℕ, ◌-◌, ◌<◌}
use borrow.Author.Tests.{leb-true, leb-false}
use Rattle.std.specs.Prelude.{leb}
use Rattle.difference.specs.Walk.{Clear}
use native.Mathlib.Omega.{arith}
use lib.ListN.{length, get_or}
use Rattle.std.proofs.Common.{rules}
use Rattle.std.proofs.lemmas.Bool.Decides.{nat_tests}
use Rattle.quadtree.specs.Locations.{IsLocation, start_of, tiles, room}
use Rattle.difference.proofs.Walk.clear.Goals as goal
use Rattle.difference.proofs.Walk.clear.Goals.{In-Some}

tested : (gone : List ℕ) (next end start : ℕ) → next < length gone → start ≡ start_of (tiles gone next) → Clear (leb end start) gone next end
tested gone next end start h e = pick (leb end start) refl
  where
    pick : (t : Bool) → leb end start ≡ t → Clear t gone next end
    pick true q = λ g. omega (arith, leb-true _ _ q)
    pick false q = (h, omega (arith, leb-false end start q))

-- the location that is read
within : (c : In-Some) → c.args.self.now.next < length c.args.self.now.gone.now
within c = grind (arith, nat_tests)

here : (c : In-Some) → c.in-Some.g.now ≡ get_or c.args.self.now.gone.now c.args.self.now.next 0
here c = search rules

location : (c : In-Some) → IsLocation c.in-Some.g.now
location c = rw (here c) (c.requires.0.each c.args.self.now.next (within c))

pub low_bit-requires : goal.low_bit-requires
low_bit-requires c = location (goal.at.low_bit-requires c).In-Some

pub overflow_sub-result : goal.overflow_sub-result
overflow_sub-result c = (room (location (goal.at.overflow_sub-result c).In-Some) c.low_bit.ensures).below

pub returns-in-None : goal.returns-in-None
returns-in-None c = λ h. absurd (grind (arith, nat_tests))

pub returns-in-Some : goal.returns-in-Some
returns-in-Some c = let s = (goal.at.returns-in-Some c).In-Some in
    tested c.args.self.now.gone.now c.args.self.now.next c.args.end (c.in-Some.g.now - c.low_bit.result) (within s)
    (rw (← here s) (omega (arith, (location s).again, c.low_bit.ensures)))
