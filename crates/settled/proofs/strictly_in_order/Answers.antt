-- `strictly_in_order`: the tiles of the entries that were read rise to `last`.
use mathlib.Core.Path.{◌≡◌, sym, ap, ◌∙◌}
use Prim.Native.Nat.{ℕ}
use native.Mathlib.Omega.{arith}
use mathlib.Core.Path.{subst}
use lib.ListN.{get_or}
use Rattle.tile.specs.Order.{Before}
use Rattle.tile.specs.declared.Tile.{Tile}
use borrow.Author.Tests.{eqb-true}
use Rattle.bits.specs.Tests.{all_at}
use Rattle.errors.specs.Laws.{answer_found, answer_refused, never_zero}
use Rattle.ids.specs.Entry.{entry_tile, entry_refusal, is_entry}
use Rattle.tile.specs.OnMap.{tile_case, no_tile_of}
use Rattle.settled.specs.Order.{risen_none, risen_next, risen_off, risen_all, not_before, is_after}
use Rattle.settled.proofs.strictly_in_order.Goals as goal
use Rattle.settled.proofs.strictly_in_order.Goals.{After-entry_tile, In-Ok, in-Some+else-le, in_default-last}

pub loop-entry-init : goal.loop-entry-init
loop-entry-init c = risen_none c.args.list.now

-- the entry that is read
abbrev entry : After-entry_tile → ℕ
entry c = get_or c.args.list.now c.loop-entry.entry-index 0

fine : (c : After-entry_tile) → entry_refusal (entry c) ≡ 0
fine c = eqb-true _ _ (all_at is_entry _ c.loop-entry.entry-index c.requires c.loop-entry-test.true)

found : (c : In-Ok) → c.in-Ok.t ≡ entry_tile (get_or c.args.list.now c.loop-entry.entry-index 0)
found c =
    (answer_found (entry_refusal (get_or c.args.list.now c.loop-entry.entry-index 0)) no_tile_of (entry_tile (get_or c.args.list.now c.loop-entry.entry-index 0)) _ (sym (ap tile_case c.in-Ok.is) ∙ c.entry_tile.ensures)).1

pub returns-in_default : goal.returns-in_default
returns-in_default c = let why = c.in_default.field-0 in
    let n = entry (goal.at.returns-in_default c).After-entry_tile in
    let f = answer_refused why (entry_refusal n) no_tile_of (entry_tile n) (sym (ap tile_case c.in_default.is) ∙ c.entry_tile.ensures) in
    absurd (never_zero why (sym f ∙ fine (goal.at.returns-in_default c).After-entry_tile))

pub returns-then-le : goal.returns-then-le
returns-then-le c = let L = c.loop-entry in
    risen_off c.args.list.now L.last L.entry-index c.in-Ok.t L.invariant c.loop-entry-test.true (found (goal.at.returns-then-le c).In-Ok)
    c.in-Some.before c.in-Some.is (not_before c.in-Some.before c.in-Ok.t (sym c.le.ensures ∙ c.if-le.true))

pub loop-entry-preserved : goal.loop-entry-preserved
loop-entry-preserved c = let L = c.loop-entry in
    let on = risen_next c.args.list.now L.last L.entry-index c.in-Ok.t L.invariant c.loop-entry-test.true (found (goal.at.loop-entry-preserved c).In-Ok) in
    elim c.match-last.branch [
      | in-Some+else-le w ↦ rw w.last-is (on (λ s q. let f : w.in-Some.before ≡ s = cc (w.in-Some.is, q) in
          subst (λ (u : Tile). Before u c.in-Ok.t) f (is_after w.in-Some.before c.in-Ok.t (sym w.le.ensures ∙ w.if-le.false))))
      | in_default-last w ↦ rw w.last-is (on (λ s q. let z : ◌≡◌ {A = ℕ} 0 1 = cc in absurd (omega arith)))
    ]

pub returns : goal.returns
returns c = let L = c.loop-entry in risen_all _ L.last L.entry-index L.invariant c.loop-entry-test.false
