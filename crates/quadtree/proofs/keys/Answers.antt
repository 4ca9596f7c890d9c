-- `quadtree::keys` meets its contract: the keys before i stand in the memory, and whether all of the list are entries is whether those from i on are.
use mathlib.Core.Path.{◌≡◌, refl, sym, ap, ◌∙◌}
use mathlib.Core.Bool.{false}
use Prim.Native.Nat.{ℕ}
use native.Mathlib.Omega.{arith}
use lib.ListN.{get_or}
use borrow.Author.Tests.{eq-eqb, ne_eqb}
use Rattle.bits.specs.Tests.{all_of, all_here, all_bad, all_past}
use Rattle.errors.specs.Laws.{answer_found, answer_refused, never_zero}
use Rattle.ids.specs.Entry.{entry_tile, entry_refusal, is_entry}
use Rattle.ids.proofs.EntryLemmas.{accepted_entry}
use Rattle.tile.specs.OnMap.{tile_case, no_tile_of}
use Rattle.quadtree.specs.Lists.{sort_key, mapped_length, mapped_next, mapped_all}
use Rattle.quadtree.proofs.keys.Goals as goal
use Rattle.quadtree.proofs.keys.Goals.{After-entry_tile, In-Ok, In_default}

pub loop-i-init : goal.loop-i-init
loop-i-init c = (refl, record { same = c.requires; within = omega arith; written = refl })

abbrev entry : After-entry_tile → ℕ
entry c = get_or c.args.list.now c.loop-i.i 0

found : (c : In-Ok) → (entry_refusal (get_or c.args.list.now c.loop-i.i 0) ≡ 0) × (c.in-Ok.t ≡ entry_tile (get_or c.args.list.now c.loop-i.i 0))
found c =
    answer_found (entry_refusal (get_or c.args.list.now c.loop-i.i 0)) no_tile_of (entry_tile (get_or c.args.list.now c.loop-i.i 0)) _ (sym (ap tile_case c.in-Ok.is) ∙ c.entry_tile.ensures)

pub key_of-requires : goal.key_of-requires
key_of-requires c = let f = found (goal.at.key_of-requires c).In-Ok in rw f.1 (accepted_entry (entry (goal.at.key_of-requires c).After-entry_tile) f.0)

pub bounds-keys-i : goal.bounds-keys-i
bounds-keys-i c = let m = c.loop-i.invariant.1 in
    omega (arith, mapped_length m, m.same, c.loop-i-test.true)

-- of an entry that is refused
stranger : (c : In_default) → is_entry (get_or c.args.list.now c.loop-i.i 0) ≡ false
stranger c =
    let why = c.in_default.field-0 in
    let f = answer_refused why (entry_refusal (get_or c.args.list.now c.loop-i.i 0)) no_tile_of (entry_tile (get_or c.args.list.now c.loop-i.i 0)) (sym (ap tile_case c.in_default.is) ∙ c.entry_tile.ensures) in
    ne_eqb _ _ (λ z. never_zero why (sym f ∙ z))

pub returns-in_default : goal.returns-in_default
returns-in_default c = let e : all_of is_entry _ ≡ false = c.loop-i.invariant.0 ∙ all_bad is_entry _ _ c.loop-i-test.true (stranger (goal.at.returns-in_default c).In_default) in
    record { answer = sym e; keys = λ f. let z : ◌≡◌ {A = ℕ} 0 1 = cc in absurd (omega arith) }

pub loop-i-preserved : goal.loop-i-preserved
loop-i-preserved c = let f = found (goal.at.loop-i-preserved c).In-Ok in
    let e = c.key_of.ensures ∙ ap (sort_key c.args.by) f.1 in (
      c.loop-i.invariant.0 ∙ all_here is_entry _ _ c.loop-i-test.true (eq-eqb _ _ f.0),
      mapped_next c.loop-i.invariant.1 c.loop-i-test.true e,
    )

pub returns : goal.returns
returns c = let l = c.loop-i in
    record { answer = sym (l.invariant.0 ∙ all_past is_entry _ _ c.loop-i-test.false); keys = λ f. mapped_all l.invariant.1 c.loop-i-test.false }
