-- `tile_zbox_around::around` meets its contract: the box is that of the tiles before this one.
use mathlib.Core.Path.{ap, ap₂, ◌∙◌}
use Prim.Native.Nat.{◌+◌, ◌<◌}
use lib.ListN.{length}
use native.Mathlib.Omega.{arith}
use lib.Seq.{take_all}
use Rattle.tile_zbox_around.specs.Around.{box_around, grown}
use Rattle.tile_zbox_around.specs.Laws.{entry_at, around_first, around_more, others_length, other_at}
use Rattle.tile_zbox_around.proofs.around.Goals as goal
use Rattle.tile_zbox_around.proofs.around.Goals.{In-loop-entry}

pub listed-first-requires : goal.listed-first-requires
listed-first-requires c = entry_at _ _ c.requires.list_value c.requires.list_nonzero

pub loop-entry-init : goal.loop-entry-init
loop-entry-init c = rw c.listed-first.ensures (around_first c.args.list.now c.requires.list_nonzero)

inside : (c : In-loop-entry) → c.loop-entry.entry-index + 1 < length c.args.list.now
inside c = omega (arith, others_length c.args.list.now, c.requires.list_nonzero)

pub listed-requires : goal.listed-requires
listed-requires c = rw (other_at c.args.list.now c.loop-entry.entry-index) (entry_at _ _ c.requires.list_value (inside (goal.at.listed-requires c).In-loop-entry))

pub loop-entry-preserved : goal.loop-entry-preserved
loop-entry-preserved c = let l = c.args.list.now in
    let i = c.loop-entry in
    let h = inside (goal.at.loop-entry-preserved c).In-loop-entry in
    c.grown-b.ensures ∙ (ap₂ grown i.invariant (rw (other_at l i.entry-index) at c.listed.ensures) ∙ around_more l (i.entry-index + 1) (omega arith) h)

pub returns : goal.returns
returns c = let l = c.args.list.now in
    c.loop-entry.invariant ∙ ap box_around (take_all (c.loop-entry.entry-index + 1) l (omega (arith, others_length l)))
