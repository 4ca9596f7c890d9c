-- `tile_zbox_around::all_of_zoom` meets its contract: whether all tiles are of the zoom is whether those from here on are.
use mathlib.Core.Path.{sym, ap, ◌∙◌}
use borrow.Author.Tests.{eq-eqb, ne_eqb}
use Rattle.bits.specs.Tests.{all_here, all_bad, all_past}
use Rattle.tile.specs.declared.Tile.{Tile}
use Rattle.tile_zbox_around.specs.Around.{of_zoom}
use Rattle.tile_zbox_around.specs.Laws.{entry_at}
use Rattle.tile_zbox_around.proofs.all_of_zoom.Goals as goal

pub listed-requires : goal.listed-requires
listed-requires c = entry_at _ _ c.requires c.loop-entry-test.true

pub returns-then-listed-zoom : goal.returns-then-listed-zoom
returns-then-listed-zoom c = let z = c.args.zoom in
    let e = ap (λ (t : Tile). t.z) c.listed.ensures in
    sym (c.loop-entry.invariant ∙ all_bad (of_zoom z) _ _ c.loop-entry-test.true (ne_eqb _ _ (λ f. c.if-listed-zoom.true (e ∙ f))))

pub loop-entry-preserved : goal.loop-entry-preserved
loop-entry-preserved c = let z = c.args.zoom in
    let e = ap (λ (t : Tile). t.z) c.listed.ensures in
    c.loop-entry.invariant ∙ all_here (of_zoom z) _ _ c.loop-entry-test.true (eq-eqb _ _ (sym e ∙ c.if-listed-zoom.false))

pub returns : goal.returns
returns c = sym (c.loop-entry.invariant ∙ all_past _ _ _ c.loop-entry-test.false)
