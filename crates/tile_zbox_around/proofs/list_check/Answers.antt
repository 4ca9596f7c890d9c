-- `tile_zbox_around::list_check` meets its contract: each branch's test is the one that `list_refusal` makes there.
use mathlib.Core.Path.{◌≡◌, sym, ap, ◌∙◌}
use mathlib.Core.Bool.{true}
use native.Mathlib.Omega.{arith}
use Rattle.bits.specs.Tests.{all_of}
use Rattle.constants.specs.Limits.{max_entries}
use Rattle.ids.specs.Entry.{is_entry}
use Rattle.tile.specs.declared.Tile.{Tile}
use Rattle.tile_zbox_around.specs.Around.{of_zoom, zoom_of_first}
use Rattle.tile_zbox_around.specs.Laws.{all_listed, entry_at, list_long, list_stranger, list_empty, list_mixed, one_zoom_accepted}
use Rattle.tile_zbox_around.proofs.list_check.Goals as goal
use Rattle.tile_zbox_around.proofs.list_check.Goals.{After-all_of_zoom, Else-not-all_entries}

pub returns-then-list-gt-MAX_ENTRIES : goal.returns-then-list-gt-MAX_ENTRIES
unfolding max_entries
returns-then-list-gt-MAX_ENTRIES c = sym (list_long _ c.if-list-gt-MAX_ENTRIES.true)

pub returns-then-not-all_entries : goal.returns-then-not-all_entries
unfolding max_entries
returns-then-not-all_entries c = sym (list_stranger _ c.if-list-gt-MAX_ENTRIES.false (sym (all_listed is_entry _) ∙ (sym c.all_entries.ensures ∙ c.if-not-all_entries.true)))

entries : (c : Else-not-all_entries) → all_of is_entry c.args.list.now ≡ true
entries c = sym (all_listed is_entry _) ∙ (sym c.all_entries.ensures ∙ c.if-not-all_entries.false)

pub returns-then-list-eq0 : goal.returns-then-list-eq0
unfolding max_entries
returns-then-list-eq0 c = sym (list_empty _ c.if-list-gt-MAX_ENTRIES.false (entries (goal.at.returns-then-list-eq0 c).Else-not-all_entries) c.if-list-eq0.true)

pub listed-requires : goal.listed-requires
listed-requires c = entry_at _ _ (entries (goal.at.listed-requires c).Else-not-all_entries) (omega arith)

pub all_of_zoom-requires : goal.all_of_zoom-requires
all_of_zoom-requires c = entries (goal.at.all_of_zoom-requires c).Else-not-all_entries

zooms : (c : After-all_of_zoom)
    → all_of (of_zoom (zoom_of_first c.args.list.now))
    c.args.list.now ≡ c.all_of_zoom.result
zooms c = let l = c.args.list.now in
    sym (c.all_of_zoom.ensures ∙ ap (λ (t : Tile). all_of (of_zoom t.z) l) c.listed.ensures)

pub returns-then-not-all_of_zoom : goal.returns-then-not-all_of_zoom
unfolding max_entries
returns-then-not-all_of_zoom c = sym (list_mixed _ c.if-list-gt-MAX_ENTRIES.false (entries (goal.at.returns-then-not-all_of_zoom c).Else-not-all_entries)
    c.if-list-eq0.false (zooms (goal.at.returns-then-not-all_of_zoom c).After-all_of_zoom ∙ c.if-not-all_of_zoom.true))

pub returns : goal.returns
unfolding max_entries
returns c = sym (one_zoom_accepted
    (record {
      few = c.if-list-gt-MAX_ENTRIES.false;
      entries = entries (goal.at.returns c).Else-not-all_entries;
      some =
          omega arith;
      zooms = zooms (goal.at.returns c).After-all_of_zoom ∙ c.if-not-all_of_zoom.false;
    }))
