-- `keep` meets its contract: a bad key is refused, and the entry of another goes to its place.
use mathlib.Core.Path.{sym, ap, ◌∙◌}
use Prim.Native.Nat.{ℕ}
use lib.ListN.{set}
use lib.Seq.{set_out}
use Rattle.std.proofs.lemmas.Result.{err_from_is_err_and}
use Rattle.errors.specs.Laws.{answer_refused}
use Rattle.form_area.specs.Entries.{key_kept}
use Rattle.form_area.specs.Area.{key_of_run}
use Rattle.quadkey.specs.Key.{key_refusal}
use Rattle.tile.specs.OnMap.{no_tile_of, tile_case}
use Rattle.form_area.proofs.keep.Goals as goal

pub entry-requires : goal.entry-requires
entry-requires c = let run = c.args.run.now in
    (key_kept run c.in_ok-t.t (sym (ap tile_case c.in_ok-t.was) ∙ c.tile_of.ensures)).1

pub returns-then-n-entries : goal.returns-then-n-entries
returns-then-n-entries c = let run = c.args.run.now in
    let k = key_kept run c.in_ok-t.t (sym (ap tile_case c.in_ok-t.was) ∙ c.tile_of.ensures) in (
      k.0,
      ap (λ (e : ℕ). set c.args.entries.now
          c.args.n e) (c.entry.ensures ∙ k.2),
    )

pub returns-else-n-entries : goal.returns-else-n-entries
returns-else-n-entries c = let a = c.args in
    let k = key_kept a.run.now c.in_ok-t.t (sym (ap tile_case c.in_ok-t.was) ∙ c.tile_of.ensures) in
    (k.0, sym (set_out a.entries.now a.n _ c.if-n-entries.false))

pub returns-in_err-t : goal.returns-in_err-t
returns-in_err-t c = let a = c.args in
    let p = err_from_is_err_and c.from_residual.result c.from_residual.ensures.1 in
    rw (p.1, p.2)
    (sym (answer_refused _ (key_refusal (key_of_run a.run.now)) no_tile_of _ (sym (ap tile_case c.in_err-t.was) ∙ c.tile_of.ensures)))
