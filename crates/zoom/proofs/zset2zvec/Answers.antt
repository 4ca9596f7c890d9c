-- `zoom::zset2zvec` meets its contract: the turn bit says whether the turned number's bits or the set's own are the zooms.
use mathlib.Core.Path.{sym, ap, ◌∙◌}
use mathlib.Core.List.{List}
use Prim.Native.Nat.{ℕ, suc}
use Rattle.errors.specs.Answer.{written}
use Rattle.zoom_bits.specs.Bits.{last_zoom, down_from}
use Rattle.zoom_bits.specs.Passing.{those_of_set}
use Rattle.zoom.specs.Lists.{zooms_turned, zooms_straight}
use Rattle.zoom.proofs.zset2zvec.Goals as goal

pub returns-then-has : goal.returns-then-has
returns-then-has c = let a = c.args in
    let marked = sym c.has.ensures ∙ c.if-has.true in
    c.zooms_into.ensures
    ∙ (rw c.reversed.ensures
    (ap (λ (items : List ℕ). written 0 items a.out.now) (those_of_set (down_from last_zoom a.zset) (suc last_zoom) ∙ sym (zooms_turned a.zset marked))))

pub returns-else-has : goal.returns-else-has
returns-else-has c = let a = c.args in
    let unmarked = sym c.has.ensures ∙ c.if-has.false in
    c.zooms_into-else-has.ensures ∙ ap (λ (items : List ℕ). written 0 items a.out.now) (sym (zooms_straight a.zset unmarked))
