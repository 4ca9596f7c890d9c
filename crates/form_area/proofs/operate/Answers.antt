-- `operate` meets its contract: the three operations by their words.
use Rattle.form.specs.declared.Verb.{Verb}
use Rattle.form_area.specs.Area.{operated}
use mathlib.Core.Path.{sym, ap, ◌∙◌}
use Rattle.form_area.proofs.operate.Goals as goal

pub returns-in-Plus : goal.returns-in-Plus
returns-in-Plus c = let a = c.args in
    c.union.ensures
    ∙ ap (λ (v : Verb). operated v a.a.now a.b.now a.list.now) (sym c.in-Plus.is)

pub returns-in-Both : goal.returns-in-Both
returns-in-Both c = let a = c.args in
    c.common_part.ensures
    ∙ ap (λ (v : Verb). operated v a.a.now a.b.now a.list.now) (sym c.in-Both.is)

pub returns-in-Minus : goal.returns-in-Minus
returns-in-Minus c = let a = c.args in
    c.difference.ensures
    ∙ ap (λ (v : Verb). operated v a.a.now a.b.now a.list.now) (sym c.in-Minus.is)
