-- `answer` meets its contract: what the call for the area left in 256 places is printed.
use Rattle.std.specs.Prelude.{Ok}
use mathlib.Core.Path.{◌≡◌, sym, ap, ◌∙◌}
use mathlib.Core.List.{List}
use Prim.Native.Nat.{ℕ, ◌≤◌}
use lib.ListN.{length, length-replicate}
use lib.Seq.{length-take-le}
use Rattle.constants.specs.Limits.{form_places}
use Rattle.errors.specs.Answer.{written}
use Rattle.errors.specs.Cases.{left}
use Rattle.form_area.specs.Area.{places, area_written}
use Rattle.form_line.specs.Answered.{area_within, area_fits, list_printed, refusal_printed}
use Rattle.form_line.proofs.answer.Goals as goal
use Rattle.form_line.proofs.answer.Goals.{After-area}

-- the area was asked for in as many places as a form's list has
module _ (c : After-area) where
  abbrev line : List ℕ
  line = c.args.line.now

  wrote : left c.area.result c.area.new.out ≡ area_written line places
  unfolding form_places
  wrote = c.area.ensures

  same : length c.area.new.out ≡ length places
  unfolding form_places
  same = c.area.auto.out

  room : length places ≡ form_places
  room = length-replicate {A = ℕ} form_places 0

  within : {n : ℕ} → c.area.result ≡ Ok n → n ≤ length c.area.new.out
  within p = area_within c.area.result line places _ room wrote same p

pub slice_bounds-list-end : goal.slice_bounds-list-end
slice_bounds-list-end c = within (goal.at.slice_bounds-list-end c).After-area c.in-Ok.is

pub slice_bounds-listed-end : goal.slice_bounds-listed-end
slice_bounds-listed-end c = sym (length-take-le _ c.area.new.out (within (goal.at.slice_bounds-listed-end c).After-area c.in-Ok.is))

pub listed-requires : goal.listed-requires
listed-requires c = area_fits c.area.result (line (goal.at.listed-requires c).After-area) places _ (room (goal.at.listed-requires c).After-area) (wrote (goal.at.listed-requires c).After-area) c.in-Ok.is

pub returns-in-Ok : goal.returns-in-Ok
returns-in-Ok c = let out = c.args.out.now in
    c.listed.ensures
    ∙ ap (λ (l : List ℕ). written 0 l out) (list_printed c.area.result (line (goal.at.returns-in-Ok c).After-area) places _ (room (goal.at.returns-in-Ok c).After-area) (wrote (goal.at.returns-in-Ok c).After-area) c.in-Ok.is)

pub returns-in-Err : goal.returns-in-Err
returns-in-Err c = let out = c.args.out.now in
    c.refused.ensures
    ∙ ap (λ (l : List ℕ). written 0 l out) (refusal_printed c.area.result (line (goal.at.returns-in-Err c).After-area) places _ (room (goal.at.returns-in-Err c).After-area) (wrote (goal.at.returns-in-Err c).After-area) c.in-Err.is)
