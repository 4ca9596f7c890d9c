-- `written` meets its contract: the list goes to the part of the memory that is as long.
use mathlib.Core.Path.{refl, sym, ap}
use mathlib.Core.List.{List, ◌++◌}
use Prim.Native.Nat.{ℕ}
use lib.ListN.{length, drop}
use lib.Seq.{length-take-le}
use Rattle.errors.specs.Memory.{written_short, written_done}
use Rattle.form_area.proofs.written.Goals as goal

pub returns-then-out-n : goal.returns-then-out-n
returns-then-out-n c = written_short c.args.list.now c.args.out.now refl c.if-out-n.true

pub slice_bounds-copy_from_slice-end-2 : goal.slice_bounds-copy_from_slice-end-2
slice_bounds-copy_from_slice-end-2 c = let a = c.args in sym (length-take-le (length a.list.now) a.out.now c.if-out-n.false)

pub copy_from_slice-requires : goal.copy_from_slice-requires
copy_from_slice-requires c = let a = c.args in length-take-le (length a.list.now) a.out.now c.if-out-n.false

pub returns : goal.returns
returns c = let a = c.args in
    written_done a.list.now a.out.now _ refl c.if-out-n.false refl
    (ap (λ (l : List ℕ). l ++ drop (length a.list.now) a.out.now) c.copy_from_slice.ensures.after)
